-- Rules that take something from each element, one after another: in whatever order.
use mathlib.Core.Path.{◌≡◌, refl, sym, ap, ap₂, ◌∙◌}
use mathlib.Core.List.Permᴰ
use mathlib.Core.List.{List, [], ◌∷◌, ◌++◌, map}
use Rattle.midpoint.specs.Order.{Permuted}
use Rattle.midpoint.proofs.OrderLaws.{permuted_refl, permuted_sym}

-- two lists before a third can stand in either order
fronts_swap : {X : Type 0} (xs ys l : List X) → Permuted (xs ++ (ys ++ l)) (ys ++ (xs ++ l))
fronts_swap [] ys l = permuted_refl (ys ++ l)
fronts_swap (x ∷ xs) ys l =
    Permᴰ.trans (Permᴰ.cons refl (fronts_swap xs ys l)) (permuted_sym (Permᴰ.middle x ys (xs ++ l)))

module _ {X Y : Type 0} (rule : List X → List Y) (front : X → List Y) (each : (x : X) (xs : List X) → rule (x ∷ xs) ≡ front x ++ rule xs) where
  pub rule_permuted : {l m : List X} → Permuted l m → Permuted (rule l) (rule m)
  rule_permuted Permᴰ.nil = permuted_refl (rule [])
  rule_permuted (Permᴰ.cons {a} {b} {l₁} {l₂} e p) =
      let ih : Permuted (rule l₁) (rule l₂) = rule_permuted p in
      rw (e, each b l₁, each b l₂) (Permᴰ.append_left (front b) ih)
  rule_permuted (Permᴰ.swap {a} {b} {l = l} e g) =
      rw (← e, ← g, each a (b ∷ l), each b l, each b (a ∷ l), each a l) (fronts_swap (front a) (front b) (rule l))
  rule_permuted (Permᴰ.trans p q) = Permᴰ.trans (rule_permuted p) (rule_permuted q)

-- a rule that joins each element to the rest gives the same, where two can be joined in either order
module _ {X R : Type 0} (rule : List X → R) (join : X → R → R) (each : (x : X) (xs : List X) → rule (x ∷ xs) ≡ join x (rule xs))
    (either : (x y : X) (r : R) → join x (join y r) ≡ join y (join x r)) where
  pub fold_permuted : {l m : List X} → Permuted l m → rule l ≡ rule m
  fold_permuted Permᴰ.nil = refl
  fold_permuted (Permᴰ.cons {a} {b} {l₁} {l₂} e p) = each a l₁ ∙ ap₂ join e (fold_permuted p) ∙ sym (each b l₂)
  fold_permuted (Permᴰ.swap {a} {b} {a'} {b'} {l} e₁ e₂) =
      each a (b ∷ l)
      ∙ ap (join a) (each b l)
      ∙ either a b (rule l)
      ∙ ap₂ (λ (x y : X). join x (join y (rule l))) e₂ e₁
      ∙ sym (each a' (b' ∷ l) ∙ ap (join a') (each b' l))
  fold_permuted (Permᴰ.trans p q) = fold_permuted p ∙ fold_permuted q

pub map_permuted : {X Y : Type 0} (f : X → Y) {l m : List X} → Permuted l m → Permuted (map f l) (map f m)
map_permuted f p = rule_permuted (map f) (λ x. f x ∷ []) (λ x xs. refl) p
