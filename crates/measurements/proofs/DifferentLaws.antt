-- Different numbers: what is left without one, in whatever order.
use mathlib.Core.Path.{◌≡◌, refl}
use mathlib.Core.Bool.{true, false, cond}
use mathlib.Core.List.Permᴰ
use mathlib.Core.List.{List, [], ◌∷◌}
use Prim.Native.Nat.{ℕ}
use lib.Dec.{eqb}
use borrow.Author.Tests.{eqb-true}
use Rattle.numbers.proofs.Walk.{cases}
use Rattle.midpoint.specs.Order.{Permuted}
use Rattle.midpoint.proofs.OrderLaws.{permuted_refl}
use Rattle.sync_list.specs.Lists.{is_among}
use Rattle.measurements.specs.Measurements.{without, different}
use Rattle.sync_list.proofs.AmongLaws.{not_among, unequal_sym}
use Rattle.measurements.proofs.PermutedLaws.{rule_permuted}

-- ---- without one

module _ (x y : ℕ) (ys : List ℕ) where
  pub without_met : eqb y x ≡ true → without x (y ∷ ys) ≡ without x ys
  unfolding without
  without_met e = rw e

  without_other : eqb y x ≡ false → without x (y ∷ ys) ≡ y ∷ without x ys
  unfolding without
  without_other e = rw e

pub without_absent : (x : ℕ) (l : List ℕ) → is_among x l ≡ false → without x l ≡ l
unfolding without
without_absent x [] e = refl
without_absent x (y ∷ ys) e =
    let h = not_among x y ys e in
    let rest : without x ys ≡ ys = without_absent x ys h.1 in
    simp (h.0, rest)

pub without_twice : (x : ℕ) (l : List ℕ) → without x (without x l) ≡ without x l
unfolding without
without_twice x [] = refl
without_twice x (y ∷ ys) =
    let rest : without x (without x ys) ≡ without x ys = without_twice x ys in
    cases (eqb y x) (λ e. simp (e, rest)) (λ e. simp (e, rest))

-- two numbers can be left out in either order
without_swap : (x y : ℕ) (l : List ℕ) → without x (without y l) ≡ without y (without x l)
unfolding without
without_swap x y [] = refl
without_swap x y (z ∷ zs) =
    let rest : without x (without y zs) ≡ without y (without x zs) = without_swap x y zs in
    cases (eqb z x)
    (λ a. cases (eqb z y) (λ b. simp (a, b) rest) (λ b. simp (a, b) rest))
    (λ a. cases (eqb z y) (λ b. simp (a, b) rest) (λ b. simp (a, b, rest)))

without_permuted : (x : ℕ) {l m : List ℕ} → Permuted l m → Permuted (without x l) (without x m)
without_permuted x p =
    rule_permuted (without x) (λ y. cond (eqb y x) [] (y ∷ []))
    (λ y ys. cases (eqb y x) (λ e. rw (without_met x y ys e, e)) (λ e. rw (without_other x y ys e, e))) p

-- ---- each once

pub different_permuted : {l m : List ℕ} → Permuted l m → Permuted (different l) (different m)
unfolding different
different_permuted Permᴰ.nil = Permᴰ.nil
different_permuted (Permᴰ.cons {b} {l₁} {l₂} e p) =
    let ih : Permuted (different l₁) (different l₂) = different_permuted p in
    rw e (Permᴰ.cons refl (without_permuted b ih))
different_permuted (Permᴰ.swap {a} {b} {l = l} e g) =
    rw (← e, ← g)
    (cases (eqb b a)
    (λ t. let q : b ≡ a = eqb-true b a t in rw q (permuted_refl (different (a ∷ (a ∷ l)))))
    (λ t. let s : eqb a b ≡ false = unequal_sym b a t in
    rw (without_other a b (without b (different l)) t, without_other b a (without a (different l)) s, without_swap a b (different l)) (Permᴰ.swap refl refl)))
different_permuted (Permᴰ.trans p q) = Permᴰ.trans (different_permuted p) (different_permuted q)
