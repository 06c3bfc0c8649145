-- Whether a number is among others, and whether none stands twice.
use mathlib.Core.Path.{◌≡◌, refl, sym, ap}
use mathlib.Core.Bool.{true, false, not}
use mathlib.Core.List.{List, [], ◌∷◌, ◌++◌}
use Prim.Native.Nat.{ℕ}
use lib.Dec.{eqb}
use borrow.Author.Tests.{eqb-false, ne_eqb, not-true}
use Rattle.numbers.proofs.Truth.{both_true, true_both, neither}
use Rattle.sync_list.specs.Lists.{is_among, none_twice}

pub unequal_sym : (a b : ℕ) → eqb a b ≡ false → eqb b a ≡ false
unequal_sym a b e = ne_eqb b a (λ q. eqb-false a b e (sym q))

-- it is neither the first nor among the rest
pub not_among : (id x : ℕ) (xs : List ℕ) → is_among id (x ∷ xs) ≡ false → (eqb x id ≡ false) × (is_among id xs ≡ false)
unfolding is_among
not_among id x xs e = neither (eqb x id) (is_among id xs) e

-- the first is not among the rest, of which none stands twice
pub none_twice_lem : (x : ℕ) (xs : List ℕ) → none_twice (x ∷ xs) ≡ true → (is_among x xs ≡ false) × (none_twice xs ≡ true)
unfolding none_twice
none_twice_lem x xs e =
    let h = both_true (not (is_among x xs)) (none_twice xs) e in
    (not-true (is_among x xs) h.0, h.1)

-- ---- a number put after the others

pub among_end : (y x : ℕ) (xs : List ℕ) → is_among y xs ≡ false → eqb x y ≡ false → is_among y (xs ++ (x ∷ [])) ≡ false
unfolding is_among
among_end y x [] e q = rw q
among_end y x (z ∷ zs) e q = let h = not_among y z zs e in rw h.0 (among_end y x zs h.1 q)

pub none_twice_end : (x : ℕ) (xs : List ℕ) → none_twice xs ≡ true → is_among x xs ≡ false → none_twice (xs ++ (x ∷ [])) ≡ true
unfolding none_twice is_among
none_twice_end x [] n e = refl
none_twice_end x (y ∷ ys) n e =
    let h = none_twice_lem y ys n in
    let g = not_among x y ys e in
    let ih : none_twice (ys ++ (x ∷ [])) ≡ true = none_twice_end x ys h.1 g.1 in
    true_both (not (is_among y (ys ++ (x ∷ [])))) (none_twice (ys ++ (x ∷ []))) (ap not (among_end y x ys h.0 (unequal_sym y x g.0))) ih
