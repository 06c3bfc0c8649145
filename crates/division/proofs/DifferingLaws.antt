-- Laws of the differing places: two strings of one length agree before the first and after the last, and are one string where
-- no place differs.
use Prim.Native.Nat.{ℕ, zero, suc, ◌+◌, ◌≤◌, ◌<◌}
use mathlib.Core.Path.{◌≡◌, refl, sym, ap, ◌∙◌}
use mathlib.Core.Bool.{Bool, true, false, cond, false≢true}
use mathlib.Core.List.{List, [], ◌∷◌}
use native.Mathlib.Omega.{arith}
use lib.Dec.{eqb}
use lib.ListN.{length, get_or}
use lib.Seq.{ext_get_or}
use borrow.Author.Tests.{eqb-true, eqb-false}
use Rattle.division.specs.Bits.{bit}
use Rattle.division.specs.Division.{◌⊕◌, exor}
use Rattle.division.specs.Differing.{ones, first_one, last_one, differing, first_differing, last_differing, DifferWithin}
use Rattle.division.proofs.ExorLaws.{xor_same, xor_zero, zeros}

-- ---- ones of a string

no_ones : (l : List Bool) → ones l ≡ 0 → (j : ℕ) → get_or l j false ≡ false
unfolding ones
no_ones [] e j = refl
no_ones (true ∷ l) e j = absurd (omega arith)
no_ones (false ∷ l) e zero = refl
no_ones (false ∷ l) e (suc j) = no_ones l (omega arith) j

pub ones_zeros : (n : ℕ) → ones (zeros n) ≡ 0
unfolding ones zeros
ones_zeros zero = refl
ones_zeros (suc n) = omega (arith, ones_zeros n)

before_first : (l : List Bool) (j : ℕ) → j < first_one l → get_or l j false ≡ false
unfolding first_one
before_first [] j h = refl
before_first (true ∷ l) j h = absurd (omega arith)
before_first (false ∷ l) zero h = refl
before_first (false ∷ l) (suc j) h = before_first l j (omega arith)

after_last : (l : List Bool) (j : ℕ) → last_one l < j → get_or l j false ≡ false
unfolding last_one
after_last [] j h = refl
after_last (b ∷ l) zero h = absurd (omega arith)
after_last (b ∷ l) (suc j) h = go (eqb (ones l) 0) refl h (after_last l j)
  where
    go : (z : Bool) → eqb (ones l) 0 ≡ z → cond z 0 (suc (last_one l)) < suc j → (last_one l < j → get_or l j false ≡ false)
        → get_or l j false ≡ false
    go true e h ih = no_ones l (eqb-true _ _ e) j
    go false e h ih = ih (omega arith)

first_is_one : (l : List Bool) → (ones l ≡ 0 → ⊥) → get_or l (first_one l) false ≡ true
unfolding ones first_one
first_is_one [] h = absurd (h refl)
first_is_one (true ∷ l) h = refl
first_is_one (false ∷ l) h = first_is_one l (λ e. h (omega arith))

last_is_one : (l : List Bool) → (ones l ≡ 0 → ⊥) → get_or l (last_one l) false ≡ true
unfolding ones last_one
last_is_one [] h = absurd (h refl)
last_is_one (b ∷ l) h = go (eqb (ones l) 0) refl b h (last_is_one l)
  where
    go : (z : Bool) → eqb (ones l) 0 ≡ z → (b : Bool) → (bit b + ones l ≡ 0 → ⊥) → ((ones l ≡ 0 → ⊥) → get_or l (last_one l) false ≡ true)
        → get_or (b ∷ l) (cond z 0 (suc (last_one l))) false ≡ true
    go true e true h ih = refl
    go true e false h ih = absurd (h (omega (arith, eqb-true (ones l) 0 e)))
    go false e b h ih = ih (eqb-false (ones l) 0 e)

-- ---- two strings

get_d_exor : (x y : List Bool) (j : ℕ) → length x ≡ length y → get_or (exor x y) j false ≡ get_or x j false ⊕ get_or y j false
unfolding exor
get_d_exor [] [] j e = refl
get_d_exor [] (b ∷ y) j e = absurd (omega arith)
get_d_exor (a ∷ x) [] j e = absurd (omega arith)
get_d_exor (a ∷ x) (b ∷ y) zero e = refl
get_d_exor (a ∷ x) (b ∷ y) (suc j) e = get_d_exor x y j (omega arith)

module _ (x y : List Bool) (e : length x ≡ length y) where
  same_at : (j : ℕ) → get_or (exor x y) j false ≡ false → get_or x j false ≡ get_or y j false
  same_at j h = xor_zero (get_or x j false) (get_or y j false) (sym (get_d_exor x y j e) ∙ h)

  pub same_before : (j : ℕ) → j < first_differing x y → get_or x j false ≡ get_or y j false
  unfolding first_differing
  same_before j h = same_at j (before_first (exor x y) j h)

  pub same_after : (j : ℕ) → last_differing x y < j → get_or x j false ≡ get_or y j false
  unfolding last_differing
  same_after j h = same_at j (after_last (exor x y) j h)

  -- a place where the exclusive or has a 1 differs
  differs_at : (j : ℕ) → get_or (exor x y) j false ≡ true → get_or x j false ≡ get_or y j false → ⊥
  differs_at j h q =
      false≢true
      (sym (xor_same (get_or y j false)) ∙ ap (λ (z : Bool). z ⊕ get_or y j false) (sym q) ∙ sym (get_d_exor x y j e) ∙ h)

  -- no place differs
  pub differing_zero : differing x y ≡ 0 → x ≡ y
  unfolding differing
  differing_zero h = ext_get_or false x y e (λ j _. same_at j (no_ones (exor x y) h j))

  -- the first and the last place do differ, so what holds all differences reaches from one to the other
  pub window_apart : (w : ℕ) → (x ≡ y → ⊥) → first_differing x y + w ≤ last_differing x y → (i : ℕ) → DifferWithin x y i w → ⊥
  unfolding first_differing last_differing differing
  window_apart w differ far i within =
      let some : ones (exor x y) ≡ 0 → ⊥ = λ h. differ (differing_zero h) in
      let low : (i ≤ first_one (exor x y)) × (first_one (exor x y) < i + w) =
      within (first_one (exor x y)) (differs_at (first_one (exor x y)) (first_is_one (exor x y) some)) in
      let high : (i ≤ last_one (exor x y)) × (last_one (exor x y) < i + w) =
      within (last_one (exor x y)) (differs_at (last_one (exor x y)) (last_is_one (exor x y) some)) in
      omega arith
