-- The claims about the settings sheet: the walk over ranges and values, from any number on.
use Prim.Native.Nat.{ℕ, zero, suc, ◌+◌, ◌-◌, ◌<◌}
use mathlib.Core.Path.{◌≡◌, refl, sym, ap, ◌∙◌}
use mathlib.Core.Bool.{Bool, true, false, false≢true, cond}
use mathlib.Core.List.{List, [], ◌∷◌}
use native.Mathlib.Omega.{arith}
use borrow.Author.Tests.{ltb-true, ltb-false}
use lib.Dec.{ltb}
use lib.ListN.{length, get_or}
use Rattle.std.specs.Prelude.{Option, Some, None, unwrap_or}
use Rattle.numbers.proofs.Walk.{cases, cases_in}
use Rattle.settings.specs.declared.Range.{Range}
use Rattle.settings.specs.declared.Settings.{Settings}
use Rattle.settings.specs.Sheet.{field, ◌to◌, ranges, within, first_outside, first_out_of_range}
use Rattle.settings_claims.specs.Sheet.{TypedSettings, range_of, FieldTold, MarkFree, Sheets}

-- the value at a place, counted from 0, is within the range there
fits_at : List Range → List ℕ → ℕ → Bool
fits_at rs vs i = within (get_or rs i (0 to 0)) (get_or vs i 0)

-- Those before a place fit.
abbrev FitBefore : List Range → List ℕ → ℕ → Type 0
FitBefore rs vs n = (i : ℕ) → i < n → fits_at rs vs i ≡ true

-- A walk that counts from m found none, and all values fit, or it found the first that does not.
abbrev Found : List Range → List ℕ → ℕ → Option ℕ → Type 0
Found rs vs m None = FitBefore rs vs (length rs)
Found rs vs m (Some number) = (i : ℕ) × (number ≡ m + i) × (i < length rs) × (fits_at rs vs i ≡ false) × FitBefore rs vs i

found : (m : ℕ) (rs : List Range) (vs : List ℕ) → length vs ≡ length rs → Found rs vs m (first_outside m rs vs)
unfolding first_outside fits_at
found m [] vs long = λ i h. absurd (omega arith)
found m (r ∷ rs) [] long = absurd (omega arith)
found m (r ∷ rs) (v ∷ vs) long =
    cases_in (λ b. Found (r ∷ rs) (v ∷ vs) m (cond b (first_outside (suc m) rs vs) (Some m))) (within r v)
    (λ t. after t (first_outside (suc m) rs vs) (found (suc m) rs vs (omega arith)))
    (λ t. (0, omega arith, omega arith, t, λ j h. absurd (omega arith)))
  where
    more : within r v ≡ true → (n : ℕ) → FitBefore rs vs n → FitBefore (r ∷ rs) (v ∷ vs) (suc n)
    more t n fit zero h = t
    more t n fit (suc i) h = fit i (omega arith)

    after : within r v ≡ true → (rest : Option ℕ) → Found rs vs (suc m) rest → Found (r ∷ rs) (v ∷ vs) m rest
    after t None none = more t (length rs) none
    after t (Some number) out = (suc out.0, out.1 ∙ omega arith, omega (arith, out.2), out.3, more t out.0 out.4)

-- ---- fields are counted from 1

module _ (s : Settings) (typed : TypedSettings s) where
  fits_field : (number : ℕ) → fits_at ranges s.fields (number - 1) ≡ within (range_of number) (field number s)
  unfolding fits_at
  fits_field number = refl

  -- the place behind a field's number
  at_place : (i : ℕ) → fits_at ranges s.fields i ≡ within (range_of (suc i)) (field (suc i) s)
  at_place i =
      let e : suc i - 1 ≡ i = omega arith in
      ap (fits_at ranges s.fields) (sym e) ∙ fits_field (suc i)

  told_of : (answer : Option ℕ) → Found ranges s.fields 1 answer → FieldTold s (unwrap_or answer 0)
  told_of None none = record {
    none = (λ e number is. sym (fits_field number) ∙ none (number - 1) (omega arith), λ all. refl);
    first = λ number is. (
      λ e. absurd (omega arith),
      λ f. absurd (false≢true (sym f.out ∙ sym (fits_field number) ∙ none (number - 1) (omega arith))),
    );
  }
  told_of (Some told) out = record {
    none = (
      λ e. absurd (omega (arith, out.1)),
      λ all. absurd (false≢true (sym out.3 ∙ at_place out.0 ∙ all (suc out.0) (omega arith, omega (arith, out.2)))),
    );
    first = λ number is. (
      λ e.
          let place : out.0 ≡ number - 1 = omega (arith, out.1) in
          record {
            out = sym (fits_field number) ∙ ap (fits_at ranges s.fields) (sym place) ∙ out.3;
            earlier = λ before field less. sym (fits_field before) ∙ out.4 (before - 1) (omega arith);
          },
      λ f.
          let out-here : fits_at ranges s.fields (number - 1) ≡ false = fits_field number ∙ f.out in
          cases (ltb out.0 (number - 1))
          (λ t.
          let less = ltb-true out.0 (number - 1) t in
          absurd (false≢true (sym out.3 ∙ at_place out.0 ∙ f.earlier (suc out.0) (omega arith, omega (arith, out.2)) (omega arith))))
          (λ t.
          let most = ltb-false out.0 (number - 1) t in
          cases (ltb (number - 1) out.0)
          (λ u. absurd (false≢true (sym out-here ∙ out.4 (number - 1) (ltb-true (number - 1) out.0 u))))
          (λ u. out.1 ∙ omega (arith, ltb-false (number - 1) out.0 u))),
    );
  }

-- the mark is not looked at
pub mark_free : MarkFree
mark_free mark s = refl

pub sheets : Sheets
sheets s typed = told_of s typed (first_out_of_range s) (found 1 ranges s.fields typed)
