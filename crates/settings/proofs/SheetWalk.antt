-- The first field out of its range, by its place in the table of ranges with the values beside them.
use Prim.Native.Nat.{ℕ, suc, ◌+◌}
use mathlib.Core.Path.{◌≡◌, refl, ap, ◌∙◌}
use mathlib.Core.Bool.{Bool, true, false, not, cond}
use mathlib.Core.List.{List, [], ◌∷◌}
use native.Mathlib.Numerals.{add-one}
use Rattle.std.specs.Prelude.{Some}
use Rattle.std.specs.List.{zip, position_from}
use Rattle.std.specs.Option.{option_map}
use Rattle.settings.specs.declared.Range.{Range}
use Rattle.settings.specs.Sheet.{within, misfit, first_outside}

-- places are counted from 0, and fields from 1
pub place_lem : (place : ℕ) (rs : List Range) (vs : List ℕ) → option_map (λ n. n + 1) (position_from misfit place (zip rs vs)) ≡ first_outside (place + 1) rs vs
unfolding first_outside
place_lem place [] vs = refl
place_lem place (r ∷ rs) [] = refl
place_lem place (r ∷ rs) (v ∷ vs) = at (within r v) (place_lem (place + 1) rs vs ∙ ap (λ n. first_outside n rs vs) (add-one (place + 1)))
  where
    at : (b : Bool) → option_map (λ n. n + 1) (position_from misfit (place + 1) (zip rs vs)) ≡ first_outside (suc (place + 1)) rs vs
        → option_map (λ n. n + 1) (cond (not b) (Some place) (position_from misfit (place + 1) (zip rs vs)))
        ≡ cond b (first_outside (suc (place + 1)) rs vs) (Some (place + 1))
    at true rest = rest
    at false rest = refl
