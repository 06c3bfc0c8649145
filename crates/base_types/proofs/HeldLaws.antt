-- What the signed type holds: a number that fits it as it is, 0 for any other.
use mathlib.Core.Path.{◌≡◌}
use mathlib.Core.Bool.{true}
use native.Mathlib.Omega.{arith}
use lib.IntN.{ℤ}
use lib.Signed.{le_z}
use mir.Syntax.{w32}
use mir.Val.{SFits}
use Rattle.numbers.proofs.Signed.{sfits_parts, sums_le}
use Rattle.base_types.specs.Microtick.{lowest_held, highest_held, held}

module _ (z : ℤ) where
  pub held_fits : SFits w32 z → held z ≡ z
  held_fits f =
      let h = sfits_parts f in
      let low : le_z lowest_held z ≡ true = sums_le lowest_held z (omega arith) in
      let high : le_z z highest_held ≡ true = sums_le z highest_held (omega arith) in
      rw (low, high)
