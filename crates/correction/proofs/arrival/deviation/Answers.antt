-- `deviation` meets its contract: four parts subtracted in 64 bits, where none is cut.
use Prim.Native.Nat.{ℕ, ◌<◌, ◌^◌}
use native.Mathlib.Omega.{arith}
use lib.IntN.{pos, ◌-ℤ◌}
use mir.Syntax.{w64}
use mir.Val.{SFits}
use mir.Facts.{to_z-of_z}
use Rattle.numbers.proofs.Signed.{signed, sub_sums}
use Rattle.correction.specs.Deviation.{deviation}
use Rattle.correction.proofs.arrival.deviation.Goals as goal

small : (n : ℕ) → n < 2 ^ 32 → SFits w64 (pos n)
small n h = omega signed

-- the three differences, each of which an i64 holds
module _ (o k d p : ℕ) (o-small : o < 2 ^ 32) (k-small : k < 2 ^ 32) (d-small : d < 2 ^ 32) (p-small : p < 2 ^ 32) where
  corrected : SFits w64 (pos o -ℤ pos k)
  corrected = omega (signed, sub_sums (pos o) (pos k))

  sent : SFits w64 (pos o -ℤ pos k -ℤ pos d)
  sent = let x = pos o in let y = pos k in omega (signed, sub_sums x y, sub_sums (x -ℤ y) (pos d))

  due : SFits w64 (deviation o k d p)
  due =
      let x = pos o in
      let y = pos k in
      let z = pos d in
      omega (signed, sub_sums x y, sub_sums (x -ℤ y) z, sub_sums (x -ℤ y -ℤ z) (pos p))

pub returns : goal.returns
returns c =
    let a = c.args in
    let o : a.observed.0 < 2 ^ 32 = omega arith in
    let k : a.correction < 2 ^ 32 = omega arith in
    let d : a.delay < 2 ^ 32 = omega arith in
    let p : a.action_point.0 < 2 ^ 32 = omega arith in
    rw (
      c.from.ensures,
      c.from-2.ensures,
      c.from-3.ensures,
      c.from-4.ensures,
      to_z-of_z (small _ o),
      to_z-of_z (small _ k),
      to_z-of_z (small _ d),
      to_z-of_z (small _ p),
      to_z-of_z (corrected _ _ _ _ o k d p),
      to_z-of_z (sent _ _ _ _ o k d p),
      to_z-of_z (due _ _ _ _ o k d p),
    ) at c.holding.ensures
