-- `feed` meets its contract: one turn feeds the bit at this place.
use mathlib.Core.Path.{◌∙◌, ap}
use Prim.Native.Nat.{◌-◌, ◌/◌, ◌^◌}
use mathlib.Core.List.{[], ◌∷◌}
use native.Mathlib.Nat.{sub-zero}
use native.Mathlib.Omega.{arith}
use Rattle.division.specs.Division.{checksum}
use Rattle.division.proofs.MachineLaws.{low_bit}
use Rattle.division.proofs.TurnLaws.{fed, turn_bit, end_bits}
use Rattle.checksum.specs.Checksums.{header_polynomial}
use Rattle.checksum.proofs.feed.Goals as goal

pub loop-place-preserved : goal.loop-place-preserved
loop-place-preserved c =
    let l = c.loop-place in
    let bit = c.step-r.ensures.value ∙ ap (λ b. checksum 11 header_polynomial l.r (b ∷ [])) (low_bit (c.args.n / 2 ^ (l.place - 1))) in
    (c.step-r.ensures.small, rw sub-zero at (turn_bit 11 header_polynomial l.r c.step-r.result c.args.n l.place 0 (omega arith) (rw sub-zero bit)) ∙ l.invariant.1)

pub returns : goal.returns
returns c =
    let l = c.loop-place in
    fed 11 header_polynomial c.args.register l.r _
    (end_bits 11 header_polynomial l.r c.args.n l.place 0 _ (omega arith) l.invariant.0 (rw sub-zero l.invariant.1))
