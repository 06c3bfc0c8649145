-- `filled` meets its contract: ten bits more are held, where there were too few.
use native.Mathlib.Omega.{arith}
use Rattle.wire.proofs.PackingLaws.{same_to_come, length-tens}
use Rattle.wire.proofs.packing.Pending.filled.Goals as goal

pub returns : goal.returns
returns c =
    let p = c.args.self in
    let there = c.requires.taken_in_bounds (omega arith) in
    record {
      same =
          same_to_come p.held p.count p.taken c.ten-next.result c.args.bytes.now (omega arith) there c.ten-next.ensures.value
          c.ten-next.ensures.upper_bound;
      enough = omega arith;
      few = omega arith;
      taken = omega (arith, length-tens c.args.bytes.now);
    }
