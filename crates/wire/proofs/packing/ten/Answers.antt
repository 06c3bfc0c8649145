-- `ten` meets its contract: the ten bits of a byte, or those of the end.
use borrow.Author.Tests.{ltb-true, ltb-false}
use mathlib.Core.Path.{sym}
use native.Mathlib.Omega.{arith}
use lib.ListN.{length}
use Rattle.wire.proofs.PackingLaws.{ten_of_byte, ten_of_end}
use Rattle.wire.proofs.packing.ten.Goals as goal

pub returns-in-Some-clause-value : goal.returns-in-Some-clause-value
returns-in-Some-clause-value c =
    let e = ten_of_byte c.args.bytes.now c.args.i c.in-Some.byte.now (ltb-true c.args.i (length c.args.bytes.now) (sym c.in-Some.ensures.lookup.0)) in
    omega (arith, c.in-Some.ensures.lookup.1)

pub returns-in-None-clause-value : goal.returns-in-None-clause-value
returns-in-None-clause-value c =
    let behind = ltb-false c.args.i (length c.args.bytes.now) (sym c.in-None.ensures.lookup.0) in
    sym (ten_of_end c.args.bytes.now c.args.i (omega arith))
