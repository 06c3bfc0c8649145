-- `encode_number` is told by the order, and with a refusal the output is as it was.
use mathlib.Core.Path.{sym, subst}
use Rattle.wire_claims.specs.Answers.{NumberTold}
use Rattle.wire_claims.proofs.Witnesses.{number_told}
use Rattle.wire_claims.proofs.encode_number.Goals as goal

pub returns : goal.returns
returns c =
    let a = c.args in
    let after = c.encode.new.output in
    subst (NumberTold a.channel a.bytes.now a.start a.output.now after) (sym c.number.ensures)
    (number_told a.channel a.bytes.now a.start a.output.now after c.encode.result c.encode.ensures)
