-- `read_number` is told by 01's order.
use mathlib.Core.Path.{sym, subst}
use Rattle.refusal.specs.Refusal.{InOrder}
use Rattle.frame.specs.Read.{refusals}
use Rattle.frame_claims.proofs.Answers.{read_in_order}
use Rattle.frame_claims.proofs.read_number.Goals as goal

pub returns : goal.returns
returns c =
    subst (InOrder (refusals c.args.channel c.args.bytes.now)) (sym c.number.ensures)
    (read_in_order c.args.channel c.args.bytes.now c.read.result c.read.ensures)
