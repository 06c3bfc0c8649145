-- `on_both` answers no: what is accepted on A is not accepted on B.
use Rattle.frame_claims.proofs.Witnesses.{never_both}
use Rattle.frame_claims.proofs.on_both.Goals as goal

pub returns-then-accepts : goal.returns-then-accepts
returns-then-accepts c =
    never_both c.args.bytes.now c.accepts.result c.accepts-then-accepts.result c.accepts.ensures c.if-accepts.true c.accepts-then-accepts.ensures
