-- `both_accepted`: where both strings are frames, they are far apart.
use Rattle.frame_claims.proofs.Witnesses.{not_both, both_apart}
use Rattle.frame_claims.proofs.both_accepted.Goals as goal

pub returns-then-accepts : goal.returns-then-accepts
returns-then-accepts c =
    both_apart c.args.channel c.args.x.now c.args.y.now c.accepts.result c.accepts-then-accepts.result c.accepts.ensures
    c.if-accepts.true c.accepts-then-accepts.ensures

pub returns-else-accepts : goal.returns-else-accepts
returns-else-accepts c =
    not_both c.args.channel c.args.x.now c.args.y.now c.accepts.result c.accepts.ensures c.if-accepts.false
