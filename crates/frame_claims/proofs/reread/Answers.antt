-- `reread`: what was written is read as a header with the same fields.
use Rattle.frame_claims.proofs.Witnesses.{was_reread}
use Rattle.frame_claims.proofs.reread.Goals as goal

pub returns : goal.returns
returns c =
    was_reread c.args.channel c.args.fields c.args.payload.now c.args.output.now c.sent.result.now c.read.result
    c.sent.ensures c.read.ensures
