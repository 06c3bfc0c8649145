-- `reread_payload`: the payload of what was written is the one that was given.
use Rattle.frame_claims.proofs.Witnesses.{payload_reread}
use Rattle.frame_claims.proofs.reread_payload.Goals as goal

pub returns : goal.returns
returns c =
    payload_reread c.args.channel c.args.fields c.args.payload.now c.args.output.now c.sent.result.now c.payload.result.now
    c.sent.ensures c.payload.ensures.payload_says
