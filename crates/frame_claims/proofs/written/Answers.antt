-- `written`: what lies at the front of the output is the one frame with these fields and this payload.
use Rattle.frame_claims.proofs.Witnesses.{wrote}
use Rattle.frame_claims.proofs.written.Goals as goal

pub returns : goal.returns
returns c =
    wrote c.args.channel c.args.fields c.args.payload.now c.args.output.now c.write.new.output c.write.result c.write.ensures (λ i. (c.type_inv.payload i).fits)
