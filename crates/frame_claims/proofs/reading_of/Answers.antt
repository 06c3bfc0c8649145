-- `reading_of` is accepted with a header exactly where the bytes are a frame with it.
use Rattle.frame_claims.proofs.Witnesses.{reading_of}
use Rattle.frame_claims.proofs.reading_of.Goals as goal

pub returns : goal.returns
returns c = reading_of c.args.channel c.args.bytes.now c.read.result (λ i. (c.type_inv.bytes i).fits) c.read.ensures
