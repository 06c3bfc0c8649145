-- `encoded`: the bits of a frame lie at the front of the output, or nothing is touched.
use mathlib.Core.Path.{sym, subst}
use Rattle.wire_claims.specs.Streams.{EncodedBits}
use Rattle.wire_claims.proofs.Witnesses.{encoded_bits}
use Rattle.wire_claims.proofs.encoded.Goals as goal

pub returns : goal.returns
returns c =
    let a = c.args in
    let after = c.encode.new.output in
    subst (EncodedBits a.channel a.bytes.now a.start a.output.now after) (sym c.unwrap_or.ensures)
    (encoded_bits a.channel a.bytes.now a.start a.output.now after c.encode.result c.encode.ensures
    (λ i. (c.type_inv.bytes i).fits))
