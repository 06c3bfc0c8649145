-- `answered`: where reading refuses the bytes, its answer comes back.
use Rattle.wire_claims.proofs.Answers.{encode_as_read}
use Rattle.wire_claims.proofs.answered.Goals as goal

pub returns : goal.returns
returns c =
    let a = c.args in
    encode_as_read a.channel a.bytes.now a.start a.output.now c.encode.new.output c.encode.result c.encode.ensures
