-- `refused` answers by the channel number alone.
use mathlib.Core.Path.{◌∙◌}
use Rattle.checksum_claims.proofs.FrameChecksum.{is_refused, refused_exactly}
use Rattle.checksum_claims.proofs.refused.Goals as goal

pub returns : goal.returns
returns c =
    let r = c.frame_checksum in
    c.is_err.ensures.value ∙ is_refused r.result ∙ refused_exactly c.args.channel c.args.bytes.now r.result r.ensures
