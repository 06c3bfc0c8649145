-- From the contract of listening alone.
use Rattle.std.proofs.Common.{◌∙◌}
use Rattle.reader_claims.proofs.Soundness.{listen_sound}
use Rattle.reader_claims.proofs.sound_behind.Goals as goal

pub returns : goal.returns
returns c =
    c.is_sound.ensures
    ∙ listen_sound c.args.reader c.args.samples.now c.args.memory.now _ c.listen.result c.listen.ensures
