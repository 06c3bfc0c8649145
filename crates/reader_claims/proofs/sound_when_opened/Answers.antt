-- From the contract of opening alone.
use Rattle.std.proofs.Common.{◌∙◌}
use Rattle.reader_claims.proofs.Soundness.{open_sound}
use Rattle.reader_claims.proofs.sound_when_opened.Goals as goal

pub returns : goal.returns
returns c = c.is_sound.ensures ∙ open_sound c.args.channel c.open_reader.result c.open_reader.ensures
