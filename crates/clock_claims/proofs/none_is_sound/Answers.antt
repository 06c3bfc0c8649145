-- `none_is_sound` meets its contract: the all-zero state is not sound.
use mathlib.Core.Path.{ap, ◌∙◌}
use Rattle.clock.specs.Sound.{sound}
use Rattle.clock_claims.proofs.Sound.{no_clock_unsound}
use Rattle.clock_claims.proofs.none_is_sound.Goals as goal

pub returns : goal.returns
returns c =
    c.is_sound.ensures ∙ ap sound c.none.ensures ∙ no_clock_unsound
