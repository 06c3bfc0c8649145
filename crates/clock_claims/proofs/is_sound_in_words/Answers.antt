-- `is_sound_in_words` meets its contract: soundness is 01's sentence.
use borrow.Author.Rules.{rules}
use Rattle.numbers.proofs.Walk.{length-of_mapped}
use Rattle.clock_claims.specs.Typed.{TypedClock}
use Rattle.clock_claims.proofs.Typed.{typed_by}
use mathlib.Core.Path.{sym, ◌∙◌}
use Rattle.clock_claims.proofs.Sound.{sound_exactly}
use Rattle.clock_claims.proofs.is_sound_in_words.Goals as goal
use Rattle.clock_claims.proofs.is_sound_in_words.Goals.{Start}

typed : (c : Start) → TypedClock c.args.state
typed c = search (rules, length-of_mapped, typed_by)

pub returns : goal.returns
returns c =
    let exact = sound_exactly c.args.state (typed (goal.at.returns c).Start) in
    (λ e. exact.0 (sym c.is_sound.ensures ∙ e), λ s. c.is_sound.ensures ∙ exact.1 s)
