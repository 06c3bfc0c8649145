-- The three events: what each answers, and the status that comes back.
use Rattle.std.specs.Prelude.{ℕ, ◌≡◌, not, List, [], ◌∷◌, Result}
use Rattle.refusal.specs.Answer.{number_in}
use Rattle.refusal.specs.Refusal.{Line, ◌when◌, first, if_accepted}
use Rattle.refusal.specs.declared.Answered.{Answered}
use Rattle.slot.specs.declared.status.Status.{Status}
use Rattle.slot.specs.Sound.{sound}
use Rattle.slot_events.specs.declared.NotSound.{NotSound}
use Rattle.slot_events.specs.Effect.{Event, after}

-- The number of a refusal that has just one cause.
abbrev pub refusal_number : NotSound → ℕ
refusal_number refusal = 23

-- An event is recorded, or the status is not sound.
abbrev pub Recording : Type 0
Recording = Result Unit NotSound

abbrev pub Judged : Type 0
Judged = Answered Unit NotSound Status

-- What the answer says in 01's numbers.
abbrev pub told : Recording → ℕ
told answer = number_in refusal_number answer

-- "Slot event: 23": "a state handed in isn't sound".
abbrev pub event_refusals : Status → List Line
event_refusals s = 23 when not (sound s) ∷ []

-- The status that comes back: what the event leaves, or, with a refusal, the one that was handed in.
abbrev pub left_by : Status → Event → Status
left_by s e = if_accepted (first (event_refusals s)) (after s e) s

-- The answer's number is the refusal, and the status is the one that comes back.
pub record EventSays (s : Status) (e : Event) (r : Judged) : Type 0 where
  pub answers : told r.answer ≡ first (event_refusals s)
  pub leaves : r.state ≡ left_by s e
