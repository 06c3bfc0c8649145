-- What the type of a status says: its sheet has eleven fields. It is the one hypothesis that claims take.
use Rattle.settings_claims.specs.Sheet.{TypedSettings}
use Rattle.slot.specs.declared.status.Status.{Status}
use Rattle.slot.specs.Judging.{Place, fresh, no_status}
use Rattle.slot_events.specs.Effect.{Event, after}

-- It holds of every status that a rule gives: of a fresh one, of the all-zero one, and after any event.
pub record TypedAgain : Type 0 where
  pub opened : (p : Place) → TypedSettings p.settings → TypedSettings (fresh p).settings
  pub refused : TypedSettings no_status.settings
  pub events : (s : Status) (e : Event) → TypedSettings s.settings → TypedSettings (after s e).settings
