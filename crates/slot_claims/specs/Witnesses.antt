-- What the witnesses show: the claims, of what the code answers.
use Rattle.std.specs.Prelude.{ℕ, ◌≡◌, true, List, map}
use Rattle.refusal.specs.Refusal.{first, InOrder}
use Rattle.base_types.specs.declared.id.Slot.{Slot}
use Rattle.base_types.specs.declared.cycle.Cycle.{Cycle}
use Rattle.settings.specs.declared.Settings.{Settings}
use Rattle.slot.specs.declared.status.Status.{Status}
use Rattle.slot.specs.Judging.{place_by, fresh, no_status}
use Rattle.slot.specs.Opening as opening
use Rattle.slot.specs.Opening.{opening_refusals, Opened}
use Rattle.slot.specs.Sound.{sound}
use Rattle.slot_events.specs.Effect.{Event, arrival, boundary_activity, own_sending, after}
use Rattle.slot_events.specs.Events as event
use Rattle.slot_events.specs.Events.{event_refusals, Judged}
use Rattle.settings_claims.specs.Sheet.{FieldTold}
use Rattle.slot_claims.specs.declared.SlotEvent.{SlotEvent}
use Rattle.slot_claims.specs.declared.SlotEvent.TheVariants.{Boundary, Sent, Arrived}
use Rattle.slot_claims.specs.Histories.{History}

-- `opened`: the number comes in 01's order, and the field is the first out of range; a slot that is opened has a fresh status, which is
-- sound, and beside a refusal all is zero.
pub record OpenedWell (settings : Settings) (channel : ℕ) (slot : Slot) (cycle : Cycle) (r : Opened) : Type 0 where
  pub in_order : InOrder (opening_refusals settings channel slot cycle) (opening.told r.answer).number
  pub field : FieldTold settings (opening.told r.answer).field
  pub accepted : (opening.told r.answer).number ≡ 0 → (r.state ≡ fresh (place_by settings channel slot cycle)) × (sound r.state ≡ true)
  pub refused : ((opening.told r.answer).number ≡ 0 → ⊥) → r.state ≡ no_status

-- `judged_arrival`, `judged_boundary`, `judged_sending`: the number comes in 01's order; a recorded event leaves what the rule says, which
-- is sound, and a refused one the very status that was handed in.
pub record JudgedWell (s : Status) (e : Event) (r : Judged) : Type 0 where
  pub in_order : InOrder (event_refusals s) (event.told r.answer)
  pub accepted : event.told r.answer ≡ 0 → (r.state ≡ after s e) × (sound r.state ≡ true)
  pub refused : (event.told r.answer ≡ 0 → ⊥) → r.state ≡ s

-- `played`: the events that the witness is handed, bytes behind a reference for an arrival.
abbrev pub event_of : SlotEvent → Event
event_of Boundary = boundary_activity
event_of Sent = own_sending
event_of (Arrived bytes) = arrival bytes.now

abbrev pub events_of : List SlotEvent → List Event
events_of events = map event_of events

-- In a slot that is opened the status is that of the history; where opening is refused it stays all zeros.
pub record Played (settings : Settings) (channel : ℕ) (slot : Slot) (cycle : Cycle) (sequence : List Event) (s : Status) : Type 0 where
  pub opened : first (opening_refusals settings channel slot cycle) ≡ 0 → History (place_by settings channel slot cycle) sequence s
  pub refused : (first (opening_refusals settings channel slot cycle) ≡ 0 → ⊥) → s ≡ no_status
