-- Claims about the answers of opening a slot and of each event, of any that their statements allow. The customer's first condition asks
-- that each takes any number, bytes and state and answers, or gives a refusal number of 01 in 01's order, and that a refusal changes no
-- state; 01 asks that a statement determines the answer and the state.
use Rattle.std.specs.Prelude.{ℕ, ◌≡◌}
use Rattle.refusal.specs.Refusal.{InOrder}
use Rattle.base_types.specs.declared.id.Slot.{Slot}
use Rattle.base_types.specs.declared.cycle.Cycle.{Cycle}
use Rattle.settings.specs.declared.Settings.{Settings}
use Rattle.slot.specs.declared.status.Status.{Status}
use Rattle.slot.specs.Judging.{no_status}
use Rattle.slot.specs.Opening as opening
use Rattle.slot.specs.Opening.{opening_refusals, Opened, OpenSays}
use Rattle.slot_events.specs.Effect.{Event}
use Rattle.slot_events.specs.Events as event
use Rattle.slot_events.specs.Events.{event_refusals, Judged, EventSays}

-- ---- any two results that a statement allows are equal: answer and whole status

abbrev pub OpenOne : Type 0
OpenOne =
    (settings : Settings) (channel : ℕ) (slot : Slot) (cycle : Cycle) (r s : Opened)
    → OpenSays settings channel slot cycle r → OpenSays settings channel slot cycle s → r ≡ s

abbrev pub EventOne : Type 0
EventOne = (status : Status) (e : Event) (r s : Judged) → EventSays status e r → EventSays status e s → r ≡ s

-- ---- the number is the first of 01's order whose condition holds

abbrev pub OpenInOrder : Type 0
OpenInOrder =
    (settings : Settings) (channel : ℕ) (slot : Slot) (cycle : Cycle) (r : Opened) → OpenSays settings channel slot cycle r
    → InOrder (opening_refusals settings channel slot cycle) (opening.told r.answer).number

abbrev pub EventInOrder : Type 0
EventInOrder =
    (status : Status) (e : Event) (r : Judged) → EventSays status e r → InOrder (event_refusals status) (event.told r.answer)

-- ---- the status beside a refusal: all zeros where none was handed in, and otherwise the very one that was

abbrev pub OpenRefused : Type 0
OpenRefused =
    (settings : Settings) (channel : ℕ) (slot : Slot) (cycle : Cycle) (r : Opened) → OpenSays settings channel slot cycle r
    → ((opening.told r.answer).number ≡ 0 → ⊥) → r.state ≡ no_status

abbrev pub EventRefused : Type 0
EventRefused =
    (status : Status) (e : Event) (r : Judged) → EventSays status e r → (event.told r.answer ≡ 0 → ⊥) → r.state ≡ status
