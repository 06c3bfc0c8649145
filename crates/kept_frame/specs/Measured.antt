-- A claim over judging and measuring: "measurements still use the kept frame" (02, C-15).
use Rattle.std.specs.Prelude.{ℕ, ◌≡◌, true, List, ◌↔◌, is_some}
use Rattle.base_types.specs.declared.microtick.Microtick.{Microtick}
use Rattle.slot.specs.declared.status.Status.{Status}
use Rattle.slot_events.specs.Effect.{Event, arrival}
use Rattle.slot_events.specs.Events.{left_by}
use Rattle.slot_claims.specs.Histories.{Calls}
use Rattle.clock.specs.declared.state.Clock.{Clock}
use Rattle.measuring.specs.Measuring.{FrameMeasured, MeasureSays}

-- One status is measured as another, with any clock state and times: what the statement of measuring allows is the same.
abbrev pub MeasuredAs : Status → Status → Type 0
MeasuredAs other status =
    (clock : Clock) (observed action_point : Microtick) (r : FrameMeasured)
    → MeasureSays clock status observed action_point r ↔ MeasureSays clock other observed action_point r

-- A slot that keeps a frame is measured after any sequence of events as it was before.
abbrev pub MeasuredAsBefore : Type 0
MeasuredAsBefore =
    (status : Status) (events : List Event) (later : Status) → Calls status events later → is_some status.kept ≡ true → MeasuredAs status later

-- `measured_later`: what it answers is that of measuring the status after the arrival and, where a frame was kept before, that of measuring
-- the status before it.
pub record MeasuredLater (clock : Clock) (status : Status) (bytes : List ℕ) (observed action_point : Microtick) (r : FrameMeasured) : Type 0 where
  pub later : MeasureSays clock (left_by status (arrival bytes)) observed action_point r
  pub as_before : is_some status.kept ≡ true → MeasureSays clock status observed action_point r
