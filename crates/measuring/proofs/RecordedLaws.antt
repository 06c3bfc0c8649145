-- The state that measuring leaves, by the frame and the cycle that its tests found.
use mathlib.Core.Path.{◌≡◌, sym}
use Rattle.std.specs.Prelude.{Some}
use Rattle.header.specs.declared.Header.{Header}
use Rattle.base_types.specs.declared.cycle.Cycle.{Cycle}
use Rattle.base_types.specs.declared.microtick.Microtick.{Microtick}
use Rattle.slot.specs.declared.status.Status.{Status}
use Rattle.sync_list.specs.declared.row.Measurement.{Measurement}
use Rattle.sync_list.specs.Lists.{recorded}
use Rattle.clock.specs.declared.state.Clock.{Clock}
use Rattle.clock.specs.State.{current_cycle, list_of, with_list}
use Rattle.measuring.specs.Measuring.{frame_of, sync_frame, measured_on}
use Rattle.measuring.proofs.RefusalLaws.{InTime, frame_is, cycle_is}

-- by any frame and cycle that are those of the rule
pub recorded_by : (clock : Clock) (status : Status) {frame : Header} {cycle : Cycle} → frame_of status ≡ frame → current_cycle clock ≡ cycle
    → (m : Measurement) → with_list cycle (recorded frame.id status.channel m (list_of cycle clock)) clock ≡ measured_on clock status m
recorded_by clock status f c m = sym (λ i. with_list (c i) (recorded (f i).id status.channel m (list_of (c i) clock)) clock)

-- by the frame and the cycle that passed the tests
module _ {clock : Clock} {status : Status} {observed action_point : Microtick} {cycle : Cycle} (t : InTime clock status observed action_point cycle) where
  module _ {frame : Header} (found : sync_frame status ≡ Some frame) where
    pub recorded_is : (m : Measurement) → with_list cycle (recorded frame.id status.channel m (list_of cycle clock)) clock ≡ measured_on clock status m
    recorded_is = recorded_by clock status (frame_is t found) (cycle_is t found)
