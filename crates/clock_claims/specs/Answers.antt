-- Claims about the answers of the clock's four entries, of any that their statements allow. The customer's first condition asks that each
-- takes any number and state and answers, or gives a refusal number of 01 in 01's order, and that a refusal changes no state; 01 asks
-- that a statement determines the answer, the report and the state.
use Rattle.std.specs.Prelude.{◌≡◌, ℤ, pos}
use Rattle.refusal.specs.Refusal.{InOrder}
use Rattle.base_types.specs.declared.cycle.Cycle.{Cycle}
use Rattle.settings.specs.declared.Settings.{Settings}
use Rattle.slot.specs.declared.status.Status.{Status}
use Rattle.settings_claims.specs.Sheet.{TypedSettings, FieldTold}
use Rattle.base_types.specs.declared.microtick.Microtick.{Microtick}
use Rattle.clock.specs.declared.state.Clock.{Clock}
use Rattle.clock.specs.Loading.{Loaded}
use Rattle.clock.specs.Opening.{CycleOpened}
use Rattle.clock.specs.State.{no_clock}
use Rattle.clock.specs.Loading as loading
use Rattle.clock.specs.Loading.{LoadSays}
use Rattle.clock.specs.Opening as opening
use Rattle.clock.specs.Opening.{OpenCycleSays}
use Rattle.measuring.specs.Measuring.{FrameMeasured}
use Rattle.measuring.specs.Measuring as measuring
use Rattle.measuring.specs.Measuring.{MeasureSays}
use Rattle.closing.specs.Closing.{CycleClosed}
use Rattle.closing.specs.Closing as closing
use Rattle.closing.specs.Closing.{CloseSays}

-- ---- any two results that a statement allows are equal: answer, report and whole state

abbrev pub LoadOne : Type 0
LoadOne = (settings : Settings) (r s : Loaded) → LoadSays settings r → LoadSays settings s → r ≡ s

abbrev pub OpenOne : Type 0
OpenOne = (clock : Clock) (cycle : Cycle) (r s : CycleOpened) → OpenCycleSays clock cycle r → OpenCycleSays clock cycle s → r ≡ s

abbrev pub MeasureOne : Type 0
MeasureOne =
    (clock : Clock) (status : Status) (observed action_point : Microtick) (r s : FrameMeasured)
    → MeasureSays clock status observed action_point r → MeasureSays clock status observed action_point s → r ≡ s

abbrev pub CloseOne : Type 0
CloseOne =
    (clock : Clock) (offset_control rate_control : ℤ) (r s : CycleClosed)
    → CloseSays clock offset_control rate_control r → CloseSays clock offset_control rate_control s → r ≡ s

-- ---- the number is the first of 01's order whose condition holds

abbrev pub LoadInOrder : Type 0
LoadInOrder = (settings : Settings) (r : Loaded) → LoadSays settings r → InOrder (loading.load_refusals settings) (loading.told r.answer).number

abbrev pub OpenInOrder : Type 0
OpenInOrder =
    (clock : Clock) (cycle : Cycle) (r : CycleOpened) → OpenCycleSays clock cycle r → InOrder (opening.opening_refusals clock cycle) (opening.told r.answer)

abbrev pub MeasureInOrder : Type 0
MeasureInOrder =
    (clock : Clock) (status : Status) (observed action_point : Microtick) (r : FrameMeasured) → MeasureSays clock status observed action_point r
    → InOrder (measuring.measure_refusals clock status observed action_point) (measuring.told r.answer).number

abbrev pub CloseInOrder : Type 0
CloseInOrder =
    (clock : Clock) (offset_control rate_control : ℤ) (r : CycleClosed) → CloseSays clock offset_control rate_control r
    → InOrder (closing.closing_refusals clock offset_control rate_control) (closing.told r.answer).number

-- ---- the field that 17 returns is the first out of range, and 0 where all are in range

abbrev pub LoadField : Type 0
LoadField =
    (settings : Settings) (r : Loaded) → TypedSettings settings → LoadSays settings r → FieldTold settings (loading.told r.answer).field

-- ---- beside a refusal every other number is 0 and every flag clear; the state is all zeros where none was handed in, and otherwise the
-- very one that was

abbrev pub LoadRefused : Type 0
LoadRefused = (settings : Settings) (r : Loaded) → LoadSays settings r → ((loading.told r.answer).number ≡ 0 → ⊥) → r.state ≡ no_clock

abbrev pub OpenRefused : Type 0
OpenRefused =
    (clock : Clock) (cycle : Cycle) (r : CycleOpened) → OpenCycleSays clock cycle r → (opening.told r.answer ≡ 0 → ⊥) → r.state ≡ clock

abbrev pub MeasureRefused : Type 0
MeasureRefused =
    (clock : Clock) (status : Status) (observed action_point : Microtick) (r : FrameMeasured) → MeasureSays clock status observed action_point r
    → ((measuring.told r.answer).number ≡ 0 → ⊥) → ((measuring.told r.answer).deviation ≡ pos 0) × (r.state ≡ clock)

abbrev pub CloseRefused : Type 0
CloseRefused =
    (clock : Clock) (offset_control rate_control : ℤ) (r : CycleClosed) → CloseSays clock offset_control rate_control r
    → ((closing.told r.answer).number ≡ 0 → ⊥) → ((closing.told r.answer).report ≡ closing.no_report) × (r.state ≡ clock)
