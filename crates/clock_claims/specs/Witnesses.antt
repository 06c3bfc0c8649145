-- What the witnesses show: the claims, of what the code answers.
use Rattle.std.specs.Prelude.{ℕ, ◌+◌, ◌*◌, ◌/◌, ◌%◌, ◌^◌, ◌<◌, ◌≤◌, ◌≡◌, true, cond, List, map, eqb, ℤ, pos, neg_ℤ}
use Rattle.refusal.specs.Refusal.{InOrder}
use Rattle.base_types.specs.declared.cycle.Cycle.{Cycle}
use Rattle.settings.specs.declared.Settings.{Settings}
use Rattle.slot.specs.declared.status.Status.{Status}
use Rattle.settings_claims.specs.Sheet.{FieldTold}
use Rattle.base_types.specs.declared.microtick.Microtick.{Microtick}
use Rattle.base_types.specs.Microtick.{time_limit}
use Rattle.clock.specs.declared.state.Clock.{Clock}
use Rattle.clock.specs.Loading.{Loaded}
use Rattle.clock.specs.Opening.{CycleOpened}
use Rattle.clock.specs.State.{fresh, no_clock}
use Rattle.clock.specs.Sound.{sound}
use Rattle.clock.specs.Loading as loading
use Rattle.clock.specs.Opening as opening
use Rattle.measuring.specs.Measuring.{FrameMeasured}
use Rattle.measuring.specs.Measuring as measuring
use Rattle.closing.specs.Closing.{CycleClosed}
use Rattle.closing.specs.Closing as closing
use Rattle.clock_claims.specs.History.{Call, load, open_cycle, measure, close_cycle, Answer, closed, nothing, answer, next, past_of}
use Rattle.clock_claims.specs.Histories.{MakesAll, Holds, JustLoaded}
use Rattle.clock_claims.specs.Reports.{IsOverMeasurements}

-- ---- one call

-- `loaded`: the number comes in 01's order, and the field is the first out of range. Settings that are loaded leave a fresh state, made of
-- them alone, which is sound; beside a refusal all is zero.
pub record LoadedWell (settings : Settings) (r : Loaded) : Type 0 where
  pub in_order : InOrder (loading.load_refusals settings) (loading.told r.answer).number
  pub field : FieldTold settings (loading.told r.answer).field
  pub accepted : (loading.told r.answer).number ≡ 0 → (r.state ≡ fresh settings) × JustLoaded settings r.state × (sound r.state ≡ true)
  pub refused : ((loading.told r.answer).number ≡ 0 → ⊥) → r.state ≡ no_clock

-- `opened`, `measured`, `closed`: the number comes in 01's order; an accepted call leaves what the rule says, which is sound, and a refused
-- one the very state that was handed in, with zeros in the answer.
pub record OpenedWell (c : Clock) (cycle : Cycle) (r : CycleOpened) : Type 0 where
  pub in_order : InOrder (opening.opening_refusals c cycle) (opening.told r.answer)
  pub accepted : opening.told r.answer ≡ 0 → (r.state ≡ opening.opened_on c cycle) × (sound r.state ≡ true)
  pub refused : (opening.told r.answer ≡ 0 → ⊥) → r.state ≡ c

pub record MeasuredWell (c : Clock) (status : Status) (observed action_point : Microtick) (r : FrameMeasured) : Type 0 where
  pub in_order : InOrder (measuring.measure_refusals c status observed action_point) (measuring.told r.answer).number
  pub accepted : (measuring.told r.answer).number ≡ 0
      → ((measuring.told r.answer).deviation ≡ measuring.deviation_by c status observed action_point)
      × (r.state ≡ measuring.measured_on c status (measuring.measurement_by c status observed action_point))
      × (sound r.state ≡ true)
  pub refused : ((measuring.told r.answer).number ≡ 0 → ⊥) → ((measuring.told r.answer).deviation ≡ pos 0) × (r.state ≡ c)

-- And what is reported of a closed cycle is 01's, over the measurements that the lists stand for.
pub record ClosedWell (c : Clock) (offset_control rate_control : ℤ) (r : CycleClosed) : Type 0 where
  pub in_order : InOrder (closing.closing_refusals c offset_control rate_control) (closing.told r.answer).number
  pub accepted : (closing.told r.answer).number ≡ 0
      → ((closing.told r.answer).report ≡ closing.report_of c offset_control rate_control) × (r.state ≡ closing.closed_on c) × (sound r.state ≡ true)
  pub over : (closing.told r.answer).number ≡ 0 → IsOverMeasurements c offset_control rate_control (closing.told r.answer).report
  pub refused : ((closing.told r.answer).number ≡ 0 → ⊥) → ((closing.told r.answer).report ≡ closing.no_report) × (r.state ≡ c)

-- ---- whole sequences

-- How many times there are up to one above the limit: every one that is accepted, and one that is not.
abbrev pub span : ℕ
span = time_limit + 2

-- A call from a number: its kind by 8, then two such times.
abbrev pub first_in : ℕ → ℕ
first_in number = number / 8 % span

abbrev pub second_in : ℕ → ℕ
second_in number = number / (8 * span) % span

-- Every kind with any two times, up to one above the limit, has its number, which a u64 holds: `played` is not about a few calls.
abbrev pub EveryCall : Type 0
EveryCall =
    (kind first second : ℕ) → kind < 8 → first ≤ time_limit + 1 → second ≤ time_limit + 1
    → (number : ℕ) × (number < 2 ^ 64) × (number % 8 ≡ kind) × (first_in number ≡ first) × (second_in number ≡ second)

-- -1, 0, 1, and 2, which is no control.
abbrev pub control_of : ℕ → ℤ
control_of n = cond (eqb (n % 4) 0) (neg_ℤ (pos 1)) (cond (eqb (n % 4) 1) (pos 0) (cond (eqb (n % 4) 2) (pos 1) (pos 2)))

-- Two sheets that are loaded and two statuses that are measured, in turn.
abbrev pub call_of : Settings → Settings → Status → Status → ℕ → Call
call_of sheet other_sheet status other_status number =
    cond (eqb (number % 8) 0) (load sheet)
    (cond (eqb (number % 8) 1) (load other_sheet)
    (cond (eqb (number % 8) 2) (open_cycle (record { 0 = first_in number % 256 }))
    (cond (eqb (number % 8) 3) (measure status (record { 0 = first_in number }) (record { 0 = second_in number }))
    (cond (eqb (number % 8) 4) (measure other_status (record { 0 = first_in number }) (record { 0 = second_in number }))
    (close_cycle (control_of (first_in number)) (control_of (second_in number)))))))

abbrev pub calls_of : Settings → Settings → Status → Status → List ℕ → List Call
calls_of sheet other_sheet status other_status numbers = map (call_of sheet other_sheet status other_status) numbers

-- These calls, from the all-zero state on, leave this state.
abbrev pub MadeBy : List Call → Clock → Type 0
MadeBy calls c = (answers : List Answer) × MakesAll no_clock calls answers c

-- `played`: after any sequence the state holds what has happened.
pub record Played (calls : List Call) (c : Clock) : Type 0 where
  pub made : MadeBy calls c
  pub holds : Holds (past_of nothing calls) c

-- `closed_after`: closing after any sequence answers what the history says: its number, its report, and the state that holds.
pub record ClosedAfter (calls : List Call) (offset_control rate_control : ℤ) (r : CycleClosed) : Type 0 where
  pub answers : closed (closing.told r.answer) ≡ answer (past_of nothing calls) (close_cycle offset_control rate_control)
  pub holds : Holds (next (past_of nothing calls) (close_cycle offset_control rate_control)) r.state
