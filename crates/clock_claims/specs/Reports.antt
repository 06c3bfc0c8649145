-- Claims about the report of a closed cycle, of any sound state that is handed in. 01 asks that closing equals the rules over that cycle's
-- measurements, and that the count is that of the different IDs listed.
use Rattle.std.specs.Prelude.{◌≡◌, cond, List, ℤ, length}
use Rattle.midpoint.specs.Order.{Permuted}
use Rattle.settings.specs.Sheet.{offset_limit, rate_limit, drift_damping}
use Rattle.correction.specs.Terms.{offset_term, rate_term}
use Rattle.sync_list.specs.Lists.{listed}
use Rattle.measurements.specs.Measurements.{Taken, stands_for, different_ids}
use Rattle.measurements.specs.Terms.{offset_values_of, rate_values_of}
use Rattle.clock.specs.declared.state.Clock.{Clock}
use Rattle.base_types.specs.Cycle.{is_odd}
use Rattle.clock.specs.State.{current_cycle, list_of}
use Rattle.closing.specs.Closing.{CycleClosed}
use Rattle.closing.specs.declared.Report.{Report}
use Rattle.closing.specs.Closing as closing
use Rattle.closing.specs.Closing.{stored_term, report_with, CloseSays}
use Rattle.clock_claims.specs.Typed.{TypedClock}

-- Whatever order the measurements of the closed cycle and those of the even list come in, this is the report of 01's rules over them.
abbrev pub IsOverMeasurements : Clock → ℤ → ℤ → Report → Type 0
IsOverMeasurements c offset_control rate_control report =
    (ms before : List Taken) → Permuted ms (stands_for (listed (list_of (current_cycle c) c))) → Permuted before (stands_for (listed c.even))
    → report
    ≡ report_with c.settings (offset_term (offset_values_of ms) c.settings.sends_sync (offset_limit c.settings))
    (cond (is_odd (current_cycle c))
    (rate_term (rate_values_of ms before) c.settings.sends_sync c.rate.0 (drift_damping c.settings) (rate_limit c.settings))
    (stored_term c.rate.0))
    (length (different_ids ms))
    offset_control
    rate_control

abbrev pub ReportedOver : Type 0
ReportedOver =
    (c : Clock) (offset_control rate_control : ℤ) (r : CycleClosed) → TypedClock c → CloseSays c offset_control rate_control r
    → (closing.told r.answer).number ≡ 0
    → IsOverMeasurements c offset_control rate_control (closing.told r.answer).report
