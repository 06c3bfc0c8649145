-- Closing a cycle: what it reports, and the clock state that comes back (01, "Clock").
use Rattle.std.specs.Prelude.{ℕ, ◌≡◌, true, false, not, ◌||◌, cond, is_some, List, [], ◌∷◌, None, Some, Result, Ok, Err, ℤ, pos}
use Rattle.std.specs.Result.{result_unwrap_or}
use Rattle.refusal.specs.Answer.{number_in}
use Rattle.refusal.specs.declared.Answered.{Answered}
use Rattle.refusal.specs.Refusal.{Line, ◌when◌, first, if_accepted}
use Rattle.settings.specs.declared.Settings.{Settings}
use Rattle.settings.specs.Sheet.{offset_limit, rate_limit, drift_damping, external_offset_unit, external_rate_unit, no_mark}
use Rattle.base_types.specs.declared.microtick.SignedMicrotick.{SignedMicrotick}
use Rattle.correction.specs.declared.term.Term.{Term}
use Rattle.correction.specs.Terms.{offset_term, rate_term}
use Rattle.correction.specs.declared.external.Control.{Control}
use Rattle.correction.specs.External.{not_a_control, sign_of, with_external}
use Rattle.sync_list.specs.Lists.{listed}
use Rattle.list_values.specs.Values.{offset_values, rate_values}
use Rattle.clock.specs.declared.state.Clock.{Clock}
use Rattle.closing.specs.declared.Report.{Report}
use Rattle.closing.specs.declared.CloseRefusal.{CloseRefusal}
use Rattle.closing.specs.declared.CloseRefusal.TheVariants.{NotSound, NoCycleOpen, NotAControl}
use Rattle.base_types.specs.Cycle.{is_odd}
use Rattle.clock.specs.State.{current_cycle, list_of}
use Rattle.clock.specs.Sound.{sound}

-- "Close cycle: 23, 18, 21."
abbrev pub closing_refusals : Clock → ℤ → ℤ → List Line
closing_refusals clock offset_control rate_control =
    23 when not (sound clock)
    ∷ 18 when not (is_some clock.opened)
    ∷ 21 when (not_a_control offset_control || not_a_control rate_control)
    ∷ []

-- ---- the terms, without their external term

-- "Offset, every cycle", over the open cycle's list.
abbrev pub offset_found : Clock → Term
offset_found clock =
    offset_term (offset_values (listed (list_of (current_cycle clock) clock))) clock.settings.sends_sync (offset_limit clock.settings)

-- "Even cycles report the stored rate", with both flags clear.
abbrev pub stored_term : ℤ → Term
stored_term rate = record { value = record { 0 = rate }; is_missing = false; is_limited = false }

-- "Rate, odd cycles", over both lists.
abbrev pub rate_found : Clock → Term
rate_found clock =
    cond (is_odd (current_cycle clock))
    (rate_term (rate_values (listed clock.odd) (listed clock.even)) clock.settings.sends_sync clock.rate.0
    (drift_damping clock.settings)
    (rate_limit clock.settings))
    (stored_term clock.rate.0)

-- ---- what is reported, and what stays

-- "Closing returns both terms, four flags .. and how many different IDs were measured in the closed cycle". "Last, its control times its
-- external unit is added to each reported term". C-17: "each closing report" carries the mark of the settings that it was worked out by.
abbrev pub report_with : Settings → Term → Term → ℕ → ℤ → ℤ → Report
report_with settings offset rate ids offset_control rate_control =
    record {
      offset = record { 0 = with_external offset.value.0 offset_control (external_offset_unit settings) };
      rate = record { 0 = with_external rate.value.0 rate_control (external_rate_unit settings) };
      offset_missing = offset.is_missing;
      rate_missing = rate.is_missing;
      offset_limited = offset.is_limited;
      rate_limited = rate.is_limited;
      ids = ids;
      mark = settings.mark;
    }

-- A sound list counts a row for each different ID.
abbrev pub report_of : Clock → ℤ → ℤ → Report
report_of clock = report_with clock.settings (offset_found clock) (rate_found clock) (list_of (current_cycle clock) clock).count

-- "no cycle is open after it", with the rate that is stored.
abbrev pub closed_with : Clock → SignedMicrotick → Clock
closed_with clock rate =
    record {
      settings = clock.settings;
      even = clock.even;
      odd = clock.odd;
      opened = None;
      last_closed = Some (current_cycle clock);
      rate = rate;
    }

-- "the rate so found is stored": the external term is not in it.
abbrev pub closed_on : Clock → Clock
closed_on clock = closed_with clock (rate_found clock).value

-- All zeros, all flags clear: what stands beside a refusal.
abbrev pub no_report : Report
no_report =
    record {
      offset = record { 0 = pos 0 };
      rate = record { 0 = pos 0 };
      offset_missing = false;
      rate_missing = false;
      offset_limited = false;
      rate_limited = false;
      ids = 0;
      mark = no_mark;
    }

-- ---- the statement

-- What the answer says in 01's numbers: the refusal number, 0 for none, and the report, all zeros with a refusal.
pub record Told : Type 0 where
  pub number : ℕ
  pub report : Report

-- The number of each refusal.
abbrev pub number_of : CloseRefusal → ℕ
number_of NotSound = 23
number_of NoCycleOpen = 18
number_of NotAControl = 21

-- An answer is the report, or why the cycle is not closed.
abbrev pub Closing : Type 0
Closing = Result Report CloseRefusal

-- The answer, and the clock state beside it.
abbrev pub CycleClosed : Type 0
CycleClosed = Answered Report CloseRefusal Clock

abbrev pub told : Closing → Told
told answer = record { number = number_in number_of answer; report = result_unwrap_or answer no_report }

-- What closing finds before it works anything out: both controls, by the numbers that were handed in, or the first refusal.
abbrev pub ControlsSays : Clock → ℤ → ℤ → Result (Control × Control) CloseRefusal → Type 0
ControlsSays clock offset_control rate_control (Ok controls) =
    (sound clock ≡ true)
    × (first (closing_refusals clock offset_control rate_control) ≡ 0)
    × (sign_of controls.0 ≡ offset_control)
    × (sign_of controls.1 ≡ rate_control)
ControlsSays clock offset_control rate_control (Err refusal) = number_of refusal ≡ first (closing_refusals clock offset_control rate_control)

-- What is to be told where the first refusal is n, or 0 for none.
abbrev pub to_tell : Clock → ℤ → ℤ → ℕ → Told
to_tell clock offset_control rate_control n = record { number = n; report = if_accepted n (report_of clock offset_control rate_control) no_report }

-- The answer's number is the refusal, and its report 01's. The clock state has the cycle closed, or, with a refusal, is the one
-- handed in.
pub record CloseSays (clock : Clock) (offset_control rate_control : ℤ) (r : CycleClosed) : Type 0 where
  pub answers : told r.answer ≡ to_tell clock offset_control rate_control (first (closing_refusals clock offset_control rate_control))
  pub leaves : r.state ≡ if_accepted (first (closing_refusals clock offset_control rate_control)) (closed_on clock) clock
