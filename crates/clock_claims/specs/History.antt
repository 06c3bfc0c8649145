-- What has happened, from the calls alone: the rule of a history. It names no clock state, no row and no count, but works out the
-- measurements in use, each with the cycle it was taken in (01, "Clock").
use Rattle.std.specs.Prelude.{ℕ, ◌-◌, Bool, false, not, ◌&&◌, ◌||◌, cond, Option, None, Some, is_some, unwrap_or, List, [], ◌∷◌, eqb, leb, ℤ, pos, length}
use Rattle.refusal.specs.Refusal.{Line, ◌when◌, first, if_accepted}
use Rattle.base_types.specs.declared.channel.Channel.{Channel}
use Rattle.base_types.specs.declared.cycle.Cycle.{Cycle}
use Rattle.base_types.specs.Cycle.{cycle_too_high}
use Rattle.settings.specs.declared.Settings.{Settings}
use Rattle.settings.specs.Sheet.{first_out_of_range, out_of_range, sync_id_limit, offset_limit, rate_limit, drift_damping}
use Rattle.slot.specs.declared.status.Status.{Status}
use Rattle.slot.specs.Sound as slot
use Rattle.base_types.specs.declared.microtick.Microtick.{Microtick}
use Rattle.correction.specs.declared.term.Term.{Term}
use Rattle.base_types.specs.Microtick.{above_time_limit, whole}
use Rattle.correction.specs.Terms.{offset_term, rate_term}
use Rattle.correction.specs.External.{not_a_control}
use Rattle.sync_list.specs.declared.row.Measurement.{Measurement}
use Rattle.sync_list.specs.Lists.{is_among}
use Rattle.measurements.specs.Measurements.{Taken, different_ids, same_channel}
use Rattle.measurements.specs.Terms.{offset_values_of, rate_values_of}
use Rattle.base_types.specs.Cycle.{is_odd}
use Rattle.clock.specs.State.{is_cycle}
use Rattle.clock.specs.Loading as loading
use Rattle.measuring.specs.Measuring as measuring
use Rattle.measuring.specs.Measuring.{frame_of, no_sync_frame, deviation_with, measurement_with}
use Rattle.closing.specs.declared.Report.{Report}
use Rattle.closing.specs.Closing as closing
use Rattle.closing.specs.Closing.{stored_term, report_with, no_report}

-- ---- calls

pub data Call : Type 0 where
  load : Settings → Call
  open_cycle : Cycle → Call
  measure : Status → Microtick → Microtick → Call
  close_cycle : ℤ → ℤ → Call

-- What a call answers, in 01's numbers.
pub data Answer : Type 0 where
  loaded : loading.Told → Answer
  opened : ℕ → Answer
  measured : measuring.Told → Answer
  closed : closing.Told → Answer

-- ---- what has happened

-- A measurement in use: its cycle, and what was taken in it, the mark with the deviation (C-17).
pub record InUse : Type 0 where
  pub cycle : ℕ
  pub taken : Taken

-- Since settings were loaded: which cycle is open, which was closed last, the rate that is stored, and the measurements in use.
pub record Since : Type 0 where
  pub settings : Settings
  pub opened : Option Cycle
  pub last_closed : Option Cycle
  pub rate : ℤ
  pub in_use : List InUse

-- No settings are loaded, or they are.
pub data Past : Type 0 where
  nothing : Past
  since : Since → Past

-- "Loading gives a fresh clock state".
abbrev pub just_loaded : Settings → Since
just_loaded settings = record { settings = settings; opened = None; last_closed = None; rate = pos 0; in_use = [] }

-- The measurements in use of the cycles that are meant.
unfoldable pub of_cycles : (ℕ → Bool) → List InUse → List Taken
of_cycles meant [] = []
of_cycles meant (m ∷ ms) = cond (meant m.cycle) (m.taken ∷ of_cycles meant ms) (of_cycles meant ms)

-- Of one cycle.
abbrev pub of_cycle : ℕ → List InUse → List Taken
of_cycle cycle = of_cycles (λ (c : ℕ). eqb c cycle)

-- The same, each still with its cycle.
unfoldable pub kept_of : ℕ → List InUse → List InUse
kept_of cycle [] = []
kept_of cycle (m ∷ ms) = cond (eqb m.cycle cycle) (m ∷ kept_of cycle ms) (kept_of cycle ms)

-- ---- each call, by what has happened

-- The cycle that is open; 0 where none is.
abbrev pub current : Since → Cycle
current s = unwrap_or s.opened (record { 0 = 0 })

-- The measurements of the cycle that is open.
abbrev pub of_current : Since → List Taken
of_current s = of_cycle (current s).0 s.in_use

-- "Opening an odd cycle c .. unless the last closed cycle was c - 1": only then the measurements of cycle c - 1 stay in use.
abbrev pub after_opening : Since → Cycle → Since
after_opening s cycle =
    record {
      settings = s.settings;
      opened = Some cycle;
      last_closed = s.last_closed;
      rate = s.rate;
      in_use = cond (is_odd cycle && is_cycle (cycle.0 - 1) s.last_closed) (kept_of (cycle.0 - 1) s.in_use) [];
    }

-- 16: this ID and channel is among the measurements of the open cycle.
unfoldable pub is_taken : ℕ → Channel → List Taken → Bool
is_taken id channel [] = false
is_taken id channel (m ∷ ms) = (eqb m.id id && same_channel m.channel channel) || is_taken id channel ms

-- 15: they have as many different IDs as field 4 allows, and this ID is not among them.
abbrev pub is_full : Settings → ℕ → List Taken → Bool
is_full settings id ms = leb (sync_id_limit settings) (length (different_ids ms)) && not (is_among id (different_ids ms))

-- The deviation and the measurement, its mark among it, by the settings that were loaded.
abbrev pub deviation_in : Since → Status → Microtick → Microtick → ℤ
deviation_in s = deviation_with s.settings

abbrev pub measurement_in : Since → Status → Microtick → Microtick → Measurement
measurement_in s = measurement_with whole s.settings

abbrev pub after_measuring : Since → Status → Measurement → Since
after_measuring s status m =
    record {
      settings = s.settings;
      opened = s.opened;
      last_closed = s.last_closed;
      rate = s.rate;
      in_use =
          record {
            cycle = (current s).0;
            taken = record { id = (frame_of status).id.0; channel = status.channel; measurement = m };
          } ∷ s.in_use;
    }

-- "Offset, every cycle", over the measurements of the open cycle.
abbrev pub offset_in : Since → Term
offset_in s = offset_term (offset_values_of (of_current s)) s.settings.sends_sync (offset_limit s.settings)

-- "Rate, odd cycles", over those of the open cycle and of the one before it; "Even cycles report the stored rate".
abbrev pub rate_in : Since → Term
rate_in s =
    cond (is_odd (current s))
    (rate_term (rate_values_of (of_current s) (of_cycle ((current s).0 - 1) s.in_use)) s.settings.sends_sync s.rate
    (drift_damping s.settings)
    (rate_limit s.settings))
    (stored_term s.rate)

abbrev pub report_in : Since → ℤ → ℤ → Report
report_in s = report_with s.settings (offset_in s) (rate_in s) (length (different_ids (of_current s)))

abbrev pub after_closing : Since → Since
after_closing s =
    record {
      settings = s.settings;
      opened = None;
      last_closed = Some (current s);
      rate = (rate_in s).value.0;
      in_use = s.in_use;
    }

-- ---- refusals, by what has happened

abbrev pub open_refusals : Since → Cycle → List Line
open_refusals s cycle = 11 when cycle_too_high cycle.0 ∷ 19 when is_some s.opened ∷ []

abbrev pub measure_refusals : Since → Status → Microtick → Microtick → List Line
measure_refusals s status observed action_point =
    23 when not (slot.sound status)
    ∷ 18 when not (is_some s.opened)
    ∷ 14 when (above_time_limit observed.0 || above_time_limit action_point.0)
    ∷ 20 when no_sync_frame status
    ∷ 22 when not (eqb (frame_of status).cycle.0 (current s).0)
    ∷ 16 when is_taken (frame_of status).id.0 status.channel (of_current s)
    ∷ 15 when is_full s.settings (frame_of status).id.0 (of_current s)
    ∷ []

abbrev pub close_refusals : Since → ℤ → ℤ → List Line
close_refusals s offset_control rate_control =
    18 when not (is_some s.opened) ∷ 21 when (not_a_control offset_control || not_a_control rate_control) ∷ []

-- ---- the rule of a history

-- What has happened once a call was made. A refused call leaves it, but for a refused load, after which nothing is loaded.
abbrev pub next : Past → Call → Past
next past (load settings) = cond (out_of_range settings) nothing (since (just_loaded settings))
next nothing (open_cycle cycle) = nothing
next nothing (measure status observed action_point) = nothing
next nothing (close_cycle offset_control rate_control) = nothing
next (since s) (open_cycle cycle) = since (if_accepted (first (open_refusals s cycle)) (after_opening s cycle) s)
next (since s) (measure status observed action_point) =
    since
    (if_accepted (first (measure_refusals s status observed action_point))
    (after_measuring s status (measurement_in s status observed action_point)) s)
next (since s) (close_cycle offset_control rate_control) = since (if_accepted (first (close_refusals s offset_control rate_control)) (after_closing s) s)

-- What a call answers. Where nothing is loaded, every call but a load is refused with 23.
abbrev pub answer : Past → Call → Answer
answer past (load settings) = loaded (record { number = first (loading.load_refusals settings); field = unwrap_or (first_out_of_range settings) 0 })
answer nothing (open_cycle cycle) = opened 23
answer nothing (measure status observed action_point) = measured (record { number = 23; deviation = pos 0 })
answer nothing (close_cycle offset_control rate_control) = closed (record { number = 23; report = no_report })
answer (since s) (open_cycle cycle) = opened (first (open_refusals s cycle))
answer (since s) (measure status observed action_point) =
    let n = first (measure_refusals s status observed action_point) in
    measured (record { number = n; deviation = if_accepted n (deviation_in s status observed action_point) (pos 0) })
answer (since s) (close_cycle offset_control rate_control) =
    let n = first (close_refusals s offset_control rate_control) in
    closed (record { number = n; report = if_accepted n (report_in s offset_control rate_control) no_report })

-- After all calls, and what they answer, one after the other.
unfoldable pub past_of : Past → List Call → Past
past_of past [] = past
past_of past (call ∷ calls) = past_of (next past call) calls

unfoldable pub answers_of : Past → List Call → List Answer
answers_of past [] = []
answers_of past (call ∷ calls) = answer past call ∷ answers_of (next past call) calls
