-- Measuring a sync frame: what it answers, and the clock state that comes back (01, "Clock").
use Rattle.std.specs.Prelude.{ℕ, ◌≡◌, Bool, true, false, not, ◌&&◌, ◌||◌, cond, is_some, unwrap_or, List, [], ◌∷◌, Option, None, Some, Result, Ok, Err, eqb, ℤ, pos}
use Rattle.std.specs.Result.{result_unwrap_or}
use Rattle.refusal.specs.Answer.{number_in}
use Rattle.refusal.specs.declared.Answered.{Answered}
use Rattle.refusal.specs.Refusal.{Line, ◌when◌, first, if_accepted}
use Rattle.base_types.specs.declared.channel.Channel.{Channel}
use Rattle.base_types.specs.declared.channel.Channel.TheVariants.{A, B}
use Rattle.header.specs.declared.Header.{Header}
use Rattle.header.specs.Layout.{no_header}
use Rattle.settings.specs.declared.Settings.{Settings}
use Rattle.settings.specs.Sheet.{decoding_correction, delay_a, delay_b, sync_id_limit}
use Rattle.slot.specs.declared.status.Status.{Status}
use Rattle.slot.specs.Judging.{place_of, is_static}
use Rattle.slot.specs.Sound as slot
use Rattle.base_types.specs.declared.microtick.Microtick.{Microtick}
use Rattle.base_types.specs.declared.microtick.SignedMicrotick.{SignedMicrotick}
use Rattle.base_types.specs.Microtick.{above_time_limit, whole}
use Rattle.correction.specs.Deviation.{deviation}
use Rattle.sync_list.specs.declared.row.Measurement.{Measurement}
use Rattle.sync_list.specs.Lists.{is_measured_on, is_full_for, recorded}
use Rattle.clock.specs.declared.state.Clock.{Clock}
use Rattle.measuring.specs.declared.MeasureRefusal.{MeasureRefusal}
use Rattle.measuring.specs.declared.MeasureRefusal.TheVariants.{NotSound, NoCycleOpen, TimeTooHigh, NoSyncFrame, OtherCycle, MeasuredAlready, ListFull}
use Rattle.clock.specs.State.{current_cycle, list_of, with_list}
use Rattle.clock.specs.Sound.{sound}

-- ---- the frame

-- "ID and cycle the kept frame's".
abbrev pub frame_of : Status → Header
frame_of status = unwrap_or status.kept no_header

-- 20: "slot status has no valid frame, or its frame isn't a sync frame, or its slot isn't static". A sound status keeps a frame exactly
-- with "valid". Static is read by the status's settings, and only that.
abbrev pub no_sync_frame : Status → Bool
no_sync_frame status = not (is_some status.kept) || (not (frame_of status).sync || not (is_static (place_of status)))

-- The frame that is measured, where 20 isn't given.
abbrev pub sync_frame : Status → Option Header
sync_frame status = cond (no_sync_frame status) None (Some (frame_of status))

-- 22: "frame's cycle is not the open cycle".
abbrev pub other_cycle : Clock → Status → Bool
other_cycle clock status = not (eqb (frame_of status).cycle.0 (current_cycle clock).0)

-- 16: "same ID and channel already measured in this cycle".
abbrev pub measured_already : Clock → Status → Bool
measured_already clock status = is_measured_on (frame_of status).id status.channel (list_of (current_cycle clock) clock)

-- 15: "sync list holds its limit of different IDs and this ID isn't among them". The limit is the clock's.
abbrev pub list_full : Clock → Status → Bool
list_full clock status = is_full_for (sync_id_limit clock.settings) (frame_of status).id (list_of (current_cycle clock) clock)

-- ---- the deviation, and the measurement that is listed

-- "delay of that channel".
abbrev pub delay_on : Channel → Settings → ℕ
delay_on A settings = delay_a settings
delay_on B settings = delay_b settings

-- The deviation, by some settings; "the channel is the status's".
abbrev pub deviation_with : Settings → Status → Microtick → Microtick → ℤ
deviation_with settings status observed action_point =
    deviation observed.0 (decoding_correction settings) (delay_on status.channel settings) action_point.0

-- The measurement that is listed: here, and nowhere else, it is made, with the mark of the settings (C-17). `hold` says how its deviation is
-- held: whole, or as its type holds it.
abbrev pub measurement_with : (ℤ → ℤ) → Settings → Status → Microtick → Microtick → Measurement
measurement_with hold settings status observed action_point =
    record { deviation = record { 0 = hold (deviation_with settings status observed action_point) }; mark = settings.mark }

-- Both by the clock state's settings, "whatever settings the status was opened with".
abbrev pub deviation_by : Clock → Status → Microtick → Microtick → ℤ
deviation_by clock = deviation_with clock.settings

abbrev pub measurement_by : Clock → Status → Microtick → Microtick → Measurement
measurement_by clock = measurement_with whole clock.settings

-- ---- the statement

-- "Measure: 23 (either state), 18, 14, 20, 22, 16, 15."
abbrev pub measure_refusals : Clock → Status → Microtick → Microtick → List Line
measure_refusals clock status observed action_point =
    23 when not (sound clock && slot.sound status)
    ∷ 18 when not (is_some clock.opened)
    ∷ 14 when (above_time_limit observed.0 || above_time_limit action_point.0)
    ∷ 20 when no_sync_frame status
    ∷ 22 when other_cycle clock status
    ∷ 16 when measured_already clock status
    ∷ 15 when list_full clock status
    ∷ []

-- What the answer says in 01's numbers: the refusal number, 0 for none, and the deviation, 0 with a refusal.
pub record Told : Type 0 where
  pub number : ℕ
  pub deviation : ℤ

-- The number of each refusal.
abbrev pub number_of : MeasureRefusal → ℕ
number_of NotSound = 23
number_of NoCycleOpen = 18
number_of TimeTooHigh = 14
number_of NoSyncFrame = 20
number_of OtherCycle = 22
number_of MeasuredAlready = 16
number_of ListFull = 15

-- An answer is the deviation, or why the frame is not measured.
abbrev pub Measuring : Type 0
Measuring = Result SignedMicrotick MeasureRefusal

-- The answer, and the clock state beside it.
abbrev pub FrameMeasured : Type 0
FrameMeasured = Answered SignedMicrotick MeasureRefusal Clock

abbrev pub told : Measuring → Told
told answer = record { number = number_in number_of answer; deviation = (result_unwrap_or answer (record { 0 = pos 0 })).0 }

-- The clock with the measurement in the open cycle's list.
abbrev pub measured_on : Clock → Status → Measurement → Clock
measured_on clock status m =
    with_list (current_cycle clock) (recorded (frame_of status).id status.channel m (list_of (current_cycle clock) clock)) clock

-- What measuring finds before it works anything out: the frame, where both states are sound and both times accepted, or the first refusal.
abbrev pub FrameSays : Clock → Status → Microtick → Microtick → Result Header MeasureRefusal → Type 0
FrameSays clock status observed action_point (Ok frame) =
    (sound clock ≡ true)
    × (above_time_limit observed.0 ≡ false)
    × (above_time_limit action_point.0 ≡ false)
    × (first (measure_refusals clock status observed action_point) ≡ 0)
    × (frame ≡ frame_of status)
FrameSays clock status observed action_point (Err refusal) = number_of refusal ≡ first (measure_refusals clock status observed action_point)

-- The answer's number is the refusal, and its deviation 01's. The clock state has the measurement, or, with a refusal, is the one
-- handed in.
pub record MeasureSays (clock : Clock) (status : Status) (observed action_point : Microtick) (r : FrameMeasured) : Type 0 where
  pub answers : told r.answer
      ≡ record {
        number = first (measure_refusals clock status observed action_point);
        deviation = if_accepted (first (measure_refusals clock status observed action_point)) (deviation_by clock status observed action_point) (pos 0);
      }
  pub leaves : r.state
      ≡ if_accepted (first (measure_refusals clock status observed action_point))
      (measured_on clock status (measurement_by clock status observed action_point)) clock
