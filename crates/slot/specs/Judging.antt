-- A slot that is judged (01, "Judging a slot"): what it is opened with, the tests of a frame, and what its status tells.
use Rattle.std.specs.Prelude.{ℕ, Bool, true, false, not, ◌&&◌, ◌||◌, cond, eqb, leb, Option, Some, None}
use Rattle.base_types.specs.declared.channel.Channel.{Channel}
use Rattle.base_types.specs.declared.channel.Channel.TheVariants.{A}
use Rattle.base_types.specs.Channel.{channel_of}
use Rattle.base_types.specs.declared.id.Slot.{Slot}
use Rattle.base_types.specs.declared.cycle.Cycle.{Cycle}
use Rattle.checksum.specs.Pair.{no_checksums}
use Rattle.header.specs.declared.Header.{Header}
use Rattle.settings.specs.declared.Settings.{Settings}
use Rattle.settings.specs.Sheet.{static_payload_words, static_slots, no_settings}
use Rattle.slot.specs.declared.status.Miss.{Miss}
use Rattle.slot.specs.declared.status.Miss.TheVariants.{OtherId, OtherCycle, OtherWords, SyncOrStartup, NullFrame}
use Rattle.slot.specs.declared.status.Reason.{Reason}
use Rattle.slot.specs.declared.status.Reason.TheVariants.{Missed, SecondGoodFrame}
use Rattle.slot.specs.declared.status.Status.{Status}

-- ---- a slot

-- "A slot is opened with settings, channel, slot and cycle".
pub record Place : Type 0 where
  pub settings : Settings
  pub channel : Channel
  pub slot : Slot
  pub cycle : Cycle

-- The same, with the channel by its number.
abbrev pub place_by : Settings → ℕ → Slot → Cycle → Place
place_by settings channel slot cycle = record { settings = settings; channel = channel_of channel; slot = slot; cycle = cycle }

-- "static if slot is at most field 11"; any other slot is dynamic.
abbrev pub is_static : Place → Bool
is_static p = leb p.slot.0 (static_slots p.settings)

abbrev pub is_dynamic : Place → Bool
is_dynamic p = not (is_static p)

-- The status of a slot in which nothing has happened.
abbrev pub fresh : Place → Status
fresh p =
    record {
      settings = p.settings;
      channel = p.channel;
      slot = p.slot;
      cycle = p.cycle;
      syntax_error = false;
      content_error = false;
      boundary_violation = false;
      conflict = false;
      valid = false;
      own_sending = false;
      reason = None;
      kept = None;
      checksums = no_checksums;
    }

-- "all zeros with clear flags": what comes back beside a refused opening.
abbrev pub no_status : Status
no_status = fresh (record { settings = no_settings; channel = A; slot = record { 0 = 0 }; cycle = record { 0 = 0 } })

-- What a status says that its slot was opened with.
abbrev pub place_of : Status → Place
place_of s = record { settings = s.settings; channel = s.channel; slot = s.slot; cycle = s.cycle }

-- ---- a frame

-- Tests (a) to (e), each by what misses it. (c) is for static slots, (d) and (e) are for dynamic ones.
-- (a) "ID equals slot".
abbrev pub misses_id : Place → Header → Bool
misses_id p h = not (eqb h.id.0 p.slot.0)

-- (b) "cycle equals cycle".
abbrev pub misses_cycle : Place → Header → Bool
misses_cycle p h = not (eqb h.cycle.0 p.cycle.0)

-- (c) "static: words equal field 10".
abbrev pub misses_words : Place → Header → Bool
misses_words p h = is_static p && not (eqb h.words (static_payload_words p.settings))

-- (d) "dynamic: sync and startup clear".
abbrev pub misses_clear : Place → Header → Bool
misses_clear p h = is_dynamic p && (h.sync || h.startup)

-- (e) "dynamic: not a null frame". In a null frame the bit is 0.
abbrev pub misses_not_null : Place → Header → Bool
misses_not_null p h = is_dynamic p && not h.null_frame_bit

-- "tested in this order": the first miss, or none. A frame that misses none passes (a) to (e).
abbrev pub first_miss : Place → Header → Option Miss
first_miss p h =
    cond (misses_id p h) (Some OtherId)
    (cond (misses_cycle p h) (Some OtherCycle)
    (cond (misses_words p h) (Some OtherWords)
    (cond (misses_clear p h) (Some SyncOrStartup)
    (cond (misses_not_null p h) (Some NullFrame) None))))

-- ---- a status

-- Reason (f), which no test gives: "a later frame that passes all tests" (02, C-15).
abbrev pub is_second_good_frame : Option Reason → Bool
is_second_good_frame None = false
is_second_good_frame (Some (Missed miss)) = false
is_second_good_frame (Some SecondGoodFrame) = true

-- Whether anything arrived: each arrival is refused, misses a test or misses none, and so sets one of these.
abbrev pub has_arrival : Status → Bool
has_arrival s = s.syntax_error || (s.content_error || s.valid)
