-- Soundness of a reader.
use Rattle.std.specs.Prelude.{ℕ, ◌+◌, ◌*◌, ◌/◌, ◌%◌, ◌^◌, Bool, true, false, ◌&&◌, ◌||◌, cond, eqb, leb}
use Rattle.header.specs.Layout.{longest_frame}
use Rattle.bit_clock.specs.declared.BitClock.{BitClock}
use Rattle.bit_clock.specs.Clock.{votes, sound_clock}
use Rattle.wire_reader.specs.declared.phase.Phase.{Phase}
use Rattle.wire_reader.specs.declared.phase.Phase.TheVariants.{Waiting, Start, FrameStart, ByteStart, ByteStartLow, Byte, End, EndHigh}
use Rattle.wire_reader.specs.declared.reader.Reader.{Reader}
use Rattle.wire_reader.specs.Decoder.{most_low, most_high}
use Rattle.wire_reader.specs.Reader.{idle_samples}

abbrev pub within : ℕ → ℕ → ℕ → Bool
within lowest highest n = leb lowest n && leb n highest

-- The most bytes before another one.
abbrev pub most_before : ℕ
most_before = 261

-- No byte, and no reference point.
abbrev pub no_bytes : ℕ → ℕ → Bool
no_bytes count since = eqb count 0 && eqb since 0

-- The samples since the reference point, where `bits` bits came with their bytes: at most twelve from one strobe to the next, and
-- `slack` behind the last.
abbrev pub most_since : ℕ → ℕ → ℕ
most_since bits slack = 12 * bits + slack

-- Seven behind a strobe, where nothing realigns; a falling edge can make them eleven, and disables realignment.
abbrev pub slack_of : BitClock → ℕ
slack_of clock = (clock.counter + 2) % 8 + cond clock.realigns 0 4

abbrev pub sound_phase : Phase → ℕ → ℕ → ℕ → Bool
sound_phase Waiting count since slack = no_bytes count since
sound_phase (Start n) count since slack = within 1 most_low n && no_bytes count since
sound_phase (FrameStart n) count since slack = within 1 most_high n && no_bytes count since
sound_phase ByteStart count since slack = within 1 most_before count && leb since (most_since (10 * count) slack)
sound_phase ByteStartLow count since slack = within 1 most_before count && leb since (most_since (10 * count + 1) slack)
sound_phase (Byte n value) count since slack =
    (leb n 7 && eqb (value / 2 ^ n) 0) && (leb count most_before && leb since (most_since (10 * count + 2 + n) slack))
sound_phase End count since slack = within 8 longest_frame count && leb since (most_since (10 * count) slack)
sound_phase EndHigh count since slack = no_bytes count since

abbrev pub is_waiting : Phase → Bool
is_waiting Waiting = true
is_waiting (Start n) = false
is_waiting (FrameStart n) = false
is_waiting ByteStart = false
is_waiting ByteStartLow = false
is_waiting (Byte n value) = false
is_waiting End = false
is_waiting EndHigh = false

-- The timer, and that nothing has begun before the first vote.
abbrev pub sound_timer : Bool → ℕ → Phase → Bool
sound_timer has_voted timer phase = leb timer idle_samples && (has_voted || (eqb timer 0 && is_waiting phase))

abbrev pub sound : Reader → Bool
sound r =
    sound_clock r.clock
    && (sound_timer (votes r.clock) r.timer r.phase && sound_phase r.phase r.count r.since (slack_of r.clock))
