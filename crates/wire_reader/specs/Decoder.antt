-- From bits to frames: what each strobed bit means (document 02, C-13; 002, sections 3.2.6, 3.2.7 and 3.3.6).
use Rattle.std.specs.Prelude.{ℕ, suc, ◌+◌, ◌*◌, Bool, true, false, ◌&&◌, cond, List, eqb, ltb, leb, length, take, set}
use Rattle.division.specs.Bits.{bit}
use Rattle.base_types.specs.declared.channel.Channel.{Channel}
use Rattle.checksum.specs.declared.pair.ChecksumPair.{ChecksumPair}
use Rattle.header.specs.declared.Header.{Header}
use Rattle.header.specs.Layout.{header_checksums}
use Rattle.frame.specs.Refusals.{header_checksum_differs}
use Rattle.frame.specs.Read as read
use Rattle.wire_reader.specs.declared.phase.Phase.{Phase}
use Rattle.wire_reader.specs.declared.phase.Phase.TheVariants.{Waiting, Start, FrameStart, ByteStart, ByteStartLow, Byte, End, EndHigh}

-- What a bit, and so a sample, tells: nothing; a frame, by its header, its size and the samples since its reference point; or what is wrong, as
-- reading would tell it.
pub data Told : Type 0 where
  nothing : Told
  frame : Header → ℕ → ℕ → Told
  wrong : read.Told → Told

abbrev pub is_nothing : Told → Bool
is_nothing nothing = true
is_nothing (frame header size since) = false
is_nothing (wrong told) = false

-- Where a reader is in a frame: its phase, how many bytes have come, the samples since the reference point, and the memory, whose first bytes
-- they are.
pub record Place : Type 0 where
  pub phase : Phase
  pub count : ℕ
  pub since : ℕ
  pub memory : List ℕ

-- The place after a bit, and what the bit tells.
pub record Decoded : Type 0 where
  pub place : Place
  pub told : Told

abbrev pub moved : Phase → ℕ → ℕ → List ℕ → Decoded
moved phase count since memory =
    record { place = record { phase = phase; count = count; since = since; memory = memory }; told = nothing }

-- A phase without bytes: no count, and no reference point.
abbrev pub without : Phase → List ℕ → Place
without phase memory = record { phase = phase; count = 0; since = 0; memory = memory }

abbrev pub entered : Phase → List ℕ → Decoded
entered phase memory = record { place = without phase memory; told = nothing }

-- "stop and wait for idle": behind an error nothing else is done.
abbrev pub failed : read.Told → List ℕ → Decoded
failed told memory = record { place = without Waiting memory; told = wrong told }

-- ---- bytes

-- The header of the bytes so far, once there are five.
unfoldable pub header_wrong : List ℕ → Bool
header_wrong bytes = eqb (length bytes) 5 && header_checksum_differs (read.header_read bytes)

-- The two checksums that are told with it, as reading tells them beside 4 (02, C-18).
abbrev pub checksums_of : List ℕ → ChecksumPair
checksums_of bytes = header_checksums (read.header_read bytes)

-- There are as many bytes as the header says: "8 + 2 x words".
unfoldable pub complete : List ℕ → Bool
complete bytes = leb (8 + 2 * (read.header_read bytes).words) (length bytes)

-- After a byte.
abbrev pub behind_byte : ℕ → ℕ → List ℕ → Decoded
behind_byte count since memory =
    cond (header_wrong (take count memory)) (failed (read.refused_with 4 (checksums_of (take count memory))) memory)
    (moved (cond (complete (take count memory)) End ByteStart) count since memory)

-- At the low bit of the end, by what reading tells of the bytes.
abbrev pub judged : read.Told → ℕ → ℕ → List ℕ → Decoded
judged told count since memory =
    cond (eqb told.number 0)
    (record { place = without EndHigh memory; told = frame told.header count since })
    (failed told memory)

-- ---- a bit

-- The most low bits of a start: 15 that are sent, and 2 more (002, section 3.2.6).
abbrev pub most_low : ℕ
most_low = 17

-- The most high bits behind it: the frame start bit and that of the first byte start, and one more (002, section 3.2.7.3).
abbrev pub most_high : ℕ
most_high = 3

-- After a bit, by phase. `idle` tells that the channel is idle at its strobe; since is with its sample.
abbrev pub decoded : Phase → Bool → Channel → Bool → ℕ → ℕ → List ℕ → Decoded
decoded Waiting true channel idle count since memory = entered Waiting memory
decoded Waiting false channel idle count since memory = entered (cond idle (Start 1) Waiting) memory
decoded (Start n) false channel idle count since memory = cond (ltb n most_low) (entered (Start (n + 1)) memory) (failed (read.refused 30) memory)
decoded (Start n) true channel idle count since memory = entered (FrameStart 1) memory
decoded (FrameStart n) true channel idle count since memory =
    cond (ltb n most_high) (entered (FrameStart (n + 1)) memory) (failed (read.refused 31) memory)
decoded (FrameStart n) false channel idle count since memory = entered (Byte 0 0) memory
decoded ByteStart true channel idle count since memory = moved ByteStartLow count since memory
decoded ByteStart false channel idle count since memory = failed (read.refused 32) memory
decoded ByteStartLow false channel idle count since memory = moved (Byte 0 0) count since memory
decoded ByteStartLow true channel idle count since memory = failed (read.refused 33) memory
decoded (Byte n value) b channel idle count since memory =
    cond (ltb n 7) (moved (Byte (n + 1) (value * 2 + bit b)) count since memory)
    (behind_byte (count + 1) since (set memory count (value * 2 + bit b)))
decoded End false channel idle count since memory = judged (read.rule_on channel (take count memory)) count since memory
decoded End true channel idle count since memory = failed (read.refused 34) memory
decoded EndHigh true channel idle count since memory = entered Waiting memory
decoded EndHigh false channel idle count since memory = failed (read.refused 35) memory

-- The next bit is one of a byte's eight.
abbrev pub is_data : Phase → Bool
is_data Waiting = false
is_data (Start n) = false
is_data (FrameStart n) = false
is_data ByteStart = false
is_data ByteStartLow = false
is_data (Byte n value) = true
is_data End = false
is_data EndHigh = false

-- The reference point is behind, and the samples since are counted.
abbrev pub is_timed : Phase → Bool
is_timed Waiting = false
is_timed (Start n) = false
is_timed (FrameStart n) = false
is_timed ByteStart = true
is_timed ByteStartLow = true
is_timed (Byte n value) = true
is_timed End = true
is_timed EndHigh = false

-- One sample more.
abbrev pub counted : Phase → ℕ → ℕ
counted phase since = cond (is_timed phase) (suc since) 0
