-- What the functions inside say of a bit, of a sample and of a piece, in the terms of the rules.
use Rattle.std.specs.Prelude.{ℕ, ◌≤◌, ◌≡◌, cond, List, Result, Ok, Err}
use Rattle.base_types.specs.declared.channel.Channel.{Channel}
use Rattle.frame.specs.declared.ReadRefusal.{ReadRefusal}
use Rattle.frame.specs.declared.ReadRefusal.TheVariants.{HeaderChecksumDiffers}
use Rattle.wire_reader.specs.declared.phase.Phase.{Phase}
use Rattle.wire_reader.specs.declared.phase.Phase.TheVariants.{Waiting, Start, FrameStart, ByteStart, ByteStartLow, Byte, End, EndHigh}
use Rattle.wire_reader.specs.declared.decoder.Decoded as code
use Rattle.wire_reader.specs.declared.reader.Sampled.{Sampled}
use Rattle.wire_reader.specs.declared.listening.Listened.{Listened}
use Rattle.wire_reader.specs.Decoder.{Decoded, header_wrong, checksums_of, complete}
use Rattle.wire_reader.specs.Reader.{Step, Piece, state_of, reader_of}
use Rattle.wire_reader.specs.Listening.{told_by, told}

-- What comes of a bit, with the memory as it is then.
abbrev pub decoded_by : code.Decoded → List ℕ → Decoded
decoded_by d memory =
    record {
      place = record { phase = d.phase; count = d.bytes.count; since = d.bytes.since; memory = memory };
      told = told_by d.event;
    }

-- The phase behind these bytes of a frame, or what is wrong with them.
abbrev pub after_of : List ℕ → Result Phase ReadRefusal
after_of bytes = cond (header_wrong bytes) (Err (HeaderChecksumDiffers (checksums_of bytes))) (Ok (cond (complete bytes) End ByteStart))

-- A bit needs room: for the byte that it may end, and for the bits of that byte.
abbrev pub most_bytes : Phase → ℕ
most_bytes Waiting = 261
most_bytes (Start n) = 261
most_bytes (FrameStart n) = 261
most_bytes ByteStart = 261
most_bytes ByteStartLow = 261
most_bytes (Byte n value) = 261
most_bytes End = 262
most_bytes EndHigh = 261

abbrev pub bits_in : Phase → ℕ
bits_in Waiting = 0
bits_in (Start n) = 0
bits_in (FrameStart n) = 0
bits_in ByteStart = 0
bits_in ByteStartLow = 0
bits_in (Byte n value) = value
bits_in End = 0
bits_in EndHigh = 0

pub record RoomFor (phase : Phase) (count : ℕ) : Type 0 where
  pub bytes : count ≤ most_bytes phase
  pub bits : bits_in phase ≤ 127

-- What comes of a sample.
abbrev pub step_by : Sampled → List ℕ → Step
step_by r memory = record { state = state_of r.reader memory; told = told_by r.event }

-- What comes of a piece.
pub record TakeSays (channel : Channel) (p : Piece) (memory : List ℕ) (r : Listened) : Type 0 where
  pub answers : told r.answer ≡ record { refusal = 0; event = p.told }
  pub takes : r.taken ≡ p.taken
  pub leaves : r.reader ≡ reader_of channel p.state
  pub keeps : memory ≡ p.state.place.memory
