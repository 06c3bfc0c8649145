-- The entry `listen`: what it answers, the reader that comes back, and what it leaves in the memory.
use Rattle.std.specs.Prelude.{ℕ, ◌≡◌, Bool, not, List, [], ◌∷◌, map, eqb, ltb, length, Some, None, Result, Ok, Err}
use Rattle.std.specs.Result.{result_unwrap_or}
use Rattle.refusal.specs.Answer as answers
use Rattle.refusal.specs.Refusal.{Line, ◌when◌, first, if_accepted}
use Rattle.checksum.specs.declared.pair.ChecksumPair.{ChecksumPair}
use Rattle.checksum.specs.Pair.{no_checksums}
use Rattle.header.specs.Layout.{longest_frame}
use Rattle.frame.specs.Read as read
use Rattle.wire_reader.specs.declared.event.WireError.{WireError}
use Rattle.wire_reader.specs.declared.listening.ListenRefusal.{ListenRefusal}
use Rattle.wire_reader.specs.declared.listening.ListenRefusal.TheVariants.{NotSound, MemoryTooShort}
use Rattle.wire_reader.specs.declared.listening.Listened.{Listened}
use Rattle.wire_reader.specs.declared.reader.Reader.{Reader}
use Rattle.wire_reader.specs.Decoder as decoder
use Rattle.wire_reader.specs.Reader.{Piece, piece, state_of, reader_of}
use Rattle.wire_reader.specs.Sound.{sound}
use Rattle.wire_reader.specs.Event.{Event, number_of, checksums_of}

-- "0 is low", and every other sample is high.
abbrev pub is_high : ℕ → Bool
is_high sample = not (eqb sample 0)

-- ---- what is told

-- What is wrong, as reading would tell it.
abbrev pub error_told : WireError → read.Told
error_told error = read.refused_with (number_of error) (checksums_of error)

-- What an event says in 01's numbers, as the rule of a bit tells it.
abbrev pub told_by : Event → decoder.Told
told_by None = decoder.nothing
told_by (Some (Ok heard)) = decoder.frame heard.header heard.size heard.since
told_by (Some (Err error)) = decoder.wrong (error_told error)

-- The number of an event: 0, or that of the error.
abbrev pub number_in : decoder.Told → ℕ
number_in decoder.nothing = 0
number_in (decoder.frame header size since) = 0
number_in (decoder.wrong told) = told.number

-- The two checksums of an event: those that reading tells, and 0 for both where it tells nothing (02, C-18).
abbrev pub checksums_in : decoder.Told → ChecksumPair
checksums_in decoder.nothing = no_checksums
checksums_in (decoder.frame header size since) = no_checksums
checksums_in (decoder.wrong told) = told.checksums

-- What the answer says: the refusal, 0 for none, and the event, which beside a refusal is none.
pub record Told : Type 0 where
  pub refusal : ℕ
  pub event : decoder.Told

-- An answer is what was heard, or why nothing was listened to.
abbrev pub Listening : Type 0
Listening = Result Event ListenRefusal

-- The number of each refusal.
abbrev pub refusal_number : ListenRefusal → ℕ
refusal_number NotSound = 23
refusal_number MemoryTooShort = 36

abbrev pub told : Listening → Told
told answer = record { refusal = answers.number_in refusal_number answer; event = told_by (result_unwrap_or answer None) }

-- ---- the refusals

-- 36: "memory shorter than 262 bytes", the longest frame.
abbrev pub memory_too_short : List ℕ → Bool
memory_too_short memory = ltb (length memory) longest_frame

abbrev pub listen_refusals : Reader → List ℕ → List Line
listen_refusals reader memory = 23 when not (sound reader) ∷ 36 when memory_too_short memory ∷ []

abbrev pub refusal : Reader → List ℕ → ℕ
refusal reader memory = first (listen_refusals reader memory)

-- ---- the statement

-- What the rule makes of samples that a reader listens to, with the memory as it was.
abbrev pub heard : Reader → List ℕ → List ℕ → Piece
heard reader samples memory = piece reader.channel (state_of reader memory) (map is_high samples)

-- Result, state and memory. With a refusal no sample is taken, the reader is the one that was handed in, and the memory is as it was.
pub record ListenSays (reader : Reader) (samples before after : List ℕ) (r : Listened) : Type 0 where
  pub answers : let n = refusal reader before in
      told r.answer ≡ record { refusal = n; event = if_accepted n (heard reader samples before).told decoder.nothing }
  pub takes : r.taken ≡ if_accepted (refusal reader before) (heard reader samples before).taken 0
  pub leaves : r.reader ≡ if_accepted (refusal reader before) (reader_of reader.channel (heard reader samples before).state) reader
  pub keeps : after ≡ if_accepted (refusal reader before) (heard reader samples before).state.place.memory before
