-- The entry `write`: what it answers, and what it leaves in the output.
use Rattle.std.specs.Prelude.{ℕ, ◌+◌, ◌/◌, ◌≡◌, List, [], ◌∷◌, ◌++◌, length, Result}
use Rattle.std.specs.Result.{result_unwrap_or}
use Rattle.refusal.specs.Answer.{number_in}
use Rattle.refusal.specs.Refusal.{Line, ◌when◌, first, if_accepted}
use Rattle.division.specs.Bits.{bits, bytes_of}
use Rattle.base_types.specs.declared.channel.Channel.{Channel}
use Rattle.base_types.specs.Channel.{not_a_channel, channel_of}
use Rattle.checksum.specs.Checksums.{header_checksum, frame_checksum}
use Rattle.header.specs.declared.Header.{Header}
use Rattle.header.specs.declared.Fields.{Fields}
use Rattle.header.specs.Layout.{whole_header}
use Rattle.base_types.specs.Slot.{not_an_id}
use Rattle.base_types.specs.Cycle.{cycle_too_high}
use Rattle.header.specs.Refusals.{startup_without_sync}
use Rattle.lent_bytes.specs.Over.{over}
use Rattle.writing.specs.declared.WriteRefusal.{WriteRefusal}
use Rattle.writing.specs.declared.WriteRefusal.TheVariants.{NotAChannel, NotAnId, BadPayload, CycleTooHigh, StartupWithoutSync, ReservedSet, NullFrameNotEmpty, OutputTooShort}
use Rattle.writing.specs.Refusals.{bad_payload, null_frame_not_empty, output_too_short}

-- ---- what is written

-- The header with these fields before so many words: "words follow from the payload, both checksums are worked out".
abbrev pub header_of : Fields → ℕ → Header
header_of f words =
    record {
      reserved = f.reserved;
      preamble = f.preamble;
      null_frame_bit = f.null_frame_bit;
      sync = f.sync;
      startup = f.startup;
      id = f.id;
      words = words;
      checksum = header_checksum f.sync f.startup f.id.0 words;
      cycle = f.cycle;
    }

-- The header's five bytes with the payload behind them, and the whole frame: with the three trailer bytes behind that.
unfoldable pub header_and_payload : Fields → List ℕ → List ℕ
header_and_payload fields payload = bytes_of 5 (whole_header (header_of fields (length payload / 2))) ++ payload

unfoldable pub frame_bytes : Channel → Fields → List ℕ → List ℕ
frame_bytes channel fields payload =
    header_and_payload fields payload ++ bytes_of 3 (bits 24 (frame_checksum channel (header_and_payload fields payload)))

-- ---- what writing answers

-- The number of each refusal.
abbrev pub number_of : WriteRefusal → ℕ
number_of NotAChannel = 1
number_of NotAnId = 9
number_of BadPayload = 10
number_of CycleTooHigh = 11
number_of StartupWithoutSync = 7
number_of ReservedSet = 12
number_of NullFrameNotEmpty = 26
number_of OutputTooShort = 13

-- An answer is the frame's size, or why no frame was written.
abbrev pub Writing : Type 0
Writing = Result ℕ WriteRefusal

-- What an answer says in 01's numbers: the refusal number, 0 for none, and the frame's size, 0 with a refusal.
pub record Told : Type 0 where
  pub number : ℕ
  pub length : ℕ

abbrev pub told : Writing → Told
told answer = record { number = number_in number_of answer; length = result_unwrap_or answer 0 }

-- The refusals of the entry, in their order: "Write: 1, 9, 10, 11, 7, 12, 13", with 26 "after 12 and before 13" (02, C-16).
abbrev pub refusals : ℕ → Fields → List ℕ → List ℕ → List Line
refusals channel fields payload output =
    1 when not_a_channel channel
    ∷ 9 when not_an_id fields.id.0
    ∷ 10 when bad_payload payload
    ∷ 11 when cycle_too_high fields.cycle.0
    ∷ 7 when startup_without_sync fields.startup fields.sync
    ∷ 12 when fields.reserved
    ∷ 26 when null_frame_not_empty fields.null_frame_bit payload
    ∷ 13 when output_too_short payload output
    ∷ []

abbrev pub refusal : ℕ → Fields → List ℕ → List ℕ → ℕ
refusal channel fields payload output = first (refusals channel fields payload output)

-- What is right for this channel number, these fields, this payload and the output as it was.
abbrev pub rule : ℕ → Fields → List ℕ → List ℕ → Told
rule channel fields payload output =
    record {
      number = refusal channel fields payload output;
      length = if_accepted (refusal channel fields payload output) (8 + length payload) 0;
    }

-- The whole output afterwards: the frame over its front, or, with a refusal, as it was.
abbrev pub written : ℕ → Fields → List ℕ → List ℕ → List ℕ
written channel fields payload output =
    if_accepted (refusal channel fields payload output) (over (frame_bytes (channel_of channel) fields payload) output) output

-- The statement of the entry.
pub record WriteSays (channel : ℕ) (fields : Fields) (payload before after : List ℕ) (answer : Writing) : Type 0 where
  pub answers : told answer ≡ rule channel fields payload before
  pub writes : after ≡ written channel fields payload before
