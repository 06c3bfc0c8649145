-- The entries `read` and `payload`: what they answer for a channel number and bytes.
use Rattle.std.specs.Prelude.{ℕ, ◌+◌, ◌-◌, ◌≡◌, Bool, ◌||◌, cond, List, [], ◌∷◌, eqb, length, take, drop, Result, Ok, Err}
use Rattle.std.specs.Result.{result_unwrap_or}
use Rattle.refusal.specs.Answer.{number_in}
use Rattle.refusal.specs.Refusal.{Line, ◌when◌, first, if_accepted}
use Rattle.division.specs.Bits.{number, bytes_bits}
use Rattle.base_types.specs.declared.channel.Channel.{Channel}
use Rattle.base_types.specs.Channel.{not_a_channel, channel_of}
use Rattle.checksum.specs.declared.pair.ChecksumPair.{ChecksumPair}
use Rattle.checksum.specs.Pair.{no_checksums}
use Rattle.header.specs.declared.Header.{Header}
use Rattle.header.specs.Layout.{header_checksums, header_in, no_header}
use Rattle.header.specs.Refusals.{startup_without_sync}
use Rattle.frame.specs.declared.ReadRefusal.{ReadRefusal}
use Rattle.frame.specs.declared.ReadRefusal.TheVariants.{NotAChannel, TooShort, BadSize, HeaderChecksumDiffers, WordsNotSize, IdZero, StartupWithoutSync, FrameChecksumDiffers}
use Rattle.frame.specs.Refusals.{too_short, bad_size, header_checksum_differs, words_not_size, id_zero, frame_checksums, frame_checksum_differs}

-- ---- what is read

-- The header that bytes begin with.
abbrev pub header_read : List ℕ → Header
header_read bytes = header_in (bytes_bits bytes)

-- The payload: "bytes 5 up to size minus 3".
abbrev pub payload_read : List ℕ → List ℕ
payload_read bytes = drop 5 (take (length bytes - 3) bytes)

-- The frame checksum in the three trailer bytes.
abbrev pub trailer_read : List ℕ → ℕ
trailer_read bytes = number (bytes_bits (drop (length bytes - 3) bytes))

-- ---- what reading answers

-- What an answer says in 01's numbers: the refusal number, 0 for none, the header, and the checksums that were found and worked out.
pub record Told : Type 0 where
  pub number : ℕ
  pub header : Header
  pub checksums : ChecksumPair

-- A refusal that tells two checksums, and one that tells 0 for both.
abbrev pub refused_with : ℕ → ChecksumPair → Told
refused_with n checksums = record { number = n; header = no_header; checksums = checksums }

abbrev pub refused : ℕ → Told
refused n = refused_with n no_checksums

-- The number of each refusal.
abbrev pub number_of : ReadRefusal → ℕ
number_of NotAChannel = 1
number_of TooShort = 2
number_of BadSize = 3
number_of (HeaderChecksumDiffers checksums) = 4
number_of WordsNotSize = 5
number_of IdZero = 6
number_of StartupWithoutSync = 7
number_of (FrameChecksumDiffers checksums) = 8

-- The two checksums that each tells.
abbrev pub checksums_of : ReadRefusal → ChecksumPair
checksums_of NotAChannel = no_checksums
checksums_of TooShort = no_checksums
checksums_of BadSize = no_checksums
checksums_of (HeaderChecksumDiffers checksums) = checksums
checksums_of WordsNotSize = no_checksums
checksums_of IdZero = no_checksums
checksums_of StartupWithoutSync = no_checksums
checksums_of (FrameChecksumDiffers checksums) = checksums

-- An answer is the header, or why the bytes are refused.
abbrev pub Reading : Type 0
Reading = Result Header ReadRefusal

abbrev pub checksums_in : Reading → ChecksumPair
checksums_in (Ok header) = no_checksums
checksums_in (Err refusal) = checksums_of refusal

abbrev pub told : Reading → Told
told answer =
    record { number = number_in number_of answer; header = result_unwrap_or answer no_header; checksums = checksums_in answer }

-- The refusals of reading on a channel, and, before them, that of a number that names none: "Read: 1 to 8 as numbered".
abbrev pub refusals_on : Channel → List ℕ → List Line
refusals_on channel bytes =
    2 when too_short bytes
    ∷ 3 when bad_size bytes
    ∷ 4 when header_checksum_differs (header_read bytes)
    ∷ 5 when words_not_size (header_read bytes) bytes
    ∷ 6 when id_zero (header_read bytes)
    ∷ 7 when startup_without_sync (header_read bytes).startup (header_read bytes).sync
    ∷ 8 when frame_checksum_differs channel bytes (trailer_read bytes)
    ∷ []

abbrev pub refusals : ℕ → List ℕ → List Line
refusals channel bytes = 1 when not_a_channel channel ∷ refusals_on (channel_of channel) bytes

-- "Refusals 4 and 8 shall also return the checksum found in the bytes and the one worked out; all other refusals return 0 for both" (02,
-- C-18).
abbrev pub tells_checksums : ℕ → Bool
tells_checksums refusal = eqb refusal 4 || eqb refusal 8

abbrev pub checksums_beside : ℕ → Channel → List ℕ → ChecksumPair
checksums_beside refusal channel bytes =
    cond (eqb refusal 4) (header_checksums (header_read bytes))
    (cond (eqb refusal 8) (frame_checksums channel bytes (trailer_read bytes)) no_checksums)

-- What is right to tell of bytes on a channel, given the number of their refusal.
abbrev pub tells : ℕ → Channel → List ℕ → Told
tells refusal channel bytes =
    record {
      number = refusal;
      header = if_accepted refusal (header_read bytes) no_header;
      checksums = checksums_beside refusal channel bytes;
    }

-- What is right on a channel, and on one that is given by its number.
abbrev pub rule_on : Channel → List ℕ → Told
rule_on channel bytes = tells (first (refusals_on channel bytes)) channel bytes

abbrev pub rule : ℕ → List ℕ → Told
rule channel bytes = tells (first (refusals channel bytes)) (channel_of channel) bytes

abbrev pub part_rule : ℕ → List ℕ → List ℕ
part_rule refusal bytes = if_accepted refusal (payload_read bytes) []

-- ---- the statements

abbrev pub ReadSays : ℕ → List ℕ → Reading → Type 0
ReadSays channel bytes answer = told answer ≡ rule channel bytes

abbrev pub ReadOnSays : Channel → List ℕ → Reading → Type 0
ReadOnSays channel bytes answer = told answer ≡ rule_on channel bytes

abbrev pub PayloadSays : ℕ → List ℕ → List ℕ → Type 0
PayloadSays channel bytes payload = payload ≡ part_rule (first (refusals channel bytes)) bytes

-- "the payload is handed back as the caller's own bytes, uncopied": the part lies in the slice that was handed in, from its byte 5 on;
-- the empty part of a refusal lies at its first byte. A place is a block of memory and an offset in it.
abbrev pub behind : ℕ → ℕ × ℕ → ℕ × ℕ
behind offset place = (place.0, offset + place.1)

abbrev pub payload_offset : ℕ → ℕ
payload_offset refusal = if_accepted refusal 5 0

abbrev pub PayloadLies : ℕ → List ℕ → ℕ × ℕ → ℕ × ℕ → Type 0
PayloadLies channel bytes place at = at ≡ behind (payload_offset (first (refusals channel bytes))) place
