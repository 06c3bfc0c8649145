-- The conditions behind the refusals of reading, each alone (01, "Refusal numbers": "given exactly when"), but for 7, which is in the
-- crate `header`, and for 1, which is `not_a_channel` of the crate `base_types`.
use Rattle.std.specs.Prelude.{ℕ, ◌+◌, ◌*◌, ◌-◌, Bool, not, ◌||◌, List, eqb, ltb, length, take}
use Rattle.division.specs.Bits.{odd}
use Rattle.base_types.specs.declared.channel.Channel.{Channel}
use Rattle.checksum.specs.declared.pair.ChecksumPair.{ChecksumPair}
use Rattle.checksum.specs.Checksums.{frame_checksum}
use Rattle.checksum.specs.Pair.{differ}
use Rattle.header.specs.declared.Header.{Header}
use Rattle.header.specs.Layout.{longest_frame, header_checksums}

-- 2: "fewer than 8 bytes".
abbrev pub too_short : List ℕ → Bool
too_short bytes = ltb (length bytes) 8

-- 3: "odd size, or more than 262".
abbrev pub bad_size : List ℕ → Bool
bad_size bytes = odd (length bytes) || ltb longest_frame (length bytes)

-- 4: "header checksum differs".
abbrev pub header_checksum_differs : Header → Bool
header_checksum_differs header = differ (header_checksums header)

-- 5: "8 + 2 x words is not the size".
abbrev pub words_not_size : Header → List ℕ → Bool
words_not_size header bytes = not (eqb (8 + 2 * header.words) (length bytes))

-- 6: "frame ID read is 0".
abbrev pub id_zero : Header → Bool
id_zero header = eqb header.id.0 0

-- The frame checksum of a trailer, and that of all that stands before it.
abbrev pub frame_checksums : Channel → List ℕ → ℕ → ChecksumPair
frame_checksums channel bytes trailer = record { found = trailer; expected = frame_checksum channel (take (length bytes - 3) bytes) }

-- 8: "frame checksum differs".
abbrev pub frame_checksum_differs : Channel → List ℕ → ℕ → Bool
frame_checksum_differs channel bytes trailer = differ (frame_checksums channel bytes trailer)
