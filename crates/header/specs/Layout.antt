-- What a header is (01, "Frame layout"): which bits its fields make, in the order in which they are sent, and which fields stand in
-- bits.
use Rattle.std.specs.Prelude.{ℕ, ◌+◌, ◌*◌, Bool, false, List, ◌∷◌, ◌++◌, get_or, take, drop}
use Rattle.division.specs.Bits.{bits, number}
use Rattle.checksum.specs.declared.pair.ChecksumPair.{ChecksumPair}
use Rattle.checksum.specs.Checksums.{header_checksum}
use Rattle.header.specs.declared.Header.{Header}

-- "payload length in 2-byte words, 0 to 127".
abbrev pub most_words : ℕ
most_words = 127

-- The longest payload, in bytes: two to a word.
abbrev pub most_payload : ℕ
most_payload = 2 * most_words

-- "A frame has 8 + 2 x words bytes: 8 to 262".
abbrev pub longest_frame : ℕ
longest_frame = 8 + most_payload

-- The table of 01: five indicators of one bit, 11 bits of frame ID, 7 of payload length, 11 of header checksum, 6 of cycle.
abbrev pub whole_header : Header → List Bool
whole_header h =
    h.reserved ∷ h.preamble ∷ h.null_frame_bit ∷ h.sync ∷ h.startup
    ∷ (bits 11 h.id.0 ++ (bits 7 h.words ++ (bits 11 h.checksum ++ bits 6 h.cycle.0)))

-- The header checksum that belongs to a header: "over sync, startup, frame ID, payload length, in that order".
abbrev pub header_checksum_of : Header → ℕ
header_checksum_of h = header_checksum h.sync h.startup h.id.0 h.words

-- The header checksum that stands in a header, and the one that belongs to it.
abbrev pub header_checksums : Header → ChecksumPair
header_checksums h = record { found = h.checksum; expected = header_checksum_of h }

-- The bit at a place, and the number in `width` bits from a place on. Places count from 0 in sending order.
abbrev pub flag : ℕ → List Bool → Bool
flag place x = get_or x place false

abbrev pub field : ℕ → ℕ → List Bool → ℕ
field place width x = number (take width (drop place x))

-- The header at the front of bits: five indicators, then each field of 01's table behind those before it.
unfoldable pub header_in : List Bool → Header
header_in x =
    record {
      reserved = flag 0 x;
      preamble = flag 1 x;
      null_frame_bit = flag 2 x;
      sync = flag 3 x;
      startup = flag 4 x;
      id = record { 0 = field 5 11 x };
      words = field (5 + 11) 7 x;
      checksum = field (5 + 11 + 7) 11 x;
      cycle = record { 0 = field (5 + 11 + 7 + 11) 6 x };
    }

-- All zeros, all flags clear: what comes back beside a refusal.
abbrev pub no_header : Header
no_header =
    record {
      reserved = false;
      preamble = false;
      null_frame_bit = false;
      sync = false;
      startup = false;
      id = record { 0 = 0 };
      words = 0;
      checksum = 0;
      cycle = record { 0 = 0 };
    }
