-- The header checksum and the frame checksum (01, "Frame layout").
use Rattle.std.specs.Prelude.{ℕ, Bool, List, [], ◌∷◌, ◌++◌}
use Rattle.division.specs.Bits.{bits, bytes_bits}
use Rattle.division.specs.Division.{checksum}
use Rattle.division.specs.Polynomial.{terms}
use Rattle.base_types.specs.declared.channel.Channel.{Channel}
use Rattle.base_types.specs.Channel.{start_of}

-- "x^11+x^9+x^8+x^7+x^2+1", without its top term: 0x385.
abbrev pub header_polynomial : ℕ
header_polynomial = terms (9 ∷ 8 ∷ 7 ∷ 2 ∷ 0 ∷ [])

-- "start value 0x01A".
abbrev pub header_start : ℕ
header_start = 0x01A

-- What the header checksum's division makes of any bits.
abbrev pub header_division : List Bool → ℕ
header_division message = checksum 11 header_polynomial header_start message

-- The 20 bits under the header checksum: "sync, startup, frame ID, payload length, in that order".
abbrev pub header_bits : Bool → Bool → ℕ → ℕ → List Bool
header_bits sync startup id words = sync ∷ startup ∷ (bits 11 id ++ bits 7 words)

abbrev pub header_checksum : Bool → Bool → ℕ → ℕ → ℕ
header_checksum sync startup id words = header_division (header_bits sync startup id words)

-- "x^24+x^22+x^20+x^19+x^18+x^16+x^14+x^13+x^11+x^10+x^8+x^7+x^6+x^3+x+1", without its top term: 0x5D6DCB.
abbrev pub frame_polynomial : ℕ
frame_polynomial = terms (22 ∷ 20 ∷ 19 ∷ 18 ∷ 16 ∷ 14 ∷ 13 ∷ 11 ∷ 10 ∷ 8 ∷ 7 ∷ 6 ∷ 3 ∷ 1 ∷ 0 ∷ [])

-- What the frame checksum's division makes of any bits on a channel.
abbrev pub frame_division : Channel → List Bool → ℕ
frame_division channel message = checksum 24 frame_polynomial (start_of channel) message

-- The checksum of bytes on a channel. In a frame they are "the whole header (its checksum included) and the payload".
abbrev pub frame_checksum : Channel → List ℕ → ℕ
frame_checksum channel bytes = frame_division channel (bytes_bits bytes)
