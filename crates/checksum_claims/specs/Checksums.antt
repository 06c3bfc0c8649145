-- Claims about both checksums: what division gives a header of 11 checksum bits and a frame of 24. The customer's third condition
-- rests on them: two different byte strings that are accepted on one channel differ in an even number of bits, never all within 24
-- consecutive ones, and no byte string is accepted on both channels.
use Rattle.std.specs.Prelude.{ℕ, ◌*◌, ◌≤◌, ◌≡◌, Bool, true, false, List, [], ◌∷◌, length, replicate}
use Rattle.header.specs.Layout.{longest_frame}
use Rattle.division.specs.Bits.{bytes_bits}
use Rattle.division.specs.Division.{checksum}
use Rattle.division.specs.Word.{word, EndsInChecksum}
use Rattle.division.specs.Differing.{differing, first_differing, last_differing}
use Rattle.division.specs.Facts.{Facts}
use Rattle.base_types.specs.declared.channel.Channel.TheVariants.{A, B}
use Rattle.base_types.specs.Channel.{start_of}
use Rattle.checksum.specs.Checksums.{header_polynomial, header_start, header_bits, frame_polynomial, frame_checksum}

-- Every fact of division holds for the header checksum, and for the frame checksum.
abbrev pub HeaderFacts : Type 0
HeaderFacts = Facts 11 header_polynomial

abbrev pub FrameFacts : Type 0
FrameFacts = Facts 24 frame_polynomial

-- The header checksum goes over 20 bits.
abbrev pub HeaderTwenty : Type 0
HeaderTwenty = (sync startup : Bool) (id words : ℕ) → length (header_bits sync startup id words) ≡ 20

-- No bytes have one frame checksum on both channels.
abbrev pub ChannelsApart : Type 0
ChannelsApart = (bytes : List ℕ) → frame_checksum A bytes ≡ frame_checksum B bytes → ⊥

-- Two different words of at most the longest frame's bits that end in their own frame checksum differ in at least four bits.
abbrev pub FramesFour : Type 0
FramesFour =
    (start : ℕ) (x y : List Bool) → length x ≡ length y → length x ≤ 8 * longest_frame → (x ≡ y → ⊥)
    → EndsInChecksum 24 frame_polynomial start x → EndsInChecksum 24 frame_polynomial start y
    → 4 ≤ differing x y

-- Neither bound can be raised. Two words whose messages are one bit, 0 and 1, differ first in place 0 and last in place 24; and two
-- of 2,049 bits, whose messages differ in their first two, differ in four.
abbrev pub BurstExact : Type 0
BurstExact =
    let x : List Bool = word 24 frame_polynomial (start_of A) (false ∷ []) in
    let y : List Bool = word 24 frame_polynomial (start_of A) (true ∷ []) in
    (first_differing x y ≡ 0) × (last_differing x y ≡ 24)

abbrev pub FourExact : Type 0
FourExact =
    differing (word 24 frame_polynomial (start_of A) (false ∷ false ∷ replicate 2023 false))
    (word 24 frame_polynomial (start_of A) (true ∷ true ∷ replicate 2023 false))
    ≡ 4

-- The public catalogue's check value for the header checksum's polynomial and start value, of the nine ASCII digits 1 to 9.
abbrev pub HeaderCheckValue : Type 0
HeaderCheckValue =
    checksum 11 header_polynomial header_start (bytes_bits (49 ∷ 50 ∷ 51 ∷ 52 ∷ 53 ∷ 54 ∷ 55 ∷ 56 ∷ 57 ∷ [])) ≡ 0x5A3
