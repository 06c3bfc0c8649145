-- The layout rule and what reading tries: bytes in three parts, and the bits of each.
use Prim.Native.Nat.{ℕ, ◌+◌, ◌*◌, ◌-◌, ◌/◌, ◌%◌, ◌^◌, ◌<◌, ◌≤◌}
use mathlib.Core.Path.{◌≡◌, sym, ap, ap₂, ◌∙◌}
use mathlib.Core.Bool.{Bool, false, ◌||◌}
use mathlib.Core.List.{List, [], ◌∷◌, ◌++◌, append_assoc}
use native.Mathlib.Nat.{mod-eq_of_lt}
use native.Mathlib.Omega.{arith}
use borrow.Author.Tests.{le-ltb, ne_eqb}
use lib.ListN.{length, take, drop, length-append, length-drop, take-append-drop}
use lib.Seq.{length-take-le, take_all, take-take, drop-drop}
use Rattle.division.specs.Bits.{bits, number, bytes_bits}
use Rattle.division.proofs.BitsLaws.{length-bits, bits_number}
use Rattle.division.proofs.BytesLaws.{length-bytes, bytes_append}
use Rattle.division.proofs.RegisterLaws.{checksum_lt}
use Rattle.base_types.specs.declared.channel.Channel.{Channel}
use Rattle.checksum.specs.Checksums.{header_polynomial, header_start, header_bits}
use Rattle.header.specs.declared.Header.{Header}
use Rattle.header.specs.Layout.{most_words, most_payload, whole_header, header_checksum_of, header_in}
use Rattle.base_types.specs.Slot.{highest_id}
use Rattle.base_types.specs.Cycle.{highest_cycle}
use Rattle.frame.specs.Layout.{frame_checksum_of, Frame}
use Rattle.writing.specs.Refusals.{bad_payload}
use Rattle.frame.specs.Read.{payload_read}
use Rattle.writing.specs.Write.{header_of}
use Rattle.header.proofs.HeaderLaws.{whole_fields}
use Rattle.frame_claims.specs.Exact.{fields_of}

-- ---- a header and its 40 bits

pub length_whole : (h : Header) → length (whole_header h) ≡ 40
length_whole h =
    rw (
      length-append (bits 11 h.id.0) (bits 7 h.words ++ (bits 11 h.checksum ++ bits 6 h.cycle.0)),
      length-append (bits 7 h.words) (bits 11 h.checksum ++ bits 6 h.cycle.0),
      length-append (bits 11 h.checksum) (bits 6 h.cycle.0),
      length-bits 11 h.id.0,
      length-bits 7 h.words,
      length-bits 11 h.checksum,
      length-bits 6 h.cycle.0,
    )

-- a header in range is what its bits say
pub whole_header_lem : (h : Header) → h.id.0 ≤ highest_id → h.words ≤ most_words → h.checksum < 2 ^ 11 → h.cycle.0 ≤ highest_cycle → header_in (whole_header h) ≡ h
whole_header_lem h id words checksum cycle =
    let e1 : h.id.0 % 2 ^ 11 ≡ h.id.0 = mod-eq_of_lt (omega arith) in
    let e2 : h.words % 2 ^ 7 ≡ h.words = mod-eq_of_lt (omega arith) in
    let e3 : h.checksum % 2 ^ 11 ≡ h.checksum = mod-eq_of_lt (omega arith) in
    let e4 : h.cycle.0 % 2 ^ 6 ≡ h.cycle.0 = mod-eq_of_lt (omega arith) in
    whole_fields h ∙ rw (e1, e2, e3, e4)

-- the bits of a field, with all that stands behind it
with_rest : (width : ℕ) (x rest : List Bool) → width ≤ length x → rest ≡ drop width x → bits width (number (take width x)) ++ rest ≡ x
with_rest width x rest h e =
    ap₂ ◌++◌ (bits_number width (take width x) (length-take-le width x h)) e ∙ take-append-drop width x

-- 40 bits are those of the header that they say
pub header_whole : (x : List Bool) → length x ≡ 40 → whole_header (header_in x) ≡ x
unfolding header_in
header_whole [] e = absurd (omega arith)
header_whole (a ∷ []) e = absurd (omega arith)
header_whole (a ∷ b ∷ []) e = absurd (omega arith)
header_whole (a ∷ b ∷ c ∷ []) e = absurd (omega arith)
header_whole (a ∷ b ∷ c ∷ d ∷ []) e = absurd (omega arith)
header_whole (a ∷ b ∷ c ∷ d ∷ f ∷ x) e =
    let all : take 6 (drop 29 x) ≡ drop 29 x = take_all 6 (drop 29 x) (omega (arith, length-drop 29 x)) in
    let cycle : bits 6 (number (take 6 (drop 29 x))) ≡ drop 29 x =
    ap (λ (y : List Bool). bits 6 (number y)) all ∙ bits_number 6 (drop 29 x) (omega (arith, length-drop 29 x)) in
    ap (λ (y : List Bool). a ∷ b ∷ c ∷ d ∷ f ∷ y)
    (with_rest 11 x _ (omega arith)
    (with_rest 7 (drop 11 x) _ (omega (arith, length-drop 11 x))
    (with_rest 11 (drop 18 x) _ (omega (arith, length-drop 18 x)) (cycle ∙ sym (drop-drop 11 18 x)) ∙ sym (drop-drop 7 11 x))))

-- ---- bytes in three parts

pub length-trailer : (bytes : List ℕ) → 8 ≤ length bytes → length (bytes_bits (drop (length bytes - 3) bytes)) ≡ 24
length-trailer bytes h =
    let n : length (drop (length bytes - 3) bytes) ≡ 3 = length-drop (length bytes - 3) bytes ∙ omega arith in
    length-bytes (drop (length bytes - 3) bytes) ∙ ap (λ (k : ℕ). 8 * k) n

pub two_parts : (bytes : List ℕ) → 8 ≤ length bytes
    → bytes_bits (take (length bytes - 3) bytes) ≡ bytes_bits (take 5 bytes) ++ bytes_bits (payload_read bytes)
two_parts bytes h =
    let start = take (length bytes - 3) bytes in
    ap bytes_bits (sym (take-append-drop 5 start)) ∙ bytes_append (take 5 start) (payload_read bytes)
    ∙ ap (λ (l : List ℕ). bytes_bits l ++ bytes_bits (payload_read bytes)) (take-take 5 (length bytes - 3) bytes (omega arith))

pub three_parts : (bytes : List ℕ) → 8 ≤ length bytes
    → bytes_bits bytes ≡ bytes_bits (take 5 bytes) ++ (bytes_bits (payload_read bytes) ++ bytes_bits (drop (length bytes - 3) bytes))
three_parts bytes h =
    let end = length bytes - 3 in
    ap bytes_bits (sym (take-append-drop end bytes)) ∙ bytes_append (take end bytes) (drop end bytes)
    ∙ ap (λ (x : List Bool). x ++ bytes_bits (drop end bytes)) (two_parts bytes h)
    ∙ append_assoc (bytes_bits (take 5 bytes)) (bytes_bits (payload_read bytes)) (bytes_bits (drop end bytes))

pub length-payload : (bytes : List ℕ) → 8 ≤ length bytes → length (payload_read bytes) ≡ length bytes - 8
length-payload bytes h =
    let end = length bytes - 3 in
    let long : length (take end bytes) ≡ end = length-take-le end bytes (omega arith) in
    length-drop 5 (take end bytes) ∙ omega arith

pub header_checksum_small : (h : Header) → header_checksum_of h < 2 ^ 11
header_checksum_small h =
    let small : header_checksum_of h < 2 ^ 11 =
    checksum_lt 11 header_polynomial header_start (header_bits h.sync h.startup h.id.0 h.words) in
    omega arith

-- "A frame has 8 + 2 x words bytes"
pub frame_size : {channel : Channel} {bytes : List ℕ} {header : Header} {payload : List ℕ} → Frame channel bytes header payload
    → length bytes ≡ 8 + 2 * header.words
frame_size {channel} {bytes} {header} {payload} f =
    let t = bits 24 (frame_checksum_of channel header payload) in
    let tail : length (bytes_bits payload ++ t) ≡ 8 * length payload + 24 =
    length-append (bytes_bits payload) t ∙ ap₂ ◌+◌ (length-bytes payload) (length-bits 24 (frame_checksum_of channel header payload)) in
    let whole : length (whole_header header ++ (bytes_bits payload ++ t)) ≡ 40 + (8 * length payload + 24) =
    length-append (whole_header header) (bytes_bits payload ++ t) ∙ ap₂ ◌+◌ (length_whole header) tail in
    omega (arith, length-bytes bytes, ap length f.layout, whole, f.payload_length)

-- a payload of as many words as a header can say
pub good_payload : (payload : List ℕ) (words : ℕ) → length payload ≡ 2 * words → words ≤ most_words → bad_payload payload ≡ false
good_payload payload words long most =
    ap₂ ◌||◌ (ne_eqb (length payload % 2) 1 (λ e. omega arith)) (le-ltb most_payload (length payload) (omega arith))

-- a header is the one that its free fields and its payload give
pub from_fields : (header : Header) (payload : List ℕ) → length payload ≡ 2 * header.words → header.checksum ≡ header_checksum_of header
    → header_of (fields_of header) (length payload / 2) ≡ header
from_fields header payload long checksum =
    let words : length payload / 2 ≡ header.words = omega arith in
    ap (header_of (fields_of header)) words ∙ rw (← checksum)
