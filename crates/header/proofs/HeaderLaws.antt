-- The 40 bits of a header as those of a number: its fields taken out, and put in.
use Prim.Native.Nat.{ℕ, suc, ◌+◌, ◌*◌, ◌/◌, ◌%◌, ◌^◌, ◌<◌, ◌≤◌}
use mathlib.Core.Path.{◌≡◌, refl, sym, ap, ap₂, ◌∙◌}
use mathlib.Core.Bool.{Bool, true, false}
use mathlib.Core.List.{List, [], ◌∷◌, ◌++◌, append_assoc, append-nil}
use native.Mathlib.Omega.{arith}
use native.Mathlib.Nat.{mod-lt, div-one}
use native.Mathlib.Numerals.{add-one}
use borrow.Author.Tests.{eq-eqb, ne_eqb}
use lib.Pow.{shr-shr, high, low, pow_pos}
use lib.ListN.{length, take, drop, length-append, length-drop, get_or-append}
use lib.Seq.{take_at, drop_at, get_or_at, take-append-le, drop-append-le}
use Rattle.std.specs.Int.{from_bool as bit}
use Rattle.division.specs.Bits.{odd, bits, number}
use Rattle.division.proofs.BitsLaws.{length-bits, number_bits}
use Rattle.division.proofs.BytesLaws.{number_take-lt, bits_mod, bits_split}
use Rattle.checksum.specs.Checksums.{header_division, header_bits}
use Rattle.header.specs.declared.Header.{Header}
use Rattle.header.specs.Layout.{whole_header, header_checksum_of, flag, field, header_in}

-- ---- taken out

-- a field of `width` bits, with `place` bits before it and `behind` after it
pub field_bits : (place width behind n : ℕ) → field place width (bits (place + (width + behind)) n) ≡ n / 2 ^ behind % 2 ^ width
field_bits place width behind n =
    let before = bits place (n / 2 ^ (width + behind)) in
    let here = bits width (n / 2 ^ behind) in
    ap (λ (x : List Bool). number (take width (drop place x)))
    (bits_split place (width + behind) n ∙ ap (λ (x : List Bool). before ++ x) (bits_split width behind n))
    ∙ ap (λ (x : List Bool). number (take width x)) (drop_at before (here ++ bits behind n) place (length-bits place _))
    ∙ ap number (take_at here (bits behind n) width (length-bits width _))
    ∙ number_bits width (n / 2 ^ behind)

-- a bit, with `place` bits before it and `behind` after it
pub flag_bits : (place behind n : ℕ) → flag place (bits (place + suc behind) n) ≡ odd (n / 2 ^ behind)
unfolding bits
flag_bits place behind n =
    let before = bits place (n / 2 ^ suc behind) in
    ap (flag place) (bits_split place (suc behind) n)
    ∙ get_or_at before (odd (n / 2 ^ behind)) (bits behind n) false place (length-bits place (n / 2 ^ suc behind))

-- a header's fields, each taken out of a number
pub unpacked_header : (n : ℕ)
    → header_in (bits 40 n)
    ≡ record {
      reserved = odd (n / 2 ^ 39);
      preamble = odd (n / 2 ^ 38);
      null_frame_bit = odd (n / 2 ^ 37);
      sync = odd (n / 2 ^ 36);
      startup = odd (n / 2 ^ 35);
      id = record { 0 = n / 2 ^ 24 % 2 ^ 11 };
      words = n / 2 ^ 17 % 2 ^ 7;
      checksum = n / 2 ^ 6 % 2 ^ 11;
      cycle = record { 0 = n % 2 ^ 6 };
    }
unfolding header_in
unpacked_header n =
    let last : field 34 6 (bits 40 n) ≡ n % 2 ^ 6 = field_bits 34 6 0 n ∙ ap (λ (k : ℕ). k % 2 ^ 6) (div-one n) in
    rw (flag_bits 0 39 n, flag_bits 1 38 n, flag_bits 2 37 n, flag_bits 3 36 n, flag_bits 4 35 n, field_bits 5 11 24 n, field_bits 16 7 17 n, field_bits 23 11 6 n, last)

two_bits : (k n : ℕ) → bits (suc (suc k)) n ≡ odd (n / 2 ^ suc k) ∷ odd (n / 2 ^ k) ∷ bits k n
unfolding bits
two_bits k n = refl

-- a number's bits behind a shift are those of its field
shifted_field : (place width behind n : ℕ) → bits width (n / 2 ^ behind) ≡ bits width (field place width (bits (place + (width + behind)) n))
shifted_field place width behind n = sym (bits_mod width (n / 2 ^ behind)) ∙ ap (bits width) (sym (field_bits place width behind n))

-- the 20 bits under the header checksum stand one behind the other
pub covered_bits : (n : ℕ) → bits 20 (n / 2 ^ 17) ≡ header_bits (flag 3 (bits 40 n)) (flag 4 (bits 40 n)) (field 5 11 (bits 40 n)) (field 16 7 (bits 40 n))
covered_bits n =
    let m = n / 2 ^ 17 in
    two_bits 18 m
    ∙ ap₂ ◌∷◌ (ap odd (shr-shr n 17 19) ∙ sym (flag_bits 3 36 n))
    (ap₂ ◌∷◌ (ap odd (shr-shr n 17 18) ∙ sym (flag_bits 4 35 n))
    (bits_split 11 7 m
    ∙ ap₂ ◌++◌ (ap (bits 11) (shr-shr n 17 7) ∙ shifted_field 5 11 24 n) (shifted_field 16 7 17 n)))

-- what stands behind 40 bits is not looked at
pub header_front : (x y : List Bool) → length x ≡ 40 → header_in (x ++ y) ≡ header_in x
unfolding header_in
header_front x y e =
    rw (
      flag-front 0 (omega arith),
      flag-front 1 (omega arith),
      flag-front 2 (omega arith),
      flag-front 3 (omega arith),
      flag-front 4 (omega arith),
      field-front 5 11 (omega arith),
      field-front 16 7 (omega arith),
      field-front 23 11 (omega arith),
      field-front 34 6 (omega arith),
    )
  where
    flag-front : (place : ℕ) → place < length x → flag place (x ++ y) ≡ flag place x
    flag-front place h = get_or-append x y false place h

    field-front : (place width : ℕ) → place + width ≤ length x → field place width (x ++ y) ≡ field place width x
    field-front place width h =
        ap (λ (z : List Bool). number (take width z)) (drop-append-le place x y (omega arith))
        ∙ ap number (take-append-le width (drop place x) y (rw (length-drop place x) (omega arith)))

-- ---- put in

-- a number behind another
pub bits_behind : (j k high low : ℕ) → bits (j + k) (high * 2 ^ k + low % 2 ^ k) ≡ bits j high ++ bits k low
bits_behind j k h l =
    let small : l % 2 ^ k < 2 ^ k = mod-lt l (pow_pos k) in
    bits_split j k (h * 2 ^ k + l % 2 ^ k)
    ∙ ap₂ (λ (x : ℕ) (y : List Bool). bits j x ++ y) (high h k small)
    (sym (bits_mod k (h * 2 ^ k + l % 2 ^ k)) ∙ ap (bits k) (low h k small) ∙ bits_mod k l)

-- a bit behind a number
pub bit_behind : (j high : ℕ) (b : Bool) → bits (suc j) (high * 2 + bit b) ≡ bits j high ++ (b ∷ [])
unfolding bits
bit_behind j h b =
    ap (λ (w : ℕ). bits w (h * 2 + bit b)) (sym (add-one j)) ∙ bits_split j 1 (h * 2 + bit b)
    ∙ ap₂ (λ (x : ℕ) (y : Bool). bits j x ++ (y ∷ [])) (half b) (low-is b)
  where
    half : (b : Bool) → (h * 2 + bit b) / 2 ≡ h
    half false = omega arith
    half true = omega arith

    low-is : (b : Bool) → odd ((h * 2 + bit b) / 1) ≡ b
    low-is false = ne_eqb ((h * 2 + 0) / 1 % 2) 1 (λ e. omega arith)
    low-is true = eq-eqb ((h * 2 + 1) / 1 % 2) 1 (omega arith)

one_bit : (b : Bool) → bits 1 (bit b) ≡ b ∷ []
unfolding bits
one_bit false = refl
one_bit true = refl

-- the five indicators, one behind the other
pub five_bits : (a b c d e : Bool) → bits 5 ((((bit a * 2 + bit b) * 2 + bit c) * 2 + bit d) * 2 + bit e) ≡ a ∷ b ∷ c ∷ d ∷ e ∷ []
five_bits a b c d e =
    let behind : List Bool → Bool → List Bool = λ x y. x ++ (y ∷ []) in
    bit_behind 4 (((bit a * 2 + bit b) * 2 + bit c) * 2 + bit d) e
    ∙ ap (λ (x : List Bool). behind x e)
    (bit_behind 3 ((bit a * 2 + bit b) * 2 + bit c) d
    ∙ ap (λ (x : List Bool). behind x d)
    (bit_behind 2 (bit a * 2 + bit b) c
    ∙ ap (λ (x : List Bool). behind x c) (bit_behind 1 (bit a) b ∙ ap (λ (x : List Bool). behind x b) (one_bit a))))

-- four strings behind a first, however they are grouped
five_strings : (a b c d e : List Bool) → (((a ++ b) ++ c) ++ d) ++ e ≡ a ++ (b ++ (c ++ (d ++ e)))
five_strings a b c d e = simp append_assoc

-- a header's fields, one behind the other
pub packed_bits : (h : Header) (sent : ℕ)
    → bits 5 sent ≡ h.reserved ∷ h.preamble ∷ h.null_frame_bit ∷ h.sync ∷ h.startup ∷ []
    → bits 40 ((((sent * 2048 + h.id.0 % 2048) * 128 + h.words % 128) * 2048 + h.checksum % 2048) * 64 + h.cycle.0 % 64)
    ≡ whole_header h
packed_bits h sent e =
    let to-id = sent * 2048 + h.id.0 % 2048 in
    let to-words = to-id * 128 + h.words % 128 in
    let to-checksum = to-words * 2048 + h.checksum % 2048 in
    bits_behind 34 6 to-checksum h.cycle.0
    ∙ ap (λ (x : List Bool). x ++ bits 6 h.cycle.0)
    (bits_behind 23 11 to-words h.checksum
    ∙ ap (λ (x : List Bool). x ++ bits 11 h.checksum)
    (bits_behind 16 7 to-id h.words
    ∙ ap (λ (x : List Bool). x ++ bits 7 h.words)
    (bits_behind 5 11 sent h.id.0 ∙ ap (λ (x : List Bool). x ++ bits 11 h.id.0) e)))
    ∙ five_strings (h.reserved ∷ h.preamble ∷ h.null_frame_bit ∷ h.sync ∷ h.startup ∷ []) (bits 11 h.id.0) (bits 7 h.words)
    (bits 11 h.checksum) (bits 6 h.cycle.0)

-- ---- put in and taken out again

field_at : (before here after : List Bool) (place width : ℕ) → length before ≡ place → length here ≡ width
    → field place width (before ++ (here ++ after)) ≡ number here
field_at before here after place width p w =
    ap (λ (x : List Bool). number (take width x)) (drop_at before (here ++ after) place p) ∙ ap number (take_at here after width w)

-- of each number the bits that its field has
pub whole_fields : (h : Header)
    → header_in (whole_header h)
    ≡ record {
      reserved = h.reserved;
      preamble = h.preamble;
      null_frame_bit = h.null_frame_bit;
      sync = h.sync;
      startup = h.startup;
      id = record { 0 = h.id.0 % 2 ^ 11 };
      words = h.words % 2 ^ 7;
      checksum = h.checksum % 2 ^ 11;
      cycle = record { 0 = h.cycle.0 % 2 ^ 6 };
    }
unfolding header_in
whole_fields h =
    let five : List Bool = h.reserved ∷ h.preamble ∷ h.null_frame_bit ∷ h.sync ∷ h.startup ∷ [] in
    let id = bits 11 h.id.0 in
    let words = bits 7 h.words in
    let checksum = bits 11 h.checksum in
    let cycle = bits 6 h.cycle.0 in
    let to-words : length (five ++ id) ≡ 16 = length-append five id ∙ ap (λ (k : ℕ). 5 + k) (length-bits 11 h.id.0) in
    let to-checksum : length ((five ++ id) ++ words) ≡ 23 = length-append (five ++ id) words ∙ ap₂ ◌+◌ to-words (length-bits 7 h.words) in
    let to-cycle : length (((five ++ id) ++ words) ++ checksum) ≡ 34 =
    length-append ((five ++ id) ++ words) checksum ∙ ap₂ ◌+◌ to-checksum (length-bits 11 h.checksum) in
    let e1 : field 5 11 (whole_header h) ≡ h.id.0 % 2 ^ 11 =
    field_at five id (words ++ (checksum ++ cycle)) 5 11 refl (length-bits 11 _) ∙ number_bits 11 h.id.0 in
    let e2 : field 16 7 (whole_header h) ≡ h.words % 2 ^ 7 =
    ap (field 16 7) (sym (append_assoc five id (words ++ (checksum ++ cycle))))
    ∙ field_at (five ++ id) words (checksum ++ cycle) 16 7 to-words (length-bits 7 _) ∙ number_bits 7 h.words in
    let e3 : field 23 11 (whole_header h) ≡ h.checksum % 2 ^ 11 =
    ap (field 23 11) (sym (append_assoc five id (words ++ (checksum ++ cycle))) ∙ sym (append_assoc (five ++ id) words (checksum ++ cycle)))
    ∙ field_at ((five ++ id) ++ words) checksum cycle 23 11 to-checksum (length-bits 11 _) ∙ number_bits 11 h.checksum in
    let e4 : field 34 6 (whole_header h) ≡ h.cycle.0 % 2 ^ 6 =
    ap (field 34 6)
    (sym (five_strings five id words checksum cycle) ∙ ap (λ (x : List Bool). (((five ++ id) ++ words) ++ checksum) ++ x) (sym (append-nil cycle)))
    ∙ field_at (((five ++ id) ++ words) ++ checksum) cycle [] 34 6 to-cycle (length-bits 6 _) ∙ number_bits 6 h.cycle.0 in
    rw (e1, e2, e3, e4)

-- the header checksum goes by those bits alone
pub checksum_whole : (h : Header) → header_checksum_of (header_in (whole_header h)) ≡ header_checksum_of h
checksum_whole h =
    ap header_checksum_of (whole_fields h)
    ∙ ap₂ (λ (x y : List Bool). header_division (h.sync ∷ h.startup ∷ (x ++ y))) (bits_mod 11 h.id.0) (bits_mod 7 h.words)

-- a field is below the power that its width gives
pub field_small : (place width : ℕ) (x : List Bool) → field place width x < 2 ^ width
field_small place width x = number_take-lt width (drop place x)
