-- Numbers in bytes: one byte more is read, and one byte more is written.
use Prim.Native.Nat.{ℕ, zero, suc, ◌+◌, ◌*◌, ◌-◌, ◌/◌, ◌%◌, ◌^◌, ◌<◌, ◌≤◌}
use mathlib.Core.Path.{◌≡◌, refl, sym, ap, ap₂, ◌∙◌}
use mathlib.Core.Bool.{Bool}
use mathlib.Core.List.{List, [], ◌∷◌, ◌++◌, append_assoc, append-nil}
use native.Mathlib.Nat.{mod-eq_of_lt, pow-le-pow_right, lt_of_lt_of_le, pow-suc, div-one, zero-add, suc-add}
use native.Mathlib.Omega.{arith}
use borrow.Author.Tests.{le-leb}
use lib.Pow.{pow-add}
use lib.ListN.{length, get_or, take, drop, length-take}
use lib.Seq.{take_at, drop_at, take_all}
use Rattle.std.specs.Int.{w64, byte_at, bytes_high_first, to_be_bytes}
use Rattle.std.proofs.lemmas.List.{take_more}
use Rattle.division.specs.Bits.{bits, number, bytes_bits, bytes_of}
use Rattle.division.proofs.BitsLaws.{length-bits, number_bits, number_lt}
use Rattle.division.proofs.BytesLaws.{number_append, length-bytes, bytes_append, length-bytes_of, bits_split}
use Rattle.lent_bytes.specs.Over.{over}
use Rattle.lent_bytes.specs.Putting.{most_bytes, number_in, number_put}

-- ---- read

-- a byte behind others
number_behind : (l : List ℕ) (byte : ℕ) → byte < 256 → number (bytes_bits (l ++ (byte ∷ []))) ≡ number (bytes_bits l) * 256 + byte
unfolding bytes_bits
number_behind l byte h =
    ap number (bytes_append l (byte ∷ []) ∙ ap (λ (x : List Bool). bytes_bits l ++ x) (append-nil (bits 8 byte)))
    ∙ number_append (bytes_bits l) (bits 8 byte)
    ∙ ap₂ (λ (k x : ℕ). number (bytes_bits l) * 2 ^ k + x) (length-bits 8 byte) (number_bits 8 byte ∙ mod-eq_of_lt h)

pub none_read : 0 ≡ number (bytes_bits [])
unfolding number bytes_bits
none_read = refl

pub turn_number : (l : List ℕ) (i : ℕ) → i < length l → get_or l i 0 < 256
    → number (bytes_bits (take i l)) * 256 + get_or l i 0 ≡ number (bytes_bits (take (i + 1) l))
turn_number l i h b = rw (take_more l i 0 h) (sym (number_behind (take i l) (get_or l i 0) b))

-- there is room for one byte more
pub room_number : (l : List ℕ) (i : ℕ) → i < most_bytes → number (bytes_bits (take i l)) < 2 ^ 56
room_number l i h =
    let few : length (bytes_bits (take i l)) ≤ 56 = omega (arith, length-bytes (take i l), length-take i l) in
    lt_of_lt_of_le (number_lt (bytes_bits (take i l))) (pow-le-pow_right {n = 2} (omega arith) few)

-- up to eight bytes make their number whole
pub number_in_all : (bytes : List ℕ) → length bytes ≤ most_bytes → number_in bytes ≡ number (bytes_bits bytes)
number_in_all bytes h = ap (λ (l : List ℕ). number (bytes_bits l)) (take_all most_bytes bytes h)

-- ---- written

-- the first of so many bytes, and the rest
pub first_byte : (k j n : ℕ) (rest : List Bool) → bytes_of (suc k) (bits (8 + j) n ++ rest) ≡ n / 2 ^ j % 256 ∷ bytes_of k (bits j n ++ rest)
unfolding bytes_of
first_byte k j n rest =
    let front = bits 8 (n / 2 ^ j) in
    let behind = bits j n ++ rest in
    let e : bits (8 + j) n ++ rest ≡ front ++ behind = ap (λ (x : List Bool). x ++ rest) (bits_split 8 j n) ∙ append_assoc front (bits j n) rest in
    ap (bytes_of (suc k)) e
    ∙ ap₂ (λ (x y : List Bool). number x ∷ bytes_of k y) (take_at front behind 8 (length-bits 8 _)) (drop_at front behind 8 (length-bits 8 _))
    ∙ ap (λ (byte : ℕ). byte ∷ bytes_of k behind) (number_bits 8 (n / 2 ^ j))

bytes_of_suc : (k n : ℕ) → bytes_of (suc k) (bits (8 * suc k) n) ≡ n / 2 ^ (8 * k) % 256 ∷ bytes_of k (bits (8 * k) n)
bytes_of_suc k n =
    let width : 8 * suc k ≡ 8 + 8 * k = omega arith in
    ap (bytes_of (suc k)) (ap (λ (w : ℕ). bits w n) width ∙ sym (append-nil (bits (8 + 8 * k) n)))
    ∙ first_byte k (8 * k) n []
    ∙ ap (λ (x : List Bool). n / 2 ^ (8 * k) % 256 ∷ bytes_of k x) (append-nil (bits (8 * k) n))

-- the bytes of a number, as the library gives them
power : (i : ℕ) → 256 ^ i ≡ 2 ^ (8 * i)
power zero = refl
power (suc i) =
    let width : 8 * suc i ≡ 8 * i + 8 = omega arith in
    pow-suc 256 i ∙ ap (λ (k : ℕ). k * 256) (power i) ∙ sym (ap (λ (w : ℕ). 2 ^ w) width ∙ pow-add 2 (8 * i) 8)

byte_is : (i n : ℕ) → byte_at i n ≡ n / 2 ^ (8 * i) % 256
byte_is zero n = ap (λ (k : ℕ). k % 256) (sym (div-one n))
byte_is (suc i) n = ap (λ (k : ℕ). n / k % 256) (power (suc i))

high_bytes : (k n : ℕ) → bytes_high_first k n ≡ bytes_of k (bits (8 * k) n)
unfolding bytes_of
high_bytes zero n = refl
high_bytes (suc k) n = ap₂ ◌∷◌ (byte_is k n) (high_bytes k n) ∙ sym (bytes_of_suc k n)

last_bytes : (m k n : ℕ) → drop m (bytes_high_first (m + k) n) ≡ bytes_high_first k n
last_bytes zero k n = ap (λ (w : ℕ). bytes_high_first w n) (zero-add k)
last_bytes (suc m) k n = ap (λ (w : ℕ). drop (suc m) (bytes_high_first w n)) (suc-add m k) ∙ last_bytes m k n

low_bytes : (n count : ℕ) → count ≤ most_bytes
    → take (most_bytes - (most_bytes - count)) (drop (most_bytes - count) (to_be_bytes w64 n)) ≡ bytes_of count (bits (8 * count) n)
low_bytes n count few =
    let all : most_bytes ≡ most_bytes - count + count = omega arith in
    let bytes : List ℕ = bytes_of count (bits (8 * count) n) in
    ap (take (most_bytes - (most_bytes - count)))
    (ap (λ (w : ℕ). drop (most_bytes - count) (bytes_high_first w n)) all ∙ last_bytes (most_bytes - count) count n ∙ high_bytes count n)
    ∙ take_all (most_bytes - (most_bytes - count)) bytes (omega (arith, length-bytes_of count (bits (8 * count) n)))

-- where there is room
pub number_put_lem : (n count : ℕ) (output : List ℕ) → count ≤ most_bytes → count ≤ length output
    → number_put n count output ≡ over (bytes_of count (bits (8 * count) n)) output
number_put_lem n count output few room = rw (le-leb count most_bytes few, le-leb count (length output) room)

pub put_lem : (n count : ℕ) (output part : List ℕ) → count ≤ most_bytes → count ≤ length output
    → part ≡ take (most_bytes - (most_bytes - count)) (drop (most_bytes - count) (to_be_bytes w64 n))
    → part ++ drop count output ≡ number_put n count output
unfolding over
put_lem n count output part few room laid =
    ap₂ (λ (x : List ℕ) (k : ℕ). x ++ drop k output) (laid ∙ low_bytes n count few) (sym (length-bytes_of count (bits (8 * count) n)))
    ∙ sym (number_put_lem n count output few room)
