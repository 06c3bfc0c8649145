-- Laws of bits in parts: of a number, of strings one after the other, of bytes.
use Prim.Native.Nat.{ℕ, zero, suc, ◌+◌, ◌*◌, ◌/◌, ◌%◌, ◌^◌, ◌<◌, ◌≤◌}
use mathlib.Core.Path.{◌≡◌, refl, sym, ap, ap₂, ◌∙◌}
use mathlib.Core.Bool.{Bool}
use mathlib.Core.List.{List, [], ◌∷◌, ◌++◌, append_assoc}
use native.Mathlib.Nat.{zero-add, suc-add, add_comm, add-mul, mul_assoc, lt_of_lt_of_le, pow-le-pow_right}
use native.Mathlib.Omega.{arith}
use lib.Pow.{shr-shr, pow-add}
use lib.ListN.{length, take, drop, length-append, length-take, length-drop, take-append-drop}
use lib.Seq.{length-take-le, take_at, drop_at, take-append-le, drop-append-le}
use Rattle.division.specs.Bits.{odd, bit, bits, number, bytes_bits, bytes_of, AreBytes}
use Rattle.division.proofs.BitsLaws.{length-bits, one_width, number_bits, number_lt, bits_number, bits_inj}

-- ---- numbers

-- of a number only the low bits count
pub bits_mod : (w n : ℕ) → bits w (n % 2 ^ w) ≡ bits w n
bits_mod w n = rw (← number_bits w n) (bits_number w (bits w n) (length-bits w n))

-- the bits of a number, in two parts
pub bits_split : (j k n : ℕ) → bits (j + k) n ≡ bits j (n / 2 ^ k) ++ bits k n
unfolding bits
bits_split zero k n = ap (λ (w : ℕ). bits w n) (zero-add k)
bits_split (suc j) k n =
    ap (λ (w : ℕ). bits w n) (suc-add j k)
    ∙ ap₂ ◌∷◌ (ap odd (ap (λ (w : ℕ). n / 2 ^ w) (add_comm j k) ∙ sym (shr-shr n k j))) (bits_split j k n)

-- the number of two strings, one after the other
pub number_append : (x y : List Bool) → number (x ++ y) ≡ number x * 2 ^ length y + number y
unfolding number
number_append [] y = omega arith
number_append (b ∷ x) y =
    ap₂ (λ (p n : ℕ). bit b * p + n) (ap (λ (k : ℕ). 2 ^ k) (length-append x y) ∙ pow-add 2 (length x) (length y)) (number_append x y)
    ∙ rw (add-mul, mul_assoc) (omega arith)

-- the number in so many bits is below their power
pub number_take-lt : (w : ℕ) (x : List Bool) → number (take w x) < 2 ^ w
number_take-lt w x =
    let short : length (take w x) ≤ w = rw (length-take w x) (omega arith) in
    lt_of_lt_of_le (number_lt (take w x)) (pow-le-pow_right {n = 2} (omega arith) short)

-- two strings of one length, and what stands behind each, are told apart
pub append_apart : {A : Type 0} (s t u v : List A) → length s ≡ length u → s ++ t ≡ u ++ v → (s ≡ u) × (t ≡ v)
append_apart s t u v n e = (
  sym (take_at s t (length s) refl) ∙ ap (take (length s)) e ∙ take_at u v (length s) (sym n),
  sym (drop_at s t (length s) refl) ∙ ap (drop (length s)) e ∙ drop_at u v (length s) (sym n),
)

-- of a number only the low bits count, also where more of them are kept
pub bits_low : (j w n : ℕ) → bits w (n % 2 ^ (j + w)) ≡ bits w n
bits_low j w n =
    let k = n % 2 ^ (j + w) in
    (append_apart (bits j (k / 2 ^ w)) (bits w k) (bits j (n / 2 ^ w)) (bits w n) (one_width j (k / 2 ^ w) (n / 2 ^ w))
    (sym (bits_split j w k) ∙ bits_mod (j + w) n ∙ bits_split j w n)).1

-- ---- bytes

pub length-bytes : (l : List ℕ) → length (bytes_bits l) ≡ 8 * length l
unfolding bytes_bits
length-bytes [] = refl
length-bytes (byte ∷ l) = length-append (bits 8 byte) (bytes_bits l) ∙ rw (length-bits 8 byte, length-bytes l) (omega arith)

pub bytes_append : (l m : List ℕ) → bytes_bits (l ++ m) ≡ bytes_bits l ++ bytes_bits m
unfolding bytes_bits
bytes_append [] m = refl
bytes_append (byte ∷ l) m =
    ap (λ (x : List Bool). bits 8 byte ++ x) (bytes_append l m) ∙ sym (append_assoc (bits 8 byte) (bytes_bits l) (bytes_bits m))

-- ---- lists of bytes

pub are_bytes_nil : AreBytes []
are_bytes_nil i = omega arith

head_byte : (byte : ℕ) (l : List ℕ) → AreBytes (byte ∷ l) → byte < 256
head_byte byte l h = h 0

tail_bytes : (byte : ℕ) (l : List ℕ) → AreBytes (byte ∷ l) → AreBytes l
tail_bytes byte l h i = h (suc i)

pub are_bytes_cons : (byte : ℕ) (l : List ℕ) → byte < 256 → AreBytes l → AreBytes (byte ∷ l)
are_bytes_cons byte l b h zero = b
are_bytes_cons byte l b h (suc i) = h i

pub are_bytes_append : (l m : List ℕ) → AreBytes l → AreBytes m → AreBytes (l ++ m)
are_bytes_append [] m hl hm = hm
are_bytes_append (byte ∷ l) m hl hm =
    are_bytes_cons byte (l ++ m) (head_byte byte l hl) (are_bytes_append l m (tail_bytes byte l hl) hm)

pub are_bytes_take : (n : ℕ) (l : List ℕ) → AreBytes l → AreBytes (take n l)
are_bytes_take zero l h = are_bytes_nil
are_bytes_take (suc n) [] h = are_bytes_nil
are_bytes_take (suc n) (byte ∷ l) h =
    are_bytes_cons byte (take n l) (head_byte byte l h) (are_bytes_take n l (tail_bytes byte l h))

pub are_bytes_drop : (n : ℕ) (l : List ℕ) → AreBytes l → AreBytes (drop n l)
are_bytes_drop zero l h = h
are_bytes_drop (suc n) [] h = are_bytes_nil
are_bytes_drop (suc n) (byte ∷ l) h = are_bytes_drop n l (tail_bytes byte l h)

-- two lists of bytes of one string of bits are one list
pub bytes_inj : (l m : List ℕ) → AreBytes l → AreBytes m → bytes_bits l ≡ bytes_bits m → l ≡ m
unfolding bytes_bits
bytes_inj l m hl hm e = same l m hl hm (omega (arith, length-bytes l, length-bytes m, ap length e)) e
  where
    same : (l m : List ℕ) → AreBytes l → AreBytes m → length l ≡ length m → bytes_bits l ≡ bytes_bits m → l ≡ m
    same [] [] hl hm n e = refl
    same [] (b ∷ m) hl hm n e = absurd (omega arith)
    same (a ∷ l) [] hl hm n e = absurd (omega arith)
    same (a ∷ l) (b ∷ m) hl hm n e =
        let p : (bits 8 a ≡ bits 8 b) × (bytes_bits l ≡ bytes_bits m) = append_apart (bits 8 a) (bytes_bits l) (bits 8 b) (bytes_bits m) (one_width 8 a b) e in
        let h : a % 2 ^ 8 ≡ b % 2 ^ 8 = bits_inj 8 a b p.0 in
        ap₂ ◌∷◌ (omega (arith, head_byte a l hl, head_byte b m hm))
        (same l m (tail_bytes a l hl) (tail_bytes b m hm) (omega arith) p.1)

-- ---- bytes of bits

pub length-bytes_of : (n : ℕ) (x : List Bool) → length (bytes_of n x) ≡ n
unfolding bytes_of
length-bytes_of zero x = refl
length-bytes_of (suc n) x = ap suc (length-bytes_of n (drop 8 x))

pub are_bytes_of : (n : ℕ) (x : List Bool) → AreBytes (bytes_of n x)
unfolding bytes_of
are_bytes_of zero x = are_bytes_nil
are_bytes_of (suc n) x =
    are_bytes_cons (number (take 8 x)) (bytes_of n (drop 8 x)) (number_take-lt 8 x) (are_bytes_of n (drop 8 x))

pub bits_bytes_of : (n : ℕ) (x : List Bool) → length x ≡ 8 * n → bytes_bits (bytes_of n x) ≡ x
unfolding bytes_of bytes_bits
bits_bytes_of zero [] e = refl
bits_bytes_of zero (b ∷ x) e = absurd (omega arith)
bits_bytes_of (suc n) x e =
    ap₂ ◌++◌ (bits_number 8 (take 8 x) (length-take-le 8 x (omega arith)))
    (bits_bytes_of n (drop 8 x) (length-drop 8 x ∙ omega arith))
    ∙ take-append-drop 8 x

-- of bits only the first so many count
pub bytes_of_front : (n : ℕ) (x y : List Bool) → 8 * n ≤ length x → bytes_of n (x ++ y) ≡ bytes_of n x
unfolding bytes_of
bytes_of_front zero x y h = refl
bytes_of_front (suc n) x y h =
    ap₂ (λ (a b : List Bool). number a ∷ bytes_of n b) (take-append-le 8 x y (omega arith)) (drop-append-le 8 x y (omega arith))
    ∙ ap (λ (l : List ℕ). number (take 8 x) ∷ l) (bytes_of_front n (drop 8 x) y (omega (arith, length-drop 8 x)))
