-- The stream ten bits at a time, and its packing.
use Prim.Native.Nat.{ℕ, zero, suc, ◌+◌, ◌*◌, ◌-◌, ◌/◌, ◌%◌, ◌^◌, ◌<◌, ◌≤◌}
use mathlib.Core.Path.{◌≡◌, refl, sym, ap, ap₂, ◌∙◌}
use mathlib.Core.Bool.{Bool}
use mathlib.Core.List.{List, [], ◌∷◌, ◌++◌, append_assoc, append-nil}
use native.Mathlib.Nat.{div-eq_of_lt, pow-le-pow_right}
use native.Mathlib.Omega.{arith}
use lib.ListN.{length, get_or, take, drop, set, replicate, length-append, length-drop, length-replicate, replicate-append-replicate}
use lib.Seq.{drop-cons, append_snoc, take-suc-set, take_all}
use Rattle.division.specs.Bits.{odd, bits, bytes_of, AreBytes}
use Rattle.division.proofs.BitsLaws.{length-bits}
use Rattle.division.proofs.BytesLaws.{bits_mod, bits_split, bits_low, length-bytes_of, bytes_of_front}
use Rattle.lent_bytes.proofs.NumberLaws.{first_byte}
use Rattle.wire.specs.declared.packing.Pending.{Pending}
use Rattle.wire.specs.Stream.{low, high, coded, stream}
use Rattle.wire.specs.Packing.{packed_size, spare_bits, packed}
use Rattle.wire.specs.Pending.{tens, ten_bits, to_come}

-- ---- ten bits at a time

pub length-tens : (bytes : List ℕ) → length (tens bytes) ≡ suc (length bytes)
unfolding tens
length-tens [] = refl
length-tens (byte ∷ bytes) = ap suc (length-tens bytes)

pub ten_of_byte : (bytes : List ℕ) (i other : ℕ) → i < length bytes → get_or (tens bytes) i 0 ≡ 512 + get_or bytes i other
unfolding tens
ten_of_byte [] i other h = absurd (omega arith)
ten_of_byte (byte ∷ bytes) zero other h = refl
ten_of_byte (byte ∷ bytes) (suc i) other h = ten_of_byte bytes i other (omega arith)

pub ten_of_end : (bytes : List ℕ) (i : ℕ) → i ≡ length bytes → get_or (tens bytes) i 0 ≡ 256
unfolding tens
ten_of_end [] zero h = refl
ten_of_end [] (suc i) h = absurd (omega arith)
ten_of_end (byte ∷ bytes) zero h = absurd (omega arith)
ten_of_end (byte ∷ bytes) (suc i) h = ten_of_end bytes i (omega arith)

length-ten_bits : (l : List ℕ) → length (ten_bits l) ≡ 10 * length l
unfolding ten_bits
length-ten_bits [] = refl
length-ten_bits (n ∷ l) = length-append (bits 10 n) (ten_bits l) ∙ rw (length-bits 10 n, length-ten_bits l) (omega arith)

pub length-to_come : (p : Pending) (bytes : List ℕ) → length (to_come p bytes) ≡ p.count + 10 * (suc (length bytes) - p.taken)
length-to_come p bytes =
    length-append (bits p.count p.held) (ten_bits (drop p.taken (tens bytes)))
    ∙ ap₂ ◌+◌ (length-bits p.count p.held)
    (length-ten_bits (drop p.taken (tens bytes))
    ∙ ap (λ (k : ℕ). 10 * k) (length-drop p.taken (tens bytes) ∙ ap (λ (k : ℕ). k - p.taken) (length-tens bytes)))

-- ten bits more are held
module _ (held count taken next : ℕ) (bytes : List ℕ) where
  pub same_to_come : count < 8 → taken ≤ length bytes → next ≡ get_or (tens bytes) taken 0 → next < 1024
      → bits (count + 10) (held % 256 * 1024 + next) ++ ten_bits (drop (taken + 1) (tens bytes))
      ≡ bits count held ++ ten_bits (drop taken (tens bytes))
  unfolding ten_bits
  same_to_come few there is small =
      let l = tens bytes in
      let n = held % 256 * 1024 + next in
      let rest = ten_bits (drop (taken + 1) l) in
      let after : suc taken ≡ taken + 1 = omega arith in
      let at : drop taken l ≡ get_or l taken 0 ∷ drop (taken + 1) l =
      drop-cons l taken 0 (omega (arith, length-tens bytes)) ∙ ap (λ (k : ℕ). get_or l taken 0 ∷ drop k l) after in
      let above : n / 1024 ≡ held % 256 = omega arith in
      let width : 8 ≡ 8 - count + count = omega arith in
      let high_part : bits count (n / 1024) ≡ bits count held =
      ap (bits count) above ∙ ap (λ (k : ℕ). bits count (held % 2 ^ k)) width ∙ bits_low (8 - count) count held in
      let low_part : bits 10 n ≡ bits 10 (get_or l taken 0) = sym (bits_mod 10 n) ∙ ap (bits 10) (omega arith) in
      ap (λ (x : List Bool). x ++ rest) (bits_split count 10 n ∙ ap₂ ◌++◌ high_part low_part)
      ∙ append_assoc (bits count held) (bits 10 (get_or l taken 0)) rest
      ∙ ap (λ (x : List ℕ). bits count held ++ ten_bits x) (sym at)

-- a byte is written
pub byte_written : (output : List ℕ) (i rest held : ℕ) (behind : List Bool) → i < length output
    → take (suc i) (set output i (held / 2 ^ rest % 256)) ++ bytes_of (length output - suc i) (bits rest held ++ behind)
    ≡ take i output ++ bytes_of (length output - i) (bits (8 + rest) held ++ behind)
byte_written output i rest held behind h =
    let k = length output - suc i in
    let byte = held / 2 ^ rest % 256 in
    ap (λ (x : List ℕ). x ++ bytes_of k (bits rest held ++ behind)) (take-suc-set output i byte h)
    ∙ append_snoc (take i output) byte (bytes_of k (bits rest held ++ behind))
    ∙ ap (λ (x : List ℕ). take i output ++ x) (sym (first_byte k rest held behind))
    ∙ ap (λ (m : ℕ). take i output ++ bytes_of m (bits (8 + rest) held ++ behind)) (omega arith)

-- none is left to be written
pub all_written : (output : List ℕ) (i : ℕ) (l : List Bool) → length output ≤ i → take i output ++ bytes_of (length output - i) l ≡ output
unfolding bytes_of
all_written output i l h =
    let none : length output - i ≡ 0 = omega arith in
    ap₂ (λ (x : List ℕ) (m : ℕ). x ++ bytes_of m l) (take_all i output h) none ∙ append-nil output

-- ---- these are the bits of the stream

-- the start bits and the frame start bit
start_bits : (start : ℕ) → bits (suc start) 1 ≡ replicate start low ++ (high ∷ [])
unfolding bits
start_bits zero = refl
start_bits (suc start) =
    ap₂ ◌∷◌ (ap odd (small (2 ^ suc start) (pow-le-pow_right {n = 2} (omega arith) {i = 1} {j = suc start} (omega arith)))) (start_bits start)
  where
    small : (n : ℕ) → 2 ≤ n → 1 / n ≡ 0
    small n h = div-eq_of_lt (omega arith)

byte_bits : (byte : ℕ) → byte < 256 → bits 10 (512 + byte) ≡ high ∷ low ∷ bits 8 byte
unfolding bits
byte_bits byte h =
    let two : (512 + byte) / 256 ≡ 2 = omega arith in
    let rest : (512 + byte) % 256 ≡ byte = omega arith in
    bits_split 2 8 (512 + byte)
    ∙ ap₂ (λ (x : ℕ) (y : List Bool). bits 2 x ++ y) two (sym (bits_mod 8 (512 + byte)) ∙ ap (bits 8) rest)

tens_coded : (bytes : List ℕ) → AreBytes bytes → ten_bits (tens bytes) ≡ coded bytes ++ (low ∷ high ∷ replicate 8 low)
unfolding tens ten_bits coded bits
tens_coded [] h = refl
tens_coded (byte ∷ bytes) h =
    ap₂ ◌++◌ (byte_bits byte (h 0)) (tens_coded bytes (λ i. h (suc i)))
    ∙ ap (λ (x : List Bool). high ∷ low ∷ x) (sym (append_assoc (bits 8 byte) (coded bytes) (low ∷ high ∷ replicate 8 low)))

length-coded : (bytes : List ℕ) → length (coded bytes) ≡ 10 * length bytes
unfolding coded
length-coded [] = refl
length-coded (byte ∷ bytes) =
    let behind = length-append (bits 8 byte) (coded bytes) in
    omega (arith, behind, length-bits 8 byte, length-coded bytes)

pub length-stream : (start : ℕ) (bytes : List ℕ) → length (stream start bytes) ≡ start + 10 * length bytes + 3
unfolding stream
length-stream start bytes =
    let ending = low ∷ high ∷ [] in
    let behind = length-append (coded bytes) ending in
    length-append (replicate start low) (high ∷ (coded bytes ++ ending)) ∙ omega (arith, length-replicate start low, behind, length-coded bytes)

-- the start is held, and nothing has been taken
pub at_start : (start : ℕ) (bytes : List ℕ) → AreBytes bytes
    → bits (start + 1) 1 ++ ten_bits (drop 0 (tens bytes)) ≡ stream start bytes ++ replicate 8 low
unfolding stream
at_start start bytes h =
    let none = replicate start low in
    let ending = low ∷ high ∷ [] in
    let more = replicate 8 low in
    let width : start + 1 ≡ suc start = omega arith in
    ap₂ ◌++◌ (ap (λ (w : ℕ). bits w 1) width ∙ start_bits start) (tens_coded bytes h)
    ∙ append_assoc none (high ∷ []) (coded bytes ++ (ending ++ more))
    ∙ ap (λ (x : List Bool). none ++ (high ∷ x)) (sym (append_assoc (coded bytes) ending more))
    ∙ sym (append_assoc none (high ∷ (coded bytes ++ ending)) more)

-- eight low bits behind a stream do for the spare ones
pub packed_by_eight : (l : List Bool) → bytes_of (packed_size (length l)) (l ++ replicate 8 low) ≡ packed l
unfolding packed
packed_by_eight l =
    let n = spare_bits (length l) in
    let eight : 8 ≡ n + (8 - n) = omega arith in
    let parts : l ++ replicate 8 low ≡ (l ++ replicate n low) ++ replicate (8 - n) low =
    ap (λ (x : List Bool). l ++ x) (ap (λ (k : ℕ). replicate k low) eight ∙ sym (replicate-append-replicate n (8 - n) low))
    ∙ sym (append_assoc l (replicate n low) (replicate (8 - n) low)) in
    ap (bytes_of (packed_size (length l))) parts
    ∙ bytes_of_front (packed_size (length l)) (l ++ replicate n low) (replicate (8 - n) low)
    (rw (length-append, length-replicate) (omega arith))

pub length-packed : (l : List Bool) → length (packed l) ≡ packed_size (length l)
unfolding packed
length-packed l = length-bytes_of (packed_size (length l)) _
