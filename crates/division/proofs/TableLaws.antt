-- Division several bits at a time: so many turns from a register are a look_up and a shift. With one bit the table has two entries, 0 and
-- the polynomial.
use Prim.Native.Nat.{ℕ, suc, ◌+◌, ◌-◌, ◌*◌, ◌/◌, ◌%◌, ◌^◌}
use mathlib.Core.Path.{◌≡◌, sym, ap, ap₂, ◌∙◌}
use mathlib.Core.Bool.{Bool, false}
use mathlib.Core.List.{List, [], ◌∷◌, ◌++◌, append-nil, append_assoc}
use native.Mathlib.Nat.{add-zero, add_comm, mul-mod_left, div-one}
use native.Mathlib.Numerals.{one-add}
use native.Mathlib.Omega.{arith}
use lib.Bits.{bit_xor, xor_zero_r}
use lib.Pow.{mod-pow-add, shl-shr}
use lib.ListN.{length}
use Rattle.division.specs.Bits.{odd, bits, number}
use Rattle.division.specs.Division.{exor, only_if, step, feed, checksum}
use Rattle.division.specs.Table.{LooksUp}
use Rattle.division.proofs.ExorLaws.{xor_same, exor_twice, only_if_false, zeros, length-zeros, exor_zeros}
use Rattle.division.proofs.BitsLaws.{length-bits, one_width, number_bits, bits_xor, number_zeros}
use Rattle.division.proofs.BytesLaws.{bits_split, number_append}
use Rattle.division.proofs.RegisterLaws.{length-shifted}
use Rattle.division.proofs.Linearity.{checksum_xor}

-- a register is fed its own top bit: it is shifted, and the polynomial stays out
own_bit : (p : List Bool) (b : Bool) (x : List Bool) → length (b ∷ x) ≡ length p → step p (b ∷ x) b ≡ x ++ (false ∷ [])
unfolding step
own_bit p b x e =
    ap (λ (f : Bool). exor (x ++ (false ∷ [])) (only_if f p)) (xor_same b)
    ∙ ap (exor (x ++ (false ∷ []))) (only_if_false p ∙ ap zeros (sym e ∙ sym (length-shifted x)))
    ∙ exor_zeros (x ++ (false ∷ []))

-- and so with any number of its top bits
own_bits : (p t x : List Bool) → length (t ++ x) ≡ length p → feed p (t ++ x) t ≡ x ++ zeros (length t)
unfolding feed zeros
own_bits p [] x e = sym (append-nil x)
own_bits p (b ∷ t) x e =
    ap (λ (r : List Bool). feed p r t) (own_bit p b (t ++ x) e ∙ append_assoc t x (false ∷ []))
    ∙ own_bits p t (x ++ (false ∷ []))
    (ap length (sym (append_assoc t x (false ∷ []))) ∙ length-shifted (t ++ x) ∙ e)
    ∙ append_assoc x (false ∷ []) (zeros (length t))

-- ---- as numbers: `count` bits at a time, into a register of `rest` bits more

-- the bits that leave a register do not count for what is shifted
cut_shift : (count rest s : ℕ) → s % 2 ^ rest * 2 ^ count ≡ s * 2 ^ count % 2 ^ (count + rest)
cut_shift count rest s =
    sym
    (ap (λ (w : ℕ). s * 2 ^ count % 2 ^ w) (add_comm count rest) ∙ mod-pow-add (s * 2 ^ count) rest count
    ∙ ap₂ (λ (x y : ℕ). x % 2 ^ rest * 2 ^ count + y) (shl-shr s count) (mul-mod_left s (2 ^ count))
    ∙ add-zero (s % 2 ^ rest * 2 ^ count))

module _ (count rest poly s : ℕ) where
  own_number : checksum (count + rest) poly s (bits count (s / 2 ^ rest)) ≡ s * 2 ^ count % 2 ^ (count + rest)
  unfolding checksum
  own_number =
      let w : ℕ = count + rest in
      let t : List Bool = bits count (s / 2 ^ rest) in
      let x : List Bool = bits rest s in
      ap (λ (r : List Bool). number (feed (bits w poly) r t)) (bits_split count rest s)
      ∙ ap number (own_bits (bits w poly) t x (ap length (sym (bits_split count rest s)) ∙ one_width w s poly))
      ∙ number_append x (zeros (length t))
      ∙ rw (length-zeros, number_zeros, length-bits, number_bits, add-zero) (cut_shift count rest s)

  look_up : (n : ℕ) → checksum (count + rest) poly s (bits count n)
      ≡ bit_xor (s * 2 ^ count % 2 ^ (count + rest)) (checksum (count + rest) poly 0 (bits count (bit_xor (s / 2 ^ rest) n)))
  look_up n =
      let w : ℕ = count + rest in
      let top : ℕ = s / 2 ^ rest in
      let own : List Bool = bits count top in
      let found : List Bool = bits count (bit_xor top n) in
      let back : exor own found ≡ bits count n =
      ap (exor own) (bits_xor count top n) ∙ exor_twice own (bits count n) (one_width count top n) in
      ap₂ (λ (r : ℕ) (m : List Bool). checksum w poly r m) (sym (xor_zero_r s)) (sym back)
      ∙ checksum_xor w poly s 0 own found (one_width count top (bit_xor top n))
      ∙ ap (λ (x : ℕ). bit_xor x (checksum w poly 0 found)) own_number

one_bit : (n : ℕ) → bits 1 n ≡ odd n ∷ []
unfolding bits
one_bit n = ap (λ (m : ℕ). odd m ∷ []) (div-one n)

-- one bit; the width is suc k
pub look_up_bit : (k poly s n : ℕ) → checksum (suc k) poly s (odd n ∷ [])
    ≡ bit_xor (s * 2 % 2 ^ suc k) (checksum (suc k) poly 0 (odd (bit_xor (s / 2 ^ k) n) ∷ []))
look_up_bit k poly s n = rw (one_bit n, one_bit (bit_xor (s / 2 ^ k) n), one-add k) at (look_up 1 k poly s n)

-- eight
pub looks_up : (width polynomial : ℕ) → LooksUp width polynomial
looks_up w poly h s n =
    let e : 8 + (w - 8) ≡ w = omega arith in
    rw e at (look_up 8 (w - 8) poly s n)
