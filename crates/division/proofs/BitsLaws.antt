-- Laws of `bits` and `number`: each undoes the other, and exclusive or of strings is exclusive or of numbers.
use Prim.Native.Nat.{ℕ, zero, suc, ◌+◌, ◌*◌, ◌/◌, ◌%◌, ◌^◌, ◌<◌}
use mathlib.Core.Path.{◌≡◌, refl, sym, ap, ap₂, ◌∙◌}
use mathlib.Core.Bool.{Bool, true, false}
use mathlib.Core.List.{List, [], ◌∷◌}
use native.Mathlib.Nat.{mod-eq_of_lt, mod-one, pow-suc}
use native.Mathlib.Numerals.{one-add}
use native.Mathlib.Omega.{arith}
use lib.Dec.{eqb}
use lib.Pow.{mod-pow-add}
use lib.Bits.{bit_xor, xor_block, xor_mod}
use lib.ListN.{length}
use Rattle.division.specs.Bits.{odd, bit, bits, number}
use Rattle.division.specs.Division.{◌⊕◌, exor}
use Rattle.division.proofs.ExorLaws.{length-exor, zeros}

pub length-bits : (w n : ℕ) → length (bits w n) ≡ w
unfolding bits
length-bits zero n = refl
length-bits (suc w) n = ap suc (length-bits w n)

-- one width, one length
pub one_width : (w a b : ℕ) → length (bits w a) ≡ length (bits w b)
one_width w a b = length-bits w a ∙ sym (length-bits w b)

digit : (k : ℕ) → k < 2 → bit (eqb k 1) ≡ k
digit zero h = refl
digit (suc zero) h = refl
digit (suc (suc k)) h = absurd (omega arith)

bit_odd : (n : ℕ) → bit (odd n) ≡ n % 2
bit_odd n = digit (n % 2) (omega arith)

pub number_bits : (w n : ℕ) → number (bits w n) ≡ n % 2 ^ w
unfolding bits number
number_bits zero n = sym (mod-one n)
number_bits (suc w) n =
    ap₂ (λ (x y : ℕ). x * 2 ^ y + number (bits w n)) (bit_odd (n / 2 ^ w)) (length-bits w n)
    ∙ ap (λ (x : ℕ). n / 2 ^ w % 2 * 2 ^ w + x) (number_bits w n)
    ∙ sym (mod-pow-add n 1 w)
    ∙ ap (λ (x : ℕ). n % 2 ^ x) (one-add w)

pub number_lt : (l : List Bool) → number l < 2 ^ length l
unfolding number
number_lt [] = omega arith
number_lt (false ∷ l) = let h : number l < 2 ^ length l = number_lt l in rw pow-suc (omega arith)
number_lt (true ∷ l) = let h : number l < 2 ^ length l = number_lt l in rw pow-suc (omega arith)

-- a high digit and a number below it are told apart
digits : (a b : Bool) (m x y : ℕ) → x < m → y < m → bit a * m + x ≡ bit b * m + y → (a ≡ b) × (x ≡ y)
digits false false m x y hx hy q = (refl, omega arith)
digits true true m x y hx hy q = (refl, omega arith)
digits false true m x y hx hy q = absurd (omega arith)
digits true false m x y hx hy q = absurd (omega arith)

-- two strings of one length and one number are one string
pub number_inj : (x y : List Bool) → length x ≡ length y → number x ≡ number y → x ≡ y
unfolding number
number_inj [] [] e q = refl
number_inj [] (b ∷ y) e q = absurd (omega arith)
number_inj (a ∷ x) [] e q = absurd (omega arith)
number_inj (a ∷ x) (b ∷ y) e q =
    let e' : length x ≡ length y = omega arith in
    let h : (a ≡ b) × (number x ≡ number y) =
    digits a b (2 ^ length x) (number x) (number y) (number_lt x) (rw e' (number_lt y)) (q ∙ rw e') in
    ap₂ ◌∷◌ h.0 (number_inj x y e' h.1)

pub bits_number : (w : ℕ) (l : List Bool) → length l ≡ w → bits w (number l) ≡ l
bits_number w l e =
    number_inj (bits w (number l)) l (length-bits w (number l) ∙ sym e)
    (number_bits w (number l) ∙ mod-eq_of_lt (rw (← e) (number_lt l)))

pub bits_inj : (w m n : ℕ) → bits w m ≡ bits w n → m % 2 ^ w ≡ n % 2 ^ w
bits_inj w m n e = sym (number_bits w m) ∙ ap number e ∙ number_bits w n

bit-xor : (a b : Bool) → bit (a ⊕ b) ≡ bit_xor (bit a) (bit b)
bit-xor false false = refl
bit-xor false true = refl
bit-xor true false = refl
bit-xor true true = refl

pub number_exor : (x y : List Bool) → length x ≡ length y → number (exor x y) ≡ bit_xor (number x) (number y)
unfolding number exor
number_exor [] [] e = refl
number_exor [] (b ∷ y) e = absurd (omega arith)
number_exor (a ∷ x) [] e = absurd (omega arith)
number_exor (a ∷ x) (b ∷ y) e =
    let e' : length x ≡ length y = omega arith in
    let l : length (exor x y) ≡ length x = length-exor x y e' in
    ap₂ (λ (u v : ℕ). u * 2 ^ length (exor x y) + v) (bit-xor a b) (number_exor x y e')
    ∙ ap (λ (n : ℕ). bit_xor (bit a) (bit b) * 2 ^ n + bit_xor (number x) (number y)) l
    ∙ sym (xor_block (length x) (bit a) (bit b) (number x) (number y) (number_lt x) (rw e' (number_lt y)))
    ∙ ap (λ (n : ℕ). bit_xor (bit a * 2 ^ length x + number x) (bit b * 2 ^ n + number y)) e'

pub bits_xor : (w a b : ℕ) → bits w (bit_xor a b) ≡ exor (bits w a) (bits w b)
bits_xor w a b =
    let l : length (bits w a) ≡ length (bits w b) = one_width w a b in
    number_inj (bits w (bit_xor a b)) (exor (bits w a) (bits w b))
    (length-bits w (bit_xor a b) ∙ sym (length-exor (bits w a) (bits w b) l ∙ length-bits w a))
    (number_bits w (bit_xor a b) ∙ xor_mod a b w
    ∙ sym (number_exor (bits w a) (bits w b) l ∙ ap₂ bit_xor (number_bits w a) (number_bits w b)))

pub number_zeros : (n : ℕ) → number (zeros n) ≡ 0
unfolding number zeros
number_zeros zero = refl
number_zeros (suc n) = omega (arith, number_zeros n)
