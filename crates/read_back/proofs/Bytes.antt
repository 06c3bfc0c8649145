-- A byte from its eight bits, and one byte more in the memory.
use Prim.Native.Nat.{ℕ, suc, ◌+◌, ◌*◌, ◌/◌, ◌^◌, ◌<◌}
use mathlib.Core.Path.{◌≡◌, sym, ap, ◌∙◌}
use mathlib.Core.Bool.{Bool}
use mathlib.Core.List.{List, [], ◌∷◌, ◌++◌}
use native.Mathlib.Nat.{mod-eq_of_lt}
use native.Mathlib.Omega.{arith}
use lib.ListN.{length, get_or, drop, set, length-append}
use lib.Seq.{append_snoc, set-append_seam, drop-cons}
use Rattle.division.specs.Bits.{odd, bit, bits, number}
use Rattle.division.proofs.BitsLaws.{number_bits}
use Rattle.lent_bytes.specs.Over.{over}

abbrev value8 : Bool → Bool → Bool → Bool → Bool → Bool → Bool → Bool → ℕ
value8 a b c d e f g h =
    (((((((0 * 2 + bit a) * 2 + bit b) * 2 + bit c) * 2 + bit d) * 2 + bit e) * 2 + bit f) * 2 + bit g) * 2 + bit h

-- What the reader gathers from the bits of x.
abbrev pub value_of : ℕ → ℕ
value_of x =
    value8 (odd (x / 2 ^ 7)) (odd (x / 2 ^ 6)) (odd (x / 2 ^ 5)) (odd (x / 2 ^ 4)) (odd (x / 2 ^ 3)) (odd (x / 2 ^ 2)) (odd (x / 2 ^ 1)) (odd (x / 2 ^ 0))

value_number : (a b c d e f g h : Bool) → value8 a b c d e f g h ≡ number (a ∷ b ∷ c ∷ d ∷ e ∷ f ∷ g ∷ h ∷ [])
unfolding number
value_number a b c d e f g h = omega arith

pub value_of_lem : (x : ℕ) → x < 256 → value_of x ≡ x
unfolding bits
value_of_lem x h =
    value_number (odd (x / 2 ^ 7)) (odd (x / 2 ^ 6)) (odd (x / 2 ^ 5)) (odd (x / 2 ^ 4)) (odd (x / 2 ^ 3)) (odd (x / 2 ^ 2)) (odd (x / 2 ^ 1)) (odd (x / 2 ^ 0))
    ∙ number_bits 8 x ∙ mod-eq_of_lt h

-- a byte behind those that are laid already
pub over_one : (done m : List ℕ) (x : ℕ) → length done < length m → set (over done m) (length done) x ≡ over (done ++ (x ∷ [])) m
unfolding over
over_one done m x h =
    let longer : suc (length done) ≡ length (done ++ (x ∷ [])) = omega (arith, length-append done (x ∷ [])) in
    ap (λ (l : List ℕ). set (done ++ l) (length done) x) (drop-cons m (length done) 0 h)
    ∙ set-append_seam done (get_or m (length done) 0) (drop (suc (length done)) m) x
    ∙ sym (append_snoc done x (drop (suc (length done)) m))
    ∙ ap (λ (n : ℕ). (done ++ (x ∷ [])) ++ drop n m) longer
