-- Linearity: the exclusive or of two registers is the register of the exclusive or.
use Prim.Native.Nat.{ℕ}
use mathlib.Core.Path.{◌≡◌, refl, sym, ap, ap₂, ◌∙◌}
use mathlib.Core.Bool.{Bool, false}
use mathlib.Core.List.{List, [], ◌∷◌, ◌++◌}
use native.Mathlib.Omega.{arith}
use lib.Bits.{bit_xor}
use lib.ListN.{length}
use Rattle.division.specs.Bits.{bits, number}
use Rattle.division.specs.Division.{◌⊕◌, exor, only_if, step, feed, checksum}
use Rattle.division.proofs.ExorLaws.{xor_four, exor_four, only_if_xor}
use Rattle.division.proofs.BitsLaws.{one_width, bits_xor, number_exor}
use Rattle.division.proofs.RegisterLaws.{length-step, length-fed}

exor_shifted : (x y : List Bool) → length x ≡ length y
    → exor x y ++ (false ∷ []) ≡ exor (x ++ (false ∷ [])) (y ++ (false ∷ []))
unfolding exor
exor_shifted [] [] e = refl
exor_shifted [] (b ∷ y) e = absurd (omega arith)
exor_shifted (a ∷ x) [] e = absurd (omega arith)
exor_shifted (a ∷ x) (b ∷ y) e = ap (◌∷◌ (a ⊕ b)) (exor_shifted x y (omega arith))

step_exor : (p x y : List Bool) (b c : Bool) → length x ≡ length y
    → step p (exor x y) (b ⊕ c) ≡ exor (step p x b) (step p y c)
unfolding step exor
step_exor p [] [] b c e = refl
step_exor p [] (g ∷ u) b c e = absurd (omega arith)
step_exor p (h ∷ t) [] b c e = absurd (omega arith)
step_exor p (h ∷ t) (g ∷ u) b c e =
    ap₂ (λ (l : List Bool) (f : Bool). exor l (only_if f p)) (exor_shifted t u (omega arith)) (xor_four b c h g)
    ∙ ap (exor (exor (t ++ (false ∷ [])) (u ++ (false ∷ [])))) (only_if_xor (b ⊕ h) (c ⊕ g) p)
    ∙ exor_four (t ++ (false ∷ [])) (u ++ (false ∷ [])) (only_if (b ⊕ h) p) (only_if (c ⊕ g) p)

pub feed_exor : (p x y m n : List Bool) → length x ≡ length p → length y ≡ length p → length m ≡ length n
    → feed p (exor x y) (exor m n) ≡ exor (feed p x m) (feed p y n)
unfolding feed exor
feed_exor p x y [] [] lx ly e = refl
feed_exor p x y [] (c ∷ n) lx ly e = absurd (omega arith)
feed_exor p x y (b ∷ m) [] lx ly e = absurd (omega arith)
feed_exor p x y (b ∷ m) (c ∷ n) lx ly e =
    ap (λ (r : List Bool). feed p r (exor m n)) (step_exor p x y b c (lx ∙ sym ly))
    ∙ feed_exor p (step p x b) (step p y c) m n (length-step p x b lx) (length-step p y c ly) (omega arith)

-- as numbers, start values among them
pub checksum_xor : (w poly s t : ℕ) (m n : List Bool) → length m ≡ length n
    → checksum w poly (bit_xor s t) (exor m n) ≡ bit_xor (checksum w poly s m) (checksum w poly t n)
unfolding checksum
checksum_xor w poly s t m n e =
    let p : List Bool = bits w poly in
    ap number
    (ap (λ (r : List Bool). feed p r (exor m n)) (bits_xor w s t)
    ∙ feed_exor p (bits w s) (bits w t) m n (one_width w s poly) (one_width w t poly) e)
    ∙ number_exor (feed p (bits w s) m) (feed p (bits w t) n) (length-fed w poly s m ∙ sym (length-fed w poly t n))
