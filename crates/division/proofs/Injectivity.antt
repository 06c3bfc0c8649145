-- Where the polynomial ends in 1, different registers stay different under the same string.
use Prim.Native.Nat.{ℕ, suc, ◌%◌, ◌^◌}
use mathlib.Core.Path.{◌≡◌, refl, sym, ap, ap₂, ◌∙◌}
use mathlib.Core.Bool.{Bool, true, false, ◌&&◌, and-true}
use mathlib.Core.List.{List, [], ◌∷◌, ◌++◌}
use native.Mathlib.Omega.{arith}
use lib.ListN.{length}
use Rattle.division.specs.Bits.{bits}
use Rattle.division.specs.Division.{◌⊕◌, exor, only_if, step, feed, checksum}
use Rattle.division.specs.Polynomial.{last, EndsInOne}
use Rattle.division.proofs.ExorLaws.{cons_inj, xor_cancel, xor_cancel_right}
use Rattle.division.proofs.BitsLaws.{one_width, bits_inj}
use Rattle.division.proofs.RegisterLaws.{length-step, bits_checksum}

and_inj : (f g q : Bool) → q ≡ true → f && q ≡ g && q → f ≡ g
and_inj f g q h e =
    sym (and-true f) ∙ ap (λ (z : Bool). f && z) (sym h) ∙ e ∙ ap (λ (z : Bool). g && z) h ∙ and-true g

-- the last place shows whether the polynomial was taken in, and then the others show what was there
shifted_inj : (t u p : List Bool) (f g : Bool) → length t ≡ length u → length p ≡ suc (length t) → last p ≡ true
    → exor (t ++ (false ∷ [])) (only_if f p) ≡ exor (u ++ (false ∷ [])) (only_if g p) → (f ≡ g) × (t ≡ u)
unfolding exor only_if last
shifted_inj [] [] [] f g l n h e = absurd (omega arith)
shifted_inj [] [] (q ∷ []) f g l n h e = (and_inj f g q h (cons_inj e).0, refl)
shifted_inj [] [] (q ∷ q' ∷ p) f g l n h e = absurd (omega arith)
shifted_inj [] (b ∷ u) p f g l n h e = absurd (omega arith)
shifted_inj (a ∷ t) [] p f g l n h e = absurd (omega arith)
shifted_inj (a ∷ t) (b ∷ u) [] f g l n h e = absurd (omega arith)
shifted_inj (a ∷ t) (b ∷ u) (q ∷ []) f g l n h e = absurd (omega arith)
shifted_inj (a ∷ t) (b ∷ u) (q ∷ q' ∷ p) f g l n h e =
    let r : (f ≡ g) × (t ≡ u) = shifted_inj t u (q' ∷ p) f g (omega arith) (omega arith) h (cons_inj e).1 in
    let e' : a ⊕ (g && q) ≡ b ⊕ (g && q) = ap (λ (z : Bool). a ⊕ (z && q)) (sym r.0) ∙ (cons_inj e).0 in
    (r.0, ap₂ ◌∷◌ (xor_cancel_right a b (g && q) e') r.1)

step_inj : (p x y : List Bool) (b : Bool) → length x ≡ length p → length y ≡ length p → last p ≡ true
    → step p x b ≡ step p y b → x ≡ y
unfolding step
step_inj p [] [] b l n h e = refl
step_inj p [] (g ∷ u) b l n h e = absurd (omega arith)
step_inj p (f ∷ t) [] b l n h e = absurd (omega arith)
step_inj p (f ∷ t) (g ∷ u) b l n h e =
    let r : (b ⊕ f ≡ b ⊕ g) × (t ≡ u) = shifted_inj t u p (b ⊕ f) (b ⊕ g) (omega arith) (omega arith) h e in
    ap₂ ◌∷◌ (xor_cancel b f g r.0) r.1

pub feed_inj : (p x y m : List Bool) → length x ≡ length p → length y ≡ length p → last p ≡ true
    → feed p x m ≡ feed p y m → x ≡ y
unfolding feed
feed_inj p x y [] l n h e = e
feed_inj p x y (b ∷ m) l n h e =
    step_inj p x y b l n h (feed_inj p (step p x b) (step p y b) m (length-step p x b l) (length-step p y b n) h e)

-- as numbers: start values that give one checksum are one start value
pub checksum_inj : (w poly s t : ℕ) (m : List Bool) → EndsInOne w poly → checksum w poly s m ≡ checksum w poly t m
    → s % 2 ^ w ≡ t % 2 ^ w
checksum_inj w poly s t m h e =
    bits_inj w s t
    (feed_inj (bits w poly) (bits w s) (bits w t) m (one_width w s poly) (one_width w t poly) h
    (sym (bits_checksum w poly s m) ∙ ap (bits w) e ∙ bits_checksum w poly t m))
