-- Parity: where the polynomial with its top term has an even number of ones, every word that ends in its own checksum has the
-- parity of the start value, so two of them differ in an even number of bits.
use Prim.Native.Nat.{ℕ, ◌+◌, ◌%◌}
use mathlib.Core.Path.{◌≡◌, refl, sym, ap, ap₂, ◌∙◌}
use mathlib.Core.Bool.{Bool, true, false, not, ◌&&◌, false≢true, and-true}
use mathlib.Core.List.{List, [], ◌∷◌, ◌++◌}
use native.Mathlib.Omega.{arith}
use lib.ListN.{length}
use Rattle.division.specs.Bits.{bit, bits}
use Rattle.division.specs.Division.{◌⊕◌, exor, only_if, step, feed, checksum}
use Rattle.division.specs.Differing.{ones, differing}
use Rattle.division.specs.Polynomial.{EvenTerms}
use Rattle.division.specs.Word.{word, EndsInChecksum}
use Rattle.division.proofs.ExorLaws.{xor_same, xor_false, xor_assoc, xor_comm, xor_four, xor_back, length-only_if}
use Rattle.division.proofs.BitsLaws.{one_width}
use Rattle.division.proofs.RegisterLaws.{length-step, length-shifted, bits_checksum}

-- ---- the parity of a string: 1 where its number of ones is odd

unfoldable parity : List Bool → Bool
parity [] = false
parity (a ∷ l) = a ⊕ parity l

flip : (x : ℕ) (z : Bool) → x % 2 ≡ bit z → (1 + x) % 2 ≡ bit (not z)
flip x false e = omega arith
flip x true e = omega arith

ones_parity : (l : List Bool) → ones l % 2 ≡ bit (parity l)
unfolding ones parity
ones_parity [] = refl
ones_parity (false ∷ l) = omega (arith, ones_parity l)
ones_parity (true ∷ l) = flip (ones l) (parity l) (ones_parity l)

parity_exor : (x y : List Bool) → length x ≡ length y → parity (exor x y) ≡ parity x ⊕ parity y
unfolding parity exor
parity_exor [] [] e = refl
parity_exor [] (b ∷ y) e = absurd (omega arith)
parity_exor (a ∷ x) [] e = absurd (omega arith)
parity_exor (a ∷ x) (b ∷ y) e =
    ap (λ (z : Bool). (a ⊕ b) ⊕ z) (parity_exor x y (omega arith)) ∙ xor_four a b (parity x) (parity y)

parity_append : (x y : List Bool) → parity (x ++ y) ≡ parity x ⊕ parity y
unfolding parity
parity_append [] y = refl
parity_append (a ∷ x) y = ap (λ (z : Bool). a ⊕ z) (parity_append x y) ∙ sym (xor_assoc a (parity x) (parity y))

parity_only_if : (f : Bool) (x : List Bool) → parity (only_if f x) ≡ f && parity x
unfolding parity only_if
parity_only_if false [] = refl
parity_only_if true [] = refl
parity_only_if false (a ∷ x) = parity_only_if false x
parity_only_if true (a ∷ x) = ap (λ (z : Bool). a ⊕ z) (parity_only_if true x)

-- ---- the register

-- the string has an even number of ones with the polynomial's top term before it
odd_terms : (p : List Bool) → ones (true ∷ p) % 2 ≡ 0 → parity p ≡ true
unfolding parity
odd_terms p h = go (parity p) (sym (ones_parity (true ∷ p)) ∙ h)
  where
    go : (z : Bool) → bit (not z) ≡ 0 → z ≡ true
    go true e = refl
    go false e = absurd (omega arith)

not_empty : (p : List Bool) → 0 ≡ length p → parity p ≡ true → ⊥
unfolding parity
not_empty [] l h = false≢true h
not_empty (a ∷ p) l h = omega arith

step_parity : (p r : List Bool) (b : Bool) → length r ≡ length p → parity p ≡ true → parity (step p r b) ≡ parity r ⊕ b
unfolding step parity
step_parity p [] b l h = absurd (not_empty p l h)
step_parity p (g ∷ t) b l h =
    parity_exor (t ++ (false ∷ [])) (only_if (b ⊕ g) p) (length-shifted t ∙ l ∙ sym (length-only_if (b ⊕ g) p))
    ∙ ap₂ ◌⊕◌ (parity_append t (false ∷ []) ∙ xor_false (parity t))
    (parity_only_if (b ⊕ g) p ∙ ap (λ (z : Bool). (b ⊕ g) && z) h ∙ and-true (b ⊕ g))
    ∙ xor_comm (parity t) (b ⊕ g) ∙ ap (λ (z : Bool). z ⊕ parity t) (xor_comm b g)
    ∙ xor_assoc g b (parity t) ∙ ap (λ (z : Bool). g ⊕ z) (xor_comm b (parity t)) ∙ sym (xor_assoc g (parity t) b)

feed_parity : (p r m : List Bool) → length r ≡ length p → parity p ≡ true → parity (feed p r m) ≡ parity r ⊕ parity m
unfolding feed parity
feed_parity p r [] l h = sym (xor_false (parity r))
feed_parity p r (b ∷ m) l h =
    feed_parity p (step p r b) m (length-step p r b l) h ∙ ap (λ (z : Bool). z ⊕ parity m) (step_parity p r b l h)
    ∙ xor_assoc (parity r) b (parity m)

-- ---- words

module _ (w poly s : ℕ) (h : EvenTerms w poly) where
  word_parity : (x : List Bool) → EndsInChecksum w poly s x → parity x ≡ parity (bits w s)
  unfolding word
  word_parity x (m, e) =
      ap parity e ∙ parity_append m (bits w (checksum w poly s m))
      ∙ ap (λ (l : List Bool). parity m ⊕ parity l) (bits_checksum w poly s m)
      ∙ ap (λ (z : Bool). parity m ⊕ z)
      (feed_parity (bits w poly) (bits w s) m (one_width w s poly) (odd_terms (bits w poly) h))
      ∙ xor_back (parity m) (parity (bits w s))

  pub words_even : (x y : List Bool) → length x ≡ length y → EndsInChecksum w poly s x → EndsInChecksum w poly s y
      → differing x y % 2 ≡ 0
  unfolding differing
  words_even x y l ex ey =
      ones_parity (exor x y)
      ∙ ap bit (parity_exor x y l ∙ ap₂ ◌⊕◌ (word_parity x ex) (word_parity y ey) ∙ xor_same (parity (bits w s)))
