-- Distance by a computed test: no two different words of at most n bits differ in exactly c of them.
use Prim.Native.Nat.{ℕ, zero, suc, ◌≤◌, ◌<◌}
use mathlib.Core.Path.{◌≡◌, refl, sym, ap, ap₂, ◌∙◌}
use mathlib.Core.Bool.{Bool, true, false, not, false≢true}
use mathlib.Core.List.{List, [], ◌∷◌, ◌++◌}
use native.Mathlib.Omega.{arith}
use lib.Dec.{eqb}
use lib.ListN.{length}
use borrow.Author.Tests.{eq-eqb}
use Rattle.numbers.proofs.Truth.{both_true}
use Rattle.division.specs.Bits.{bits}
use Rattle.division.specs.Division.{exor, step, feed}
use Rattle.division.specs.Polynomial.{last, EndsInOne}
use Rattle.division.specs.Word.{EndsInChecksum}
use Rattle.division.specs.Differing.{ones, differing}
use Rattle.division.specs.Distance.{never_zero, never_apart}
use Rattle.division.proofs.ExorLaws.{length-exor, zeros_exor, exor_self, only_if_true, zeros, length-zeros}
use Rattle.division.proofs.BitsLaws.{one_width}
use Rattle.division.proofs.RegisterLaws.{length-step, length-shifted}
use Rattle.division.proofs.Linearity.{feed_exor}
use Rattle.division.proofs.Injectivity.{feed_inj}
use Rattle.division.proofs.WordLaws.{zeros_shifted, exor_only_if_false, feed_word}
use Rattle.division.proofs.DifferingLaws.{ones_zeros, differing_zero}

-- ---- a register of zeros

step_zeros_false : (p : List Bool) (n : ℕ) → n ≡ length p → step p (zeros n) false ≡ zeros n
unfolding step zeros
step_zeros_false p zero e = refl
step_zeros_false p (suc n) e =
    exor_only_if_false (zeros n ++ (false ∷ [])) p (length-shifted (zeros n) ∙ ap suc (length-zeros n) ∙ e)
    ∙ zeros_shifted [] n

step_zeros_true : (p : List Bool) (n : ℕ) → n ≡ length p → 0 < n → step p (zeros n) true ≡ p
unfolding step zeros
step_zeros_true p zero e h = absurd (omega arith)
step_zeros_true p (suc n) e h = ap₂ exor (zeros_shifted [] n ∙ ap zeros e) (only_if_true p) ∙ zeros_exor p

feed_zeros : (p : List Bool) (n : ℕ) (d : List Bool) → n ≡ length p → ones d ≡ 0 → feed p (zeros n) d ≡ zeros n
unfolding feed ones
feed_zeros p n [] e h = refl
feed_zeros p n (false ∷ d) e h =
    ap (λ (r : List Bool). feed p r d) (step_zeros_false p n e) ∙ feed_zeros p n d e (omega arith)
feed_zeros p n (true ∷ d) e h = absurd (omega arith)

-- ---- what the test shows

not_zeros : (r : List Bool) (n : ℕ) → not (eqb (ones r) 0) ≡ true → r ≡ zeros n → ⊥
not_zeros r n h e = false≢true (ap not (sym (eq-eqb (ones r) 0 (ap ones e ∙ ones_zeros n))) ∙ h)

module _ (p : List Bool) (hp : last p ≡ true) where
  -- zeros alone bring no register to zero but that of zeros
  silent : (r d : List Bool) → length r ≡ length p → ones d ≡ 0 → feed p r d ≡ zeros (length p) → r ≡ zeros (length p)
  silent r d l h e =
      feed_inj p r (zeros (length p)) d l (length-zeros (length p)) hp (e ∙ sym (feed_zeros p (length p) d refl h))

  never_zero_lem : (d : List Bool) (n c : ℕ) (r : List Bool) → length r ≡ length p → never_zero p n c r ≡ true → length d ≤ n
      → ones d ≡ c → feed p r d ≡ zeros (length p) → ⊥
  unfolding never_zero feed ones
  never_zero_lem d zero zero r l h b e q = not_zeros r (length p) h (silent r d l e q)
  never_zero_lem d (suc n) zero r l h b e q = not_zeros r (length p) h (silent r d l e q)
  never_zero_lem [] zero (suc c) r l h b e q = omega arith
  never_zero_lem (a ∷ d) zero (suc c) r l h b e q = omega arith
  never_zero_lem [] (suc n) (suc c) r l h b e q = omega arith
  never_zero_lem (false ∷ d) (suc n) (suc c) r l h b e q =
      never_zero_lem d n (suc c) (step p r false) (length-step p r false l)
      (both_true (never_zero p n c (step p r true)) (never_zero p n (suc c) (step p r false)) h).1 (omega arith) (omega arith) q
  never_zero_lem (true ∷ d) (suc n) (suc c) r l h b e q =
      never_zero_lem d n c (step p r true) (length-step p r true l)
      (both_true (never_zero p n c (step p r true)) (never_zero p n (suc c) (step p r false)) h).0 (omega arith) (omega arith) q

  -- from a register of zeros: nothing happens up to the first 1, and that one leaves the polynomial
  from_zeros : (d : List Bool) (n c : ℕ) → 0 < length p → never_zero p n c p ≡ true → length d ≤ suc n → ones d ≡ suc c
      → feed p (zeros (length p)) d ≡ zeros (length p) → ⊥
  unfolding feed ones
  from_zeros [] n c f h b e q = omega arith
  from_zeros (false ∷ d) n c f h b e q =
      from_zeros d n c f h (omega arith) (omega arith)
      (ap (λ (r : List Bool). feed p r d) (sym (step_zeros_false p (length p) refl)) ∙ q)
  from_zeros (true ∷ d) n c f h b e q =
      never_zero_lem d n c p refl h (omega arith) (omega arith)
      (ap (λ (r : List Bool). feed p r d) (sym (step_zeros_true p (length p) refl f)) ∙ q)

not_empty : (p : List Bool) → last p ≡ true → 0 < length p
unfolding last
not_empty [] h = absurd (false≢true h)
not_empty (a ∷ p) h = omega arith

-- ---- words

-- the exclusive or of two words leaves a register of zeros at zeros
feed_difference : (w poly s : ℕ) (x y : List Bool) → length x ≡ length y → EndsInChecksum w poly s x → EndsInChecksum w poly s y
    → feed (bits w poly) (zeros (length (bits w poly))) (exor x y) ≡ zeros (length (bits w poly))
feed_difference w poly s x y l ex ey =
    let p : List Bool = bits w poly in
    let r : List Bool = bits w s in
    let lr : length r ≡ length p = one_width w s poly in
    ap (λ (z : List Bool). feed p z (exor x y)) (ap zeros (sym lr) ∙ sym (exor_self r))
    ∙ feed_exor p r r x y lr lr l
    ∙ ap₂ exor (feed_word w poly s x ex) (feed_word w poly s y ey)
    ∙ exor_self (zeros (length p)) ∙ ap zeros (length-zeros (length p))

pub words_apart : (w poly s : ℕ) → EndsInOne w poly → (n c : ℕ) → never_apart w poly n c ≡ true
    → (x y : List Bool) → length x ≡ length y → length x ≤ n → (x ≡ y → ⊥)
    → EndsInChecksum w poly s x → EndsInChecksum w poly s y → differing x y ≡ c → ⊥
unfolding never_apart differing
words_apart w poly s h n zero t x y l b differ ex ey e = differ (differing_zero x y l e)
words_apart w poly s h zero (suc c) t [] [] l b differ ex ey e = differ refl
words_apart w poly s h zero (suc c) t [] (a ∷ y) l b differ ex ey e = omega arith
words_apart w poly s h zero (suc c) t (a ∷ x) y l b differ ex ey e = omega arith
words_apart w poly s h (suc n) (suc c) t x y l b differ ex ey e =
    from_zeros (bits w poly) h (exor x y) n c (not_empty (bits w poly) h) t (rw (length-exor x y l) b) e
    (feed_difference w poly s x y l ex ey)
