-- Bursts: where the polynomial ends in 1, the differences of two different words that end in their own checksum never all lie
-- within as many consecutive places as the register is wide.
use Prim.Native.Nat.{ℕ, ◌+◌, ◌-◌, ◌≤◌, ◌<◌}
use mathlib.Core.Path.{◌≡◌, refl, sym, ap, ◌∙◌}
use mathlib.Core.Bool.{Bool, true, false}
use mathlib.Core.List.{List, ◌++◌}
use native.Mathlib.Omega.{arith}
use lib.ListN.{length, length-append, take, drop, get_or, length-take, length-drop, take-append-drop}
use lib.Seq.{get_or-take, get_or-drop, ext_get_or}
use Rattle.division.specs.Bits.{bits}
use Rattle.division.specs.Division.{exor, feed}
use Rattle.division.specs.Polynomial.{last, EndsInOne}
use Rattle.division.specs.Word.{EndsInChecksum}
use Rattle.division.specs.Differing.{first_differing, last_differing}
use Rattle.division.proofs.BytesLaws.{append_apart}
use Rattle.division.proofs.ExorLaws.{length-exor, exor_cancel, exor_zeros, exor_self, zeros, length-zeros}
use Rattle.division.proofs.BitsLaws.{length-bits, one_width}
use Rattle.division.proofs.RegisterLaws.{length-feed, feed_append}
use Rattle.division.proofs.Linearity.{feed_exor}
use Rattle.division.proofs.Injectivity.{feed_inj}
use Rattle.division.proofs.WordLaws.{feed_own, feed_word}
use Rattle.division.proofs.DifferingLaws.{same_before, same_after}

-- ---- a string no longer than the register

-- the same register comes of a string fed, and of the string taken in before as many zeros are fed
feed_early : (p r e : List Bool) (k : ℕ) → length r ≡ length p → length (e ++ zeros k) ≡ length p
    → feed p r e ≡ feed p (exor r (e ++ zeros k)) (zeros (length e))
feed_early p r e k lr le =
    sym
    (ap (feed p (exor r (e ++ zeros k))) (sym (exor_self e)) ∙ feed_exor p r (e ++ zeros k) e e lr le refl
    ∙ ap (exor (feed p r e)) (feed_own p e k le ∙ ap zeros (sym (length-feed p r e lr))) ∙ exor_zeros (feed p r e))

length-padded : (w : ℕ) (e : List Bool) → length e ≤ w → length (e ++ zeros (w - length e)) ≡ w
length-padded w e h = length-append e (zeros (w - length e)) ∙ omega (arith, length-zeros (w - length e))

-- no two of one length have one effect
short_inj : (p r e f : List Bool) → length r ≡ length p → length e ≡ length f → length e ≤ length p → last p ≡ true
    → feed p r e ≡ feed p r f → e ≡ f
short_inj p r e f lr l w h q =
    let k : ℕ = length p - length e in
    let le : length (e ++ zeros k) ≡ length p = length-padded (length p) e w in
    let lf : length (f ++ zeros k) ≡ length p = rw (← l) at (length-padded (length p) f (omega arith)) in
    let ae : length (exor r (e ++ zeros k)) ≡ length p = length-exor r (e ++ zeros k) (lr ∙ sym le) ∙ lr in
    let af : length (exor r (f ++ zeros k)) ≡ length p = length-exor r (f ++ zeros k) (lr ∙ sym lf) ∙ lr in
    let same : e ++ zeros k ≡ f ++ zeros k =
    exor_cancel r (e ++ zeros k) (f ++ zeros k) (le ∙ sym lr) (lf ∙ sym lr)
    (feed_inj p (exor r (e ++ zeros k)) (exor r (f ++ zeros k)) (zeros (length e)) ae af h
    (sym (feed_early p r e k lr le) ∙ q ∙ feed_early p r f k lr lf
    ∙ ap (λ (n : ℕ). feed p (exor r (f ++ zeros k)) (zeros n)) (sym l))) in
    (append_apart e (zeros k) f (zeros k) l same).0

-- with the same before and the same behind
middle_inj : (p r a e f z : List Bool) → length r ≡ length p → length e ≡ length f → length e ≤ length p → last p ≡ true
    → feed p r (a ++ (e ++ z)) ≡ feed p r (a ++ (f ++ z)) → e ≡ f
middle_inj p r a e f z lr l n h q =
    let r' : List Bool = feed p r a in
    let lr' : length r' ≡ length p = length-feed p r a lr in
    let parts : (e : List Bool) → feed p r (a ++ (e ++ z)) ≡ feed p (feed p r' e) z =
    λ e. feed_append p r a (e ++ z) ∙ feed_append p r' e z in
    short_inj p r' e f lr' l n h
    (feed_inj p (feed p r' e) (feed p r' f) z (length-feed p r' e lr') (length-feed p r' f lr') h
    (sym (parts e) ∙ q ∙ parts f))

-- ---- by places

thirds : (u : List Bool) (i w : ℕ) → u ≡ take i u ++ (take w (drop i u) ++ drop w (drop i u))
thirds u i w = sym (ap (λ (x : List Bool). take i u ++ x) (take-append-drop w (drop i u)) ∙ take-append-drop i u)

module _ (u v : List Bool) (i w : ℕ) (l : length u ≡ length v) where
  front : ((j : ℕ) → j < i → get_or u j false ≡ get_or v j false) → take i u ≡ take i v
  front h =
      ext_get_or false (take i u) (take i v) (simp (length-take, l))
      (λ j b. let b' : j < i = omega (arith, length-take i u) in get_or-take i u j false b' ∙ h j b' ∙ sym (get_or-take i v j false b'))

  back : ((j : ℕ) → i + w ≤ j → get_or u j false ≡ get_or v j false) → drop w (drop i u) ≡ drop w (drop i v)
  back h =
      ext_get_or false (drop w (drop i u)) (drop w (drop i v)) (simp (length-drop, l))
      (λ j b. simp get_or-drop (h (i + (w + j)) (omega arith)))

  -- the same before place i, the same from place i + w on, and one register
  burst_at : (p r : List Bool) → length r ≡ length p → w ≤ length p → last p ≡ true
      → ((j : ℕ) → j < i → get_or u j false ≡ get_or v j false) → ((j : ℕ) → i + w ≤ j → get_or u j false ≡ get_or v j false)
      → feed p r u ≡ feed p r v → u ≡ v
  burst_at p r lr lw h before after q =
      let z : List Bool = drop w (drop i u) in
      let v' : v ≡ take i u ++ (take w (drop i v) ++ z) = thirds v i w ∙ rw (front before, back after) in
      let e : take w (drop i u) ≡ take w (drop i v) =
      middle_inj p r (take i u) (take w (drop i u)) (take w (drop i v)) z lr (simp (length-take, length-drop, l))
      (rw length-take (omega arith)) h (ap (feed p r) (sym (thirds u i w)) ∙ q ∙ ap (feed p r) v') in
      thirds u i w ∙ ap (λ (x : List Bool). take i u ++ (x ++ z)) e ∙ sym v'

-- ---- words

pub words_burst : (w poly s : ℕ) → EndsInOne w poly → (x y : List Bool) → length x ≡ length y → (x ≡ y → ⊥)
    → EndsInChecksum w poly s x → EndsInChecksum w poly s y → first_differing x y + w ≤ last_differing x y
words_burst w poly s h x y l differ ex ey =
    let i : ℕ = first_differing x y in
    let within : last_differing x y < i + w → ⊥ =
    λ b. differ
    (burst_at x y i w l (bits w poly) (bits w s) (one_width w s poly) (omega (arith, length-bits w poly)) h (same_before x y l)
    (λ j c. same_after x y l j (omega arith)) (feed_word w poly s x ex ∙ sym (feed_word w poly s y ey))) in
    omega arith
