-- The bit clock over the samples of a bit, and tests of where it strobes.
use Prim.Native.Nat.{ℕ, suc, ◌-◌, ◌≤◌}
use mathlib.Core.Path.{◌≡◌, ap₂, ◌∙◌}
use mathlib.Core.Bool.{Bool, true, false, not, ◌&&◌, ◌||◌, cond}
use mathlib.Core.List.{List, [], ◌∷◌}
use native.Mathlib.Omega.{arith}
use borrow.Author.Tests.{eqb-true, leb-true, not-true}
use lib.Dec.{eqb, leb}
use Rattle.numbers.proofs.Truth.{both_true}
use Rattle.division.specs.Division.{◌⊕◌}
use Rattle.division.proofs.ExorLaws.{xor_zero}
use Rattle.bit_clock.specs.declared.BitClock.{BitClock}
use Rattle.bit_clock.specs.Clock.{vote, votes, strobes, after}
use Rattle.read_back.proofs.Patterns.{Flips}

-- ---- when a bit begins

-- Behind bit b, which was strobed in its sample j; of the last four samples those are changed that the first flips tell. A reader that has
-- heard nothing but idle strobes a sample too late, as if in sample 8.
abbrev pub near : Bool → Flips → ℕ → Bool → BitClock
near b f j a =
    record {
      oldest = f 0 ⊕ b;
      older = f 1 ⊕ b;
      newer = f 2 ⊕ b;
      newest = f 3 ⊕ b;
      seen = 4;
      voted = b;
      counter = 13 - j;
      realigns = b && a;
    }

-- The next bit's samples.
abbrev pub eight : Bool → Flips → List Bool
eight b f = (f 4 ⊕ b) ∷ (f 5 ⊕ b) ∷ (f 6 ⊕ b) ∷ (f 7 ⊕ b) ∷ (f 8 ⊕ b) ∷ (f 9 ⊕ b) ∷ (f 10 ⊕ b) ∷ (f 11 ⊕ b) ∷ []

-- A strobe at most one sample early or late, or, where it is to be exact, in sample 6.
abbrev pub timely : Bool → ℕ → Bool
timely exact j = leb (cond exact 6 5) j && leb j (cond exact 6 7)

pub timely_says : (exact : Bool) (j : ℕ) → timely exact j ≡ true → (5 ≤ j) × (j ≤ 7)
timely_says true j e =
    let h = both_true (leb 6 j) (leb j 6) e in
    (omega (arith, leb-true 6 j h.0), omega (arith, leb-true j 6 h.1))
timely_says false j e =
    let h = both_true (leb 5 j) (leb j 7) e in
    (leb-true 5 j h.0, leb-true j 7 h.1)

pub exactly : (j : ℕ) → timely true j ≡ true → j ≡ 6
exactly j e =
    let h = both_true (leb 6 j) (leb j 6) e in
    omega (arith, leb-true 6 j h.0, leb-true j 6 h.1)

-- ---- samples that are passed

-- After a sample that strobes no bit of a byte.
abbrev pub passed : BitClock → Bool → BitClock
passed s x = after s false x (vote s x)

-- It strobes nothing, or, where the reader waits, a high bit.
abbrev pub skips : Bool → BitClock → Bool → Bool
skips waits s x = votes s && (not (strobes s (vote s x)) || (waits && vote s x))

unfoldable pub go : BitClock → List Bool → BitClock
go s [] = s
go s (x ∷ l) = go (passed s x) l

unfoldable pub quiet : Bool → BitClock → List Bool → Bool
quiet waits s [] = true
quiet waits s (x ∷ l) = skips waits s x && quiet waits (passed s x) l

-- ---- two clocks are the same

abbrev pub same : Bool → Bool → Bool
same a b = not (a ⊕ b)

abbrev pub same_clock : BitClock → BitClock → Bool
same_clock x y =
    (same x.oldest y.oldest && same x.older y.older)
    && ((same x.newer y.newer && same x.newest y.newest)
    && ((eqb x.seen y.seen && same x.voted y.voted) && (eqb x.counter y.counter && same x.realigns y.realigns)))

pub same_is : (a b : Bool) → same a b ≡ true → a ≡ b
same_is a b e = xor_zero a b (not-true (a ⊕ b) e)

abbrev clock : Bool → Bool → Bool → Bool → ℕ → Bool → ℕ → Bool → BitClock
clock a b c d seen voted counter realigns =
    record { oldest = a; older = b; newer = c; newest = d; seen = seen; voted = voted; counter = counter; realigns = realigns }

pub same_clock_lem : (x y : BitClock) → same_clock x y ≡ true → x ≡ y
same_clock_lem x y e =
    let h1 = both_true (same x.oldest y.oldest && same x.older y.older) _ e in
    let h2 = both_true (same x.newer y.newer && same x.newest y.newest) _ h1.1 in
    let h3 = both_true (eqb x.seen y.seen && same x.voted y.voted) _ h2.1 in
    let a = both_true (same x.oldest y.oldest) _ h1.0 in
    let b = both_true (same x.newer y.newer) _ h2.0 in
    let c = both_true (eqb x.seen y.seen) _ h3.0 in
    let d = both_true (eqb x.counter y.counter) _ h3.1 in
    ap₂ (λ (p q : Bool). clock p q x.newer x.newest x.seen x.voted x.counter x.realigns)
    (same_is x.oldest y.oldest a.0) (same_is x.older y.older a.1)
    ∙ ap₂ (λ (p q : Bool). clock y.oldest y.older p q x.seen x.voted x.counter x.realigns)
    (same_is x.newer y.newer b.0) (same_is x.newest y.newest b.1)
    ∙ ap₂ (λ (p : ℕ) (q : Bool). clock y.oldest y.older y.newer y.newest p q x.counter x.realigns)
    (eqb-true x.seen y.seen c.0) (same_is x.voted y.voted c.1)
    ∙ ap₂ (λ (p : ℕ) (q : Bool). clock y.oldest y.older y.newer y.newest y.seen y.voted p q)
    (eqb-true x.counter y.counter d.0) (same_is x.realigns y.realigns d.1)

-- ---- one strobe among the samples of bit b

-- In sample j, rightly.
abbrev pub hits : Bool → Bool → ℕ → BitClock → Bool → Bool
hits exact b j s x = (timely exact j && votes s) && (strobes s (vote s x) && same (vote s x) b)

-- Then nothing more, and the clock comes where it is to be.
abbrev pub arrives : (ℕ → Bool → BitClock) → ℕ → BitClock → List Bool → Bool
arrives end j s l = quiet false s l && same_clock (go s l) (end j (go s l).realigns)

-- From sample j on.
unfoldable pub finds : Bool → Bool → Bool → Bool → (ℕ → Bool → BitClock) → ℕ → BitClock → List Bool → Bool
finds exact waits in_byte b end j s [] = false
finds exact waits in_byte b end j s (x ∷ l) =
    (skips waits s x && finds exact waits in_byte b end (suc j) (passed s x) l)
    || (hits exact b j s x && arrives end j (after s in_byte x (vote s x)) l)
