-- The bit clock over every harmless pattern of a bit's samples, by computation.
use Prim.Native.Nat.{ℕ, suc, ◌≤◌}
use mathlib.Core.Path.{◌≡◌, refl}
use mathlib.Core.Bool.{Bool, true, false, not, ◌&&◌, ◌||◌}
use mathlib.Core.List.{List, ◌∷◌}
use native.Mathlib.Omega.{arith}
use borrow.Author.Tests.{le-leb}
use lib.Dec.{leb}
use Rattle.division.specs.Division.{◌⊕◌}
use Rattle.bit_clock.specs.declared.BitClock.{BitClock}
use Rattle.read_back.proofs.Patterns.{Flips, Calm, first_of, next8, flip_at, all, all_says, each, each_says, below, below_says, under}
use Rattle.read_back.proofs.Clocks.{near, eight, timely, timely_says, go, quiet, same_clock, finds}

-- ---- bits inside a frame

abbrev cell_test : Bool → Bool → Bool → Bool → Bool → ℕ → Flips → Bool
cell_test exact b a in_byte next j f = finds exact false in_byte next (near next (next8 f)) 0 (near b f j a) (eight next f)

abbrev cell_all : Bool → Bool → Bool → Bool → Bool → ℕ → Bool
cell_all exact b a in_byte next j = not (timely exact j) || all exact 12 0 (λ (l : List Bool). cell_test exact b a in_byte next j (flip_at l))

abbrev cells1 : Bool → Bool → Bool → Bool → Bool → Bool
cells1 exact b a in_byte next = below 9 (cell_all exact b a in_byte next)

abbrev cells2 : Bool → Bool → Bool → Bool
cells2 exact b a = each (λ (in_byte : Bool). each (cells1 exact b a in_byte))

abbrev cells3 : Bool → Bool
cells3 exact = each (λ (b : Bool). each (cells2 exact b))

cells : each cells3 ≡ true
unfolding go quiet finds all each below
cells = refl

pub cell : (exact b a in_byte next : Bool) (j : ℕ) (f : Flips) → timely exact j ≡ true → Calm exact f → cell_test exact b a in_byte next j f ≡ true
unfolding first_of
cell exact b a in_byte next j f h c =
    let e2 = each_says (cells2 exact b) (each_says (λ (b : Bool). each (cells2 exact b)) (each_says cells3 cells exact) b) a in
    let e1 = each_says (cells1 exact b a in_byte) (each_says (λ (in_byte : Bool). each (cells1 exact b a in_byte)) e2 in_byte) next in
    let e = below_says 9 (cell_all exact b a in_byte next) e1 j (omega (arith, timely_says exact j h)) in
    all_says (first_of 12 f) exact 0 (λ (l : List Bool). cell_test exact b a in_byte next j (flip_at l)) (under (timely exact j) _ e h) (c.first 12)

-- ---- the first low bit, where the reader waits

abbrev low_test : Bool → ℕ → Flips → Bool
low_test exact j f = finds exact true false false (near false (next8 f)) 0 (near true f j true) (eight false f)

abbrev low_all : Bool → ℕ → Bool
low_all exact j = not (leb 5 j) || all exact 12 0 (λ (l : List Bool). low_test exact j (flip_at l))

lows : each (λ (exact : Bool). below 9 (low_all exact)) ≡ true
unfolding go quiet finds all each below
lows = refl

pub low_bit : (exact : Bool) (j : ℕ) (f : Flips) → 5 ≤ j → j ≤ 8 → Calm exact f → low_test exact j f ≡ true
unfolding first_of
low_bit exact j f from to c =
    let e = below_says 9 (low_all exact) (each_says (λ (exact : Bool). below 9 (low_all exact)) lows exact) j (omega arith) in
    all_says (first_of 12 f) exact 0 (λ (l : List Bool). low_test exact j (flip_at l)) (under (leb 5 j) _ e (le-leb 5 j from)) (c.first 12)

-- ---- an idle bit

abbrev idle_test : Bool → ℕ → Flips → Bool
idle_test a j f = quiet true (near true f j a) (eight true f) && same_clock (go (near true f j a) (eight true f)) (near true (next8 f) j true)

abbrev idle_all : Bool → Bool → ℕ → Bool
idle_all exact a j = not (leb 5 j) || all exact 12 0 (λ (l : List Bool). idle_test a j (flip_at l))

abbrev idle1 : Bool → Bool
idle1 exact = each (λ (a : Bool). below 9 (idle_all exact a))

idles : each idle1 ≡ true
unfolding go quiet all each below
idles = refl

pub idle_bit : (exact a : Bool) (j : ℕ) (f : Flips) → 5 ≤ j → j ≤ 8 → Calm exact f → idle_test a j f ≡ true
unfolding first_of
idle_bit exact a j f from to c =
    let e1 = each_says (λ (a : Bool). below 9 (idle_all exact a)) (each_says idle1 idles exact) a in
    let e = below_says 9 (idle_all exact a) e1 j (omega arith) in
    all_says (first_of 12 f) exact 0 (λ (l : List Bool). idle_test a j (flip_at l)) (under (leb 5 j) _ e (le-leb 5 j from)) (c.first 12)

-- ---- the first two, from the beginning

-- Four samples have come, and none was voted yet.
abbrev pub fourth : Flips → BitClock
fourth f =
    record {
      oldest = f 0 ⊕ true;
      older = f 1 ⊕ true;
      newer = f 2 ⊕ true;
      newest = f 3 ⊕ true;
      seen = 4;
      voted = false;
      counter = 1;
      realigns = false;
    }

-- Twelve more.
abbrev pub twelve : Flips → List Bool
twelve f = (f 4 ⊕ true) ∷ (f 5 ⊕ true) ∷ (f 6 ⊕ true) ∷ (f 7 ⊕ true) ∷ eight true (λ n. f (suc (suc (suc (suc n)))))

abbrev fresh_test : Flips → Bool
fresh_test f =
    quiet true (fourth f) (twelve f) && same_clock (go (fourth f) (twelve f)) (near true (λ n. next8 f (suc (suc (suc (suc n))))) 8 true)

abbrev fresh_all : Bool → Bool
fresh_all exact = all exact 16 0 (λ (l : List Bool). fresh_test (flip_at l))

freshes : each fresh_all ≡ true
unfolding go quiet all each
freshes = refl

pub fresh_bits : (exact : Bool) (f : Flips) → Calm exact f → fresh_test f ≡ true
unfolding first_of
fresh_bits exact f c = all_says (first_of 16 f) exact 0 (λ (l : List Bool). fresh_test (flip_at l)) (each_says fresh_all freshes exact) (c.first 16)
