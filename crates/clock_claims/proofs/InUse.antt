-- Measurements in use, picked by their cycle.
use Prim.Native.Nat.{ℕ, ◌-◌, ◌%◌}
use mathlib.Core.Path.{◌≡◌, refl, sym, ap, ◌∙◌}
use mathlib.Core.Bool.{Bool, true, false, not, cond}
use mathlib.Core.List.{List, [], ◌∷◌}
use native.Mathlib.Omega.{arith}
use borrow.Author.Tests.{eqb-true, eqb-false, eq-eqb, ne_eqb}
use lib.Dec.{eqb}
use Rattle.numbers.proofs.Walk.{cases_in}
use Rattle.division.specs.Bits.{odd}
use Rattle.measurements.specs.Measurements.{Taken}
use Rattle.clock_claims.specs.History.{InUse, of_cycles, kept_of}
use Rattle.clock_claims.specs.Histories.{is_even}

-- ---- of every measurement something holds

abbrev pub Every : (InUse → Type 0) → List InUse → Type 0
Every P [] = Unit
Every P (m ∷ ms) = P m × Every P ms

pub every : {P Q : InUse → Type 0} → ((m : InUse) → P m → Q m) → (l : List InUse) → Every P l → Every Q l
every f [] e = tt
every f (m ∷ ms) (p, e) = (f m p, every f ms e)

-- ---- picked by cycle

pub cycles_same : (p q : ℕ → Bool) (l : List InUse) → Every (λ (m : InUse). p m.cycle ≡ q m.cycle) l → of_cycles p l ≡ of_cycles q l
unfolding of_cycles
cycles_same p q [] e = refl
cycles_same p q (m ∷ ms) (same, e) =
    let rest : of_cycles p ms ≡ of_cycles q ms = cycles_same p q ms e in
    λ i. cond (same i) (m.taken ∷ rest i) (rest i)

pub kept_every : (cycle : ℕ) (l : List InUse) → Every (λ (m : InUse). m.cycle ≡ cycle) (kept_of cycle l)
unfolding kept_of
kept_every cycle [] = tt
kept_every cycle (m ∷ ms) =
    let rest : Every (λ (k : InUse). k.cycle ≡ cycle) (kept_of cycle ms) = kept_every cycle ms in
    cases_in (λ b. Every (λ (k : InUse). k.cycle ≡ cycle) (cond b (m ∷ kept_of cycle ms) (kept_of cycle ms))) (eqb m.cycle cycle)
    (λ t. (eqb-true m.cycle cycle t, rest))
    (λ t. rest)

-- those that a test picks are just those of the cycle: keeping these loses none
pub kept_all : (p : ℕ → Bool) (cycle : ℕ) (l : List InUse) → Every (λ (m : InUse). eqb m.cycle cycle ≡ p m.cycle) l
    → of_cycles p (kept_of cycle l) ≡ of_cycles p l
unfolding of_cycles kept_of
kept_all p cycle [] e = refl
kept_all p cycle (m ∷ ms) (same, e) =
    let rest : of_cycles p (kept_of cycle ms) ≡ of_cycles p ms = kept_all p cycle ms e in
    cases_in (λ b. of_cycles p (cond b (m ∷ kept_of cycle ms) (kept_of cycle ms)) ≡ of_cycles p (m ∷ ms)) (eqb m.cycle cycle)
    (λ t. ap (λ (r : List Taken). cond (p m.cycle) (m.taken ∷ r) r) rest)
    (λ t. rest ∙ sym (ap (λ (b : Bool). cond b (m.taken ∷ of_cycles p ms) (of_cycles p ms)) (sym same ∙ t)))

pub cycles_none : (p : ℕ → Bool) (l : List InUse) → Every (λ (m : InUse). p m.cycle ≡ false) l → of_cycles p l ≡ of_cycles p []
unfolding of_cycles
cycles_none p [] e = refl
cycles_none p (m ∷ ms) (not-meant, e) = ap (λ (b : Bool). cond b (m.taken ∷ of_cycles p ms) (of_cycles p ms)) not-meant ∙ cycles_none p ms e

pub cycles_more : (p : ℕ → Bool) (m : InUse) (ms : List InUse) {b : Bool} → p m.cycle ≡ b
    → of_cycles p (m ∷ ms) ≡ cond b (m.taken ∷ of_cycles p ms) (of_cycles p ms)
unfolding of_cycles
cycles_more p m ms e = ap (λ (b : Bool). cond b (m.taken ∷ of_cycles p ms) (of_cycles p ms)) e

-- ---- odd and even

-- The numbers that are odd, or those that are even.
abbrev pub of_parity : Bool → ℕ → Bool
of_parity true n = not (is_even n)
of_parity false n = is_even n

pub own_parity : (n : ℕ) {o : Bool} → odd n ≡ o → (of_parity o n ≡ true) × (of_parity (not o) n ≡ false)
own_parity n {o = true} e =
    let even : is_even n ≡ false = ne_eqb (n % 2) 0 (λ q. omega (arith, eqb-true (n % 2) 1 e)) in
    (ap not even, even)
own_parity n {o = false} e =
    let even : is_even n ≡ true = eq-eqb (n % 2) 0 (omega (arith, eqb-false (n % 2) 1 e)) in
    (even, ap not even)

-- the number before an odd one is even, and another
pub before_odd : (n : ℕ) → odd n ≡ true → (odd (n - 1) ≡ false) × (eqb (n - 1) n ≡ false)
before_odd n e =
    let h = eqb-true (n % 2) 1 e in
    (ne_eqb ((n - 1) % 2) 1 (λ q. omega (arith, h)), ne_eqb (n - 1) n (λ q. omega (arith, h)))

-- ---- what is in use while a cycle is open, and once it is closed

-- Of a measurement in use while cycle c is open: those with its parity are its own, and where it is odd, the even ones are of the cycle before.
abbrev pub OfOpen : ℕ → InUse → Type 0
OfOpen c m = (eqb m.cycle c ≡ of_parity (odd c) m.cycle) × (odd c ≡ true → eqb m.cycle (c - 1) ≡ is_even m.cycle)

-- Once an even cycle is closed: the even ones are its own.
abbrev pub OfClosed : ℕ → InUse → Type 0
OfClosed c m = odd c ≡ false → eqb m.cycle c ≡ is_even m.cycle

pub open_closed : (c : ℕ) (m : InUse) → OfOpen c m → OfClosed c m
open_closed c m (same, before) even = same ∙ ap (λ (o : Bool). of_parity o m.cycle) even

-- a measurement of the cycle itself
pub own_open : (c : ℕ) (m : InUse) → m.cycle ≡ c → OfOpen c m
own_open c m e = (
  eq-eqb m.cycle c e ∙ sym (ap (of_parity (odd c)) e ∙ (own_parity c refl).0),
  λ o.
      ap (λ (n : ℕ). eqb n (c - 1)) e
      ∙ ne_eqb c (c - 1) (λ q. eqb-false (c - 1) c (before_odd c o).1 (sym q))
      ∙ sym (ap is_even e ∙ (own_parity c o).1),
)

-- a measurement of the cycle before an odd one
pub before_open : (c : ℕ) (m : InUse) → odd c ≡ true → m.cycle ≡ c - 1 → OfOpen c m
before_open c m o e =
    let b = before_odd c o in
    let even : is_even m.cycle ≡ true = ap is_even e ∙ (own_parity (c - 1) b.0).0 in (
      ap (λ (n : ℕ). eqb n c) e ∙ b.1 ∙ sym (ap (λ (t : Bool). of_parity t m.cycle) o ∙ ap not even),
      λ q. eq-eqb m.cycle (c - 1) e ∙ sym even,
    )
