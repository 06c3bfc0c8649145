-- A sound clock stays one, and how far its counter is from the last strobe.
use Prim.Native.Nat.{ℕ, zero, suc, ◌+◌, ◌%◌, ◌≤◌}
use mathlib.Core.Path.{◌≡◌, refl}
use mathlib.Core.Bool.{Bool, true, false, not, ◌&&◌, ◌||◌, cond}
use native.Mathlib.Omega.{arith}
use borrow.Author.Tests.{le-leb, leb-true}
use lib.Dec.{eqb, leb}
use Rattle.numbers.proofs.Truth.{both_true, true_both}
use Rattle.bit_clock.specs.declared.BitClock.{BitClock}
use Rattle.bit_clock.specs.Clock.{remembered, votes, after, in_range, not_come, nothing_voted, sound_clock}

-- ---- what soundness says

pub seen_at_most : (s : BitClock) → sound_clock s ≡ true → s.seen ≤ 4
seen_at_most s e =
    let r = (both_true (in_range s) (votes s || (not_come s && nothing_voted s)) e).0 in
    leb-true s.seen remembered (both_true (leb s.seen remembered) (leb 1 s.counter && leb s.counter 8) r).0

pub counter_in : (s : BitClock) → sound_clock s ≡ true → (1 ≤ s.counter) × (s.counter ≤ 8)
counter_in s e =
    let r = (both_true (in_range s) (votes s || (not_come s && nothing_voted s)) e).0 in
    let c = both_true (leb 1 s.counter) (leb s.counter 8) (both_true (leb s.seen remembered) (leb 1 s.counter && leb s.counter 8) r).1 in
    (leb-true 1 s.counter c.0, leb-true s.counter 8 c.1)

-- ---- after a sample

counts_on : (b : Bool) (c : ℕ) → leb 1 (cond b 2 (c % 8 + 1)) && leb (cond b 2 (c % 8 + 1)) 8 ≡ true
counts_on true c = refl
counts_on false c =
    true_both (leb 1 (c % 8 + 1)) (leb (c % 8 + 1) 8) (le-leb 1 (c % 8 + 1) (omega arith)) (le-leb (c % 8 + 1) 8 (omega arith))

parts : (range first others voted : Bool) → range && ((first && others) && voted) ≡ true → (range ≡ true) × (others ≡ true) × (voted ≡ true)
parts range first others voted e =
    let h = both_true range ((first && others) && voted) e in
    let k = both_true (first && others) voted h.1 in
    (h.0, (both_true first others k.0).1, k.1)

joined : (range first others voted : Bool) → range ≡ true → first ≡ true → others ≡ true → voted ≡ true
    → range && ((first && others) && voted) ≡ true
joined range first others voted r f o v =
    true_both range ((first && others) && voted) r (true_both (first && others) voted (true_both first others f o) v)

-- By how many samples have come. While fewer than four have, what is left of the tests is among those that held before.
stays : (n counter : ℕ) (a b c d w r in_byte x v : Bool)
    → let s : BitClock = record { oldest = a; older = b; newer = c; newest = d; seen = n; voted = w; counter = counter; realigns = r } in
    sound_clock s ≡ true → sound_clock (after s in_byte x v) ≡ true
stays zero counter a b c d w r in_byte x v e =
    let h = parts (leb 1 counter && leb counter 8) (not a) (not b && (not c && not d)) (not w && (eqb counter 1 && not r)) e in
    let k = both_true (not b) (not c && not d) h.1 in
    let l = both_true (not c) (not d) k.1 in
    joined (leb 1 counter && leb counter 8) (not b) (not c && (not d && true)) (not w && (eqb counter 1 && not r)) h.0 k.0
    (true_both (not c) (not d && true) l.0 (true_both (not d) true l.1 refl)) h.2
stays (suc zero) counter a b c d w r in_byte x v e =
    let h = parts (leb 1 counter && leb counter 8) (not a) (not b && (not c && true)) (not w && (eqb counter 1 && not r)) e in
    let k = both_true (not b) (not c && true) h.1 in
    joined (leb 1 counter && leb counter 8) (not b) (not c && true) (not w && (eqb counter 1 && not r)) h.0 k.0 k.1 h.2
stays (suc (suc zero)) counter a b c d w r in_byte x v e =
    let h = parts (leb 1 counter && leb counter 8) (not a) (not b && true) (not w && (eqb counter 1 && not r)) e in
    joined (leb 1 counter && leb counter 8) (not b) true (not w && (eqb counter 1 && not r)) h.0
    (both_true (not b) true h.1).0 refl h.2
stays (suc (suc (suc zero))) counter a b c d w r in_byte x v e =
    let h = both_true (leb 1 counter && leb counter 8) (not a && true && (not w && (eqb counter 1 && not r))) e in
    true_both (leb 1 counter && leb counter 8) true h.0 refl
stays (suc (suc (suc (suc zero)))) counter a b c d w r in_byte x v e =
    let k = cond (not v && (w && r)) 2 (counter % 8 + 1) in
    true_both (leb 1 k && leb k 8) true (counts_on (not v && (w && r)) counter) refl
stays (suc (suc (suc (suc (suc n))))) counter a b c d w r in_byte x v e =
    let most = seen_at_most (record { oldest = a; older = b; newer = c; newest = d; seen = suc (suc (suc (suc (suc n)))); voted = w; counter = counter; realigns = r }) e in
    absurd (omega arith)

pub stays_sound : (s : BitClock) (in_byte x v : Bool) → sound_clock s ≡ true → sound_clock (after s in_byte x v) ≡ true
stays_sound s in_byte x v e = stays s.seen s.counter s.oldest s.older s.newer s.newest s.voted s.realigns in_byte x v e
