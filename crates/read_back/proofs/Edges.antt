-- The reader from the beginning of a bit to its end, where the bit's samples are changed harmlessly.
use Prim.Native.Nat.{ℕ, suc, ◌+◌, ◌≤◌, min}
use mathlib.Core.Path.{◌≡◌, refl, ap, ap₂, ◌∙◌, subst}
use mathlib.Core.Bool.{Bool, true, false, cond}
use mathlib.Core.List.{List, ◌∷◌, ◌++◌}
use native.Mathlib.Omega.{arith}
use borrow.Author.Tests.{eq-eqb}
use Rattle.numbers.proofs.Truth.{both_true}
use Rattle.division.specs.Division.{◌⊕◌}
use Rattle.base_types.specs.declared.channel.Channel.{Channel}
use Rattle.bit_clock.specs.declared.BitClock.{BitClock}
use Rattle.wire_reader.specs.declared.phase.Phase.TheVariants.{Waiting}
use Rattle.wire_reader.specs.Decoder.{Place, without, decoded, is_data, is_timed}
use Rattle.wire_reader.specs.Reader.{is_idle, fresh, step, run, noted}
use Rattle.read_back.proofs.Course.{plus8, meant, reached}
use Rattle.read_back.proofs.Counting.{ticks, ticks_min, ticks_le, counts, counts_some, later, at_end}
use Rattle.read_back.proofs.Patterns.{Flips, Calm, next8}
use Rattle.read_back.proofs.Clocks.{near, eight, timely, timely_says, go, quiet, same_clock, same_clock_lem, finds}
use Rattle.read_back.proofs.Cells.{cell, low_bit, idle_bit, fourth, twelve, fresh_bits}
use Rattle.read_back.proofs.Passing.{with, Stands, anywhere, waits, quiet_run, found}

-- ---- a bit that is strobed once

-- From the clock s, bit b.
pub record Cell (exact : Bool) (channel : Channel) (i : ℕ) (s : BitClock) (t : ℕ) (p : Place) (b : Bool) (f : Flips) (rest : List Bool) : Type 0 where
  pub idle : Bool
  pub strobe : ℕ
  pub realigns : Bool
  pub timer : ℕ
  pub timed : timely exact strobe ≡ true
  pub small : timer ≤ 88
  pub full : 82 ≤ t → t ≤ 88 → idle ≡ true
  pub goes : let d = meant channel idle strobe p b in
      run channel i (with s t p) (eight b f ++ rest)
      ≡ noted (i + strobe) d.told d.place.memory
      (run channel (plus8 i) (with (near b (next8 f) strobe realigns) timer (reached strobe p d.place)) rest)

timer_le : (b : Bool) (n j t : ℕ) → ticks n (cond b (ticks (suc j) t) 0) ≤ 88
unfolding ticks
timer_le true n j t = ticks_le n (ticks (suc j) t) (ticks_le j (min 88 (suc t)) (omega arith))
timer_le false n j t = ticks_le n 0 (omega arith)

module _ (exact : Bool) (channel : Channel) (i : ℕ) (t : ℕ) (f : Flips) (rest : List Bool) where
  cell_of : (s : BitClock) (b : Bool) {w : Bool} {p : Place} → Stands w p
      → finds exact w (is_data p.phase) b (near b (next8 f)) 0 s (eight b f) ≡ true → Cell exact channel i s t p b f rest
  cell_of s b {w} {p} stands e =
      let r = found exact b (near b (next8 f)) channel rest (eight b f) 0 i s t stands e in
      let j = r.before in
      let n = r.behind in
      let timer = ticks n (cond b (ticks (suc j) t) 0) in
      let idle = is_idle (ticks (suc j) t) in
      let d = meant channel idle j p b in
      let same : r.strobe ≡ j = omega (arith, r.number) in
      let timed = subst (λ (k : ℕ). timely exact k ≡ true) same r.timed in
      let from = (timely_says exact j timed).0 in
      let on : i + 8 ≡ plus8 i = omega arith in
      record {
        idle = idle;
        strobe = j;
        realigns = r.realigns;
        timer = timer;
        timed = timed;
        small = timer_le b n j t;
        full = (λ h g. eq-eqb (ticks (suc j) t) 88 (ticks_min (suc j) t g ∙ omega arith));
        goes =
            r.goes
            ∙ ap (λ (c : ℕ). let d = decoded p.phase b channel idle p.count c p.memory in
            noted (i + j) d.told d.place.memory
            (run channel (i + 8) (with (near b (next8 f) r.strobe r.realigns) timer (later n d.place)) rest))
            (counts_some j (is_timed p.phase) p.since)
            ∙ ap₂ (λ (k : ℕ) (q : Place). noted (i + j) d.told d.place.memory
            (run channel k (with (near b (next8 f) r.strobe r.realigns) timer q) rest)) on (at_end channel idle j n p b r.all)
            ∙ ap (λ (k : ℕ). noted (i + j) d.told d.place.memory
            (run channel (plus8 i) (with (near b (next8 f) k r.realigns) timer (reached j p d.place)) rest)) same;
      }

  -- behind a bit that was strobed in time
  pub near_cell : (b a : Bool) (j : ℕ) (p : Place) (next : Bool) → timely exact j ≡ true → Calm exact f
      → Cell exact channel i (near b f j a) t p next f rest
  near_cell b a j p next h c = cell_of (near b f j a) next (anywhere p) (cell exact b a (is_data p.phase) next j f h c)

  -- the first low bit behind idle ones
  pub low_cell : (j : ℕ) (m : List ℕ) → 5 ≤ j → j ≤ 8 → Calm exact f → Cell exact channel i (near true f j true) t (without Waiting m) false f rest
  low_cell j m from to c = cell_of (near true f j true) false (waits m) (low_bit exact j f from to c)

  -- ---- idle bits

  pub idle_cell : (a : Bool) (j : ℕ) (m : List ℕ) → 5 ≤ j → j ≤ 8 → t ≤ 88 → Calm exact f
      → run channel i (with (near true f j a) t (without Waiting m)) (eight true f ++ rest)
      ≡ run channel (i + 8) (with (near true (next8 f) j true) (min 88 (t + 8)) (without Waiting m)) rest
  unfolding counts
  idle_cell a j m from to small c =
      let s = near true f j a in
      let l = eight true f in
      let h = both_true (quiet true s l) (same_clock (go s l) (near true (next8 f) j true)) (idle_bit exact a j f from to c) in
      quiet_run l (waits m) channel i s t rest h.0
      ∙ ap₂ (λ (z : BitClock) (n : ℕ). run channel (i + 8) (with z n (without Waiting m)) rest)
      (same_clock_lem (go s l) (near true (next8 f) j true) h.1) (ticks_min 8 t small)

-- ---- from the beginning

four : (channel : Channel) (i : ℕ) (m : List ℕ) (f : Flips) (rest : List Bool)
    → run channel i (fresh m) ((f 0 ⊕ true) ∷ (f 1 ⊕ true) ∷ (f 2 ⊕ true) ∷ (f 3 ⊕ true) ∷ rest)
    ≡ run channel (suc (suc (suc (suc i)))) (with (fourth f) 0 (without Waiting m)) rest
unfolding run step
four channel i m f rest = refl

pub fresh_cells : (exact : Bool) (channel : Channel) (i : ℕ) (m : List ℕ) (f : Flips) (rest : List Bool) → Calm exact f
    → run channel i (fresh m) ((f 0 ⊕ true) ∷ (f 1 ⊕ true) ∷ (f 2 ⊕ true) ∷ (f 3 ⊕ true) ∷ (twelve f ++ rest))
    ≡ run channel (suc (suc (suc (suc i))) + 12) (with (near true (λ n. next8 f (suc (suc (suc (suc n))))) 8 true) 12 (without Waiting m)) rest
unfolding counts
fresh_cells exact channel i m f rest c =
    let s = fourth f in
    let l = twelve f in
    let z = near true (λ n. next8 f (suc (suc (suc (suc n))))) 8 true in
    let h = both_true (quiet true s l) (same_clock (go s l) z) (fresh_bits exact f c) in
    four channel i m f (l ++ rest)
    ∙ quiet_run l (waits m) channel (suc (suc (suc (suc i)))) s 0 rest h.0
    ∙ ap₂ (λ (z : BitClock) (n : ℕ). run channel (suc (suc (suc (suc i))) + 12) (with z n (without Waiting m)) rest)
    (same_clock_lem (go s l) z h.1) (ticks_min 12 0 (omega arith))
