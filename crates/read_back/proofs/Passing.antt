-- Runs over samples of which at most one strobes a bit.
use Prim.Native.Nat.{ℕ, suc, ◌+◌, ◌%◌, min}
use mathlib.Core.Path.{◌≡◌, refl, ap, ap₂, ◌∙◌}
use mathlib.Core.Bool.{Bool, true, false, false≢true, not, ◌&&◌, ◌||◌, cond}
use mathlib.Core.List.{List, [], ◌∷◌, ◌++◌}
use native.Mathlib.Omega.{arith}
use lib.ListN.{length}
use Rattle.numbers.proofs.Truth.{both_true, either_true}
use Rattle.numbers.proofs.Walk.{came}
use Rattle.base_types.specs.declared.channel.Channel.{Channel}
use Rattle.bit_clock.specs.declared.BitClock.{BitClock}
use Rattle.bit_clock.specs.Clock.{remembered, vote, votes, falls, strobes, after}
use Rattle.wire_reader.specs.declared.phase.Phase.TheVariants.{Waiting}
use Rattle.wire_reader.specs.Decoder.{nothing, Place, Decoded, without, decoded, is_data, is_timed, counted}
use Rattle.wire_reader.specs.Reader.{State, Step, tick, is_idle, kept, strobed, step, run, noted}
use Rattle.read_back.proofs.Counting.{ticks, counts, later}
use Rattle.read_back.proofs.Clocks.{timely, passed, skips, go, quiet, same, same_is, same_clock, same_clock_lem, hits, arrives, finds}

abbrev pub with : BitClock → ℕ → Place → State
with clock timer p = record { clock = clock; timer = timer; place = p }

-- ---- one sample

abbrev one : Place → Place
one p = record { phase = p.phase; count = p.count; since = counted p.phase p.since; memory = p.memory }

-- Anywhere, or where the reader waits.
pub data Stands : Bool → Place → Type 0 where
  anywhere : (p : Place) → Stands false p
  waits : (m : List ℕ) → Stands true (without Waiting m)

stands_one : {w : Bool} {p : Place} → Stands w p → Stands w (one p)
stands_one (anywhere p) = anywhere (one p)
stands_one (waits m) = waits m

-- The rule, with its tests as variables.
abbrev clock_by : BitClock → Bool → Bool → Bool → BitClock
clock_by s in_byte x strobe =
    let v = vote s x in
    record {
      oldest = s.older;
      older = s.newer;
      newer = s.newest;
      newest = x;
      seen = min remembered (suc s.seen);
      voted = cond (votes s) v s.voted;
      counter = cond (votes s) (cond (falls s v) 2 (s.counter % 8 + 1)) s.counter;
      realigns = not (falls s v) && ((strobe && (v && not in_byte)) || s.realigns);
    }

abbrev step_by : Channel → BitClock → ℕ → Place → Bool → Bool → Bool → Step
step_by channel clock t p strobe has_voted v =
    let timer = cond has_voted (tick t) t in
    cond strobe
    (strobed clock (cond v timer 0) (decoded p.phase v channel (is_idle timer) p.count (counted p.phase p.since) p.memory))
    (kept clock timer p)

skip_by : {w : Bool} {p : Place} → Stands w p → (strobe v : Bool) → not strobe || (w && v) ≡ true
    → (channel : Channel) (s : BitClock) (t : ℕ) (x : Bool)
    → step_by channel (clock_by s (is_data p.phase) x strobe) t p strobe true v
    ≡ record { state = with (clock_by s false x strobe) (tick t) (one p); told = nothing }
skip_by (anywhere p) false v e channel s t x = refl
skip_by (anywhere p) true v e channel s t x = absurd (false≢true e)
skip_by (waits m) false v e channel s t x = refl
skip_by (waits m) true true e channel s t x = refl
skip_by (waits m) true false e channel s t x = absurd (false≢true e)

skip_step : {w : Bool} {p : Place} → Stands w p → (channel : Channel) (s : BitClock) (t : ℕ) (x : Bool) → skips w s x ≡ true
    → step channel (with s t p) x ≡ record { state = with (passed s x) (tick t) (one p); told = nothing }
unfolding step
skip_step {w} {p} stands channel s t x e =
    let v = vote s x in
    let h = both_true (votes s) (not (strobes s v) || (w && v)) e in
    ap (λ (b : Bool). step_by channel (after s (is_data p.phase) x v) t p (strobes s v) b v) h.0
    ∙ skip_by stands (strobes s v) v h.1 channel s t x

skip_run : {w : Bool} {p : Place} → Stands w p → (channel : Channel) (i : ℕ) (s : BitClock) (t : ℕ) (x : Bool) (l : List Bool) → skips w s x ≡ true
    → run channel i (with s t p) (x ∷ l) ≡ run channel (suc i) (with (passed s x) (tick t) (one p)) l
unfolding run
skip_run stands channel i s t x l e =
    ap (λ (r : Step). noted i r.told r.state.place.memory (run channel (suc i) r.state l)) (skip_step stands channel s t x e)

-- ---- samples that are passed

pub quiet_run : (l : List Bool) {w : Bool} {p : Place} → Stands w p → (channel : Channel) (i : ℕ) (s : BitClock) (t : ℕ) (rest : List Bool)
    → quiet w s l ≡ true
    → run channel i (with s t p) (l ++ rest) ≡ run channel (i + length l) (with (go s l) (ticks (length l) t) (later (length l) p)) rest
unfolding quiet go ticks counts
quiet_run [] {w} {p} stands channel i s t rest e = ap (λ (k : ℕ). run channel k (with s t p) rest) (omega arith)
quiet_run (x ∷ l) {w} {p} stands channel i s t rest e =
    let h = both_true (skips w s x) (quiet w (passed s x) l) e in
    let z = with (go (passed s x) l) (ticks (length l) (tick t)) (later (length l) (one p)) in
    skip_run stands channel i s t x (l ++ rest) h.0
    ∙ quiet_run l (stands_one stands) channel (suc i) (passed s x) (tick t) rest h.1
    ∙ ap (λ (k : ℕ). run channel k z rest) (omega arith)

-- ---- one strobe

-- What bit b means at a place, so many samples later.
abbrev pub meant_after : Channel → ℕ → Place → Bool → ℕ → Decoded
meant_after channel t p b n =
    decoded p.phase b channel (is_idle (ticks n t)) p.count (counts n (is_timed p.phase) p.since) p.memory

hit_run : (channel : Channel) (i : ℕ) (s : BitClock) (t : ℕ) (p : Place) (x b : Bool) (rest : List Bool)
    → votes s ≡ true → strobes s (vote s x) ≡ true → vote s x ≡ b
    → let d = meant_after channel t p b 1 in
    run channel i (with s t p) (x ∷ rest)
    ≡ noted i d.told d.place.memory
    (run channel (suc i) (with (after s (is_data p.phase) x (vote s x)) (cond b (tick t) 0) d.place) rest)
unfolding run step ticks counts
hit_run channel i s t p x b rest e f g =
    let clock = after s (is_data p.phase) x (vote s x) in
    ap (λ (r : Step). noted i r.told r.state.place.memory (run channel (suc i) r.state rest))
    (ap₂ (λ (y z : Bool). step_by channel clock t p y z (vote s x)) f e ∙ ap (step_by channel clock t p true true) g)

-- So many samples before the strobe, and behind it; `strobe` is its number in the bit, of which these samples are the last.
pub record Found (exact b : Bool) (end : ℕ → Bool → BitClock) (first : ℕ) (channel : Channel) (i : ℕ) (s : BitClock) (t : ℕ) (p : Place)
    (l rest : List Bool) : Type 0 where
  pub before : ℕ
  pub behind : ℕ
  pub strobe : ℕ
  pub realigns : Bool
  pub all : before + suc behind ≡ length l
  pub number : strobe ≡ first + before
  pub timed : timely exact strobe ≡ true
  pub goes : let d = meant_after channel t p b (suc before) in
      run channel i (with s t p) (l ++ rest)
      ≡ noted (i + before) d.told d.place.memory
      (run channel (i + length l) (with (end strobe realigns) (ticks behind (cond b (ticks (suc before) t) 0)) (later behind d.place)) rest)

module _ (exact b : Bool) (end : ℕ → Bool → BitClock) (channel : Channel) (rest : List Bool) where
  found_here : (l : List Bool) (first i : ℕ) (s : BitClock) (t : ℕ) (p : Place) (x : Bool)
      → hits exact b first s x ≡ true → arrives end first (after s (is_data p.phase) x (vote s x)) l ≡ true
      → Found exact b end first channel i s t p (x ∷ l) rest
  unfolding ticks
  found_here l first i s t p x e f =
      let v = vote s x in
      let s2 = after s (is_data p.phase) x v in
      let h = both_true (timely exact first && votes s) (strobes s v && same v b) e in
      let h1 = both_true (timely exact first) (votes s) h.0 in
      let h2 = both_true (strobes s v) (same v b) h.1 in
      let a = both_true (quiet false s2 l) (same_clock (go s2 l) (end first (go s2 l).realigns)) f in
      let d = meant_after channel t p b 1 in
      let timer = cond b (tick t) 0 in
      record {
        before = 0;
        behind = length l;
        strobe = first;
        realigns = (go s2 l).realigns;
        all = omega arith;
        number = omega arith;
        timed = h1.0;
        goes =
            hit_run channel i s t p x b (l ++ rest) h1.1 h2.0 (same_is v b h2.1)
            ∙ ap (noted i d.told d.place.memory)
            (quiet_run l (anywhere d.place) channel (suc i) s2 timer rest a.0
            ∙ ap (λ (z : BitClock). run channel (suc i + length l) (with z (ticks (length l) timer) (later (length l) d.place)) rest)
            (same_clock_lem (go s2 l) (end first (go s2 l).realigns) a.1))
            ∙ ap₂ (λ (k n : ℕ). noted k d.told d.place.memory
            (run channel n (with (end first (go s2 l).realigns) (ticks (length l) timer) (later (length l) d.place)) rest))
            (omega arith) (omega arith);
      }

  found_later : (l : List Bool) (first i : ℕ) (s : BitClock) (t : ℕ) {w : Bool} {p : Place} → Stands w p → (x : Bool) → skips w s x ≡ true
      → Found exact b end (suc first) channel (suc i) (passed s x) (tick t) (one p) l rest → Found exact b end first channel i s t p (x ∷ l) rest
  unfolding ticks counts
  found_later l first i s t {w} {p} stands x e r =
      let d = meant_after channel t p b (suc (suc r.before)) in
      record {
        before = suc r.before;
        behind = r.behind;
        strobe = r.strobe;
        realigns = r.realigns;
        all = omega (arith, r.all);
        number = omega (arith, r.number);
        timed = r.timed;
        goes =
            skip_run stands channel i s t x (l ++ rest) e
            ∙ r.goes
            ∙ ap₂ (λ (k n : ℕ). noted k d.told d.place.memory
            (run channel n
            (with (end r.strobe r.realigns) (ticks r.behind (cond b (ticks (suc (suc r.before)) t) 0)) (later r.behind d.place)) rest))
            (omega arith) (omega arith);
      }

  pub found : (l : List Bool) (first i : ℕ) (s : BitClock) (t : ℕ) {w : Bool} {p : Place} → Stands w p
      → finds exact w (is_data p.phase) b end first s l ≡ true → Found exact b end first channel i s t p l rest
  unfolding finds
  found [] first i s t stands e = absurd (false≢true e)
  found (x ∷ l) first i s t {w} {p} stands e =
      let in_byte = is_data p.phase in
      let s2 = after s in_byte x (vote s x) in
      let skip = skips w s x && finds exact w in_byte b end (suc first) (passed s x) l in
      let hit = hits exact b first s x && arrives end first s2 l in
      came (either_true skip hit e)
      (λ q. let h = both_true (skips w s x) (finds exact w in_byte b end (suc first) (passed s x) l) q in
      found_later l first i s t stands x h.0 (found l (suc first) (suc i) (passed s x) (tick t) (stands_one stands) h.1))
      (λ q. let h = both_true (hits exact b first s x) (arrives end first s2 l) q in
      found_here l first i s t p x h.0 h.1)
