-- One frame that is sent behind idle bits is told, at most one sample early or late, and the reader waits for the next.
use Prim.Native.Nat.{ℕ, zero, suc, ◌+◌, ◌*◌, ◌-◌, ◌≤◌, min}
use mathlib.Core.Path.{◌≡◌, refl, ap, ap₂, ◌∙◌}
use mathlib.Core.Bool.{Bool, true, false, cond}
use mathlib.Core.List.{List, [], ◌∷◌, ◌++◌}
use native.Mathlib.Omega.{arith}
use lib.ListN.{length, replicate}
use Rattle.refusal.specs.Refusal.{first}
use Rattle.division.specs.Bits.{AreBytes}
use Rattle.lent_bytes.specs.Over.{over}
use Rattle.base_types.specs.declared.channel.Channel.{Channel}
use Rattle.frame.specs.Read.{refusals_on}
use Rattle.wire.specs.Stream.{high, low, coded, stream}
use Rattle.wire.proofs.PackingLaws.{length-stream}
use Rattle.wire_reader.specs.declared.phase.Phase.TheVariants.{Waiting, Start}
use Rattle.wire_reader.specs.Decoder.{Place, without, entered}
use Rattle.wire_reader.specs.Reader.{State, Run, fresh, run}
use Rattle.read_back.specs.Sending.{sampled}
use Rattle.read_back.proofs.Course.{plus8, reached}
use Rattle.read_back.proofs.Patterns.{Flips, Calm, next8, calm_next8, calm_next12}
use Rattle.read_back.proofs.Clocks.{near, eight, timely, timely_says}
use Rattle.read_back.proofs.Passing.{with}
use Rattle.read_back.proofs.Edges.{low_cell, idle_cell, fresh_cells}
use Rattle.read_back.proofs.Lifting.{flipped, past4, Edge, behind, beside, last_of, lift}
use Rattle.read_back.proofs.Following.{told, frame_follow}

-- ---- idle bits

module _ {exact : Bool} where
  -- A reader that waits.
  abbrev pub waiting : Edge exact → List ℕ → State
  waiting e m = behind true e (without Waiting m)

  idled : Edge exact → Edge exact
  idled e =
      record {
        flips = next8 e.flips;
        calm = calm_next8 e.calm;
        strobe = e.strobe;
        from = e.from;
        to = e.to;
        realigns = true;
        timer = min 88 (e.timer + 8);
        small = omega arith;
      }

  unfoldable idles : ℕ → Edge exact → Edge exact
  idles zero e = e
  idles (suc k) e = idles k (idled e)

  idles_realigns : (k : ℕ) (e : Edge exact) → e.realigns ≡ true → (idles k e).realigns ≡ true
  unfolding idles idled
  idles_realigns zero e h = h
  idles_realigns (suc k) e h = idles_realigns k (idled e) refl

  some_realigns : (k : ℕ) (e : Edge exact) → 1 ≤ k → (idles k e).realigns ≡ true
  unfolding idles idled
  some_realigns zero e h = absurd (omega arith)
  some_realigns (suc k) e h = idles_realigns k (idled e) refl

  idles_timer : (k : ℕ) (e : Edge exact) → (idles k e).timer ≡ min 88 (e.timer + 8 * k)
  unfolding idles idled
  idles_timer zero e = omega (arith, e.small)
  idles_timer (suc k) e = idles_timer k (idled e) ∙ omega arith

  idle_run : (k : ℕ) (e : Edge exact) (channel : Channel) (i : ℕ) (m : List ℕ) (bits rest : List Bool)
      → run channel i (waiting e m) (flipped (past4 e.flips) (sampled (replicate k high ++ bits) ++ rest))
      ≡ run channel (i + 8 * k) (waiting (idles k e) m) (flipped (past4 (idles k e).flips) (sampled bits ++ rest))
  unfolding idles idled sampled flipped
  idle_run zero e channel i m bits rest =
      ap (λ (n : ℕ). run channel n (waiting e m) (flipped (past4 e.flips) (sampled bits ++ rest))) (omega arith)
  idle_run (suc k) e channel i m bits rest =
      let q = idles k (idled e) in
      idle_cell exact channel i e.timer e.flips (flipped (past4 (next8 e.flips)) (sampled (replicate k high ++ bits) ++ rest))
      e.realigns e.strobe m e.from e.to e.small e.calm
      ∙ idle_run k (idled e) channel (i + 8) m bits rest
      ∙ ap (λ (n : ℕ). run channel n (waiting q m) (flipped (past4 q.flips) (sampled bits ++ rest))) (omega arith)

-- ---- the last bit of a stream is high

last_append : (l m : List Bool) (b : Bool) → last_of b (l ++ m) ≡ last_of (last_of b l) m
unfolding last_of
last_append [] m b = refl
last_append (x ∷ l) m b = last_append l m x

last_stream : (n : ℕ) (bytes : List ℕ) (b : Bool) → last_of b (stream n bytes) ≡ high
unfolding last_of stream
last_stream n bytes b =
    let end = low ∷ high ∷ [] in
    last_append (replicate n low) (high ∷ (coded bytes ++ end)) b ∙ last_append (coded bytes) end high

-- ---- a frame

-- After `idle` idle bits and a start of this length: the frame is told, and nothing else, and then the others come.
pub record Sent (exact : Bool) (channel : Channel) (i : ℕ) (before : State) (samples : List Bool) (idle start : ℕ) (bytes m : List ℕ)
    (rest : List Bool) : Type 0 where
  pub end : ℕ
  pub reference : ℕ
  pub end_timed : timely exact end ≡ true
  pub reference_timed : timely exact reference ≡ true
  pub edge : Edge exact
  pub goes : let size = length bytes in
      run channel i before samples
      ≡ beside (told m (i + 8 * (idle + start + 1 + 10 * size) + end) (80 * size - 8 + end - reference) bytes).events
      (run channel (i + 8 * (idle + start + 10 * size + 3)) (waiting edge (over bytes m)) (flipped (past4 edge.flips) rest))

module _ (exact : Bool) (channel : Channel) (bytes : List ℕ) (none : first (refusals_on channel bytes) ≡ 0) (are : AreBytes bytes) (m : List ℕ)
    (room : length bytes ≤ length m) where
  -- from the first low bit on
  from_low : (e : Edge exact) (i n : ℕ) (rest : List Bool) → n ≤ 14 → e.realigns ≡ true → 82 ≤ e.timer
      → Sent exact channel i (waiting e m) (flipped (past4 e.flips) (sampled (stream (suc n) bytes) ++ rest)) 0 (suc n) bytes m rest
  unfolding stream sampled flipped
  from_low e i n rest short realigns full =
      let f = e.flips in
      let more = flipped (past4 (next8 f)) (sampled (stream n bytes) ++ rest) in
      let c = low_cell exact channel i e.timer f more e.strobe m e.from e.to e.calm in
      let r = lift (stream n bytes) exact channel (plus8 i) false c.realigns c.strobe (next8 f) c.timer (without (Start 1) m) rest
      c.timed (calm_next8 e.calm) c.small in
      let end = r.course.strobe (n + (1 + 10 * length bytes)) in
      let reference = r.course.strobe (n + 2) in
      let in_time = timely_says exact reference (r.timed (n + 2)) in
      let since = 80 * length bytes - 8 + end - reference in
      let sample = plus8 i + 8 * (n + 1 + 10 * length bytes) + end in
      let next = i + 8 * (0 + suc n + 10 * length bytes + 3) in
      let last : plus8 i + 8 * length (stream n bytes) ≡ next = omega (arith, length-stream n bytes) in
      let on : ℕ → Bool → Place → Run State = λ k b p. run channel k (behind b r.edge p) (flipped (past4 r.edge.flips) rest) in
      let waits = without Waiting (over bytes m) in
      record {
        end = end;
        reference = reference;
        end_timed = r.timed (n + (1 + 10 * length bytes));
        reference_timed = r.timed (n + 2);
        edge = r.edge;
        goes =
            ap (λ (a : Bool). run channel i (with (near true f e.strobe a) e.timer (without Waiting m)) (eight false f ++ more)) realigns
            ∙ c.goes
            ∙ ap (λ (b : Bool). run channel (plus8 i) (with (near false (next8 f) c.strobe c.realigns) c.timer
            (reached c.strobe (without Waiting m) (entered (cond b (Start 1) Waiting) m).place)) more) (c.full full e.small)
            ∙ r.goes
            ∙ ap (λ (q : Run Place). beside q.events (on (plus8 i + 8 * length (stream n bytes)) (last_of false (stream n bytes)) q.state))
            (frame_follow channel bytes none m room n r.course (plus8 i) 1 end reference (omega arith) are refl refl in_time.1)
            ∙ ap₂ (λ (k : ℕ) (b : Bool). beside (told m sample since bytes).events (on k b waits)) last (last_stream n bytes false)
            ∙ ap (λ (x : ℕ). beside (told m x since bytes).events (on next true waits)) (omega arith);
      }

  -- `more` idle bits that change nothing else come before
  after_idle : {i k : ℕ} {s s2 : State} {l l2 : List Bool} (all more idle start : ℕ) {rest : List Bool}
      → run channel i s l ≡ run channel k s2 l2 → k ≡ i + 8 * more → all ≡ more + idle
      → Sent exact channel k s2 l2 idle start bytes m rest → Sent exact channel i s l all start bytes m rest
  after_idle all more idle start {rest} e is sum r =
      let z : ℕ → Run State = λ n. run channel n (waiting r.edge (over bytes m)) (flipped (past4 r.edge.flips) rest) in
      let since = 80 * length bytes - 8 + r.end - r.reference in
      record {
        end = r.end;
        reference = r.reference;
        end_timed = r.end_timed;
        reference_timed = r.reference_timed;
        edge = r.edge;
        goes = e ∙ r.goes ∙ ap₂ (λ (x y : ℕ). beside (told m x since bytes).events (z y)) (omega arith) (omega arith);
      }

  -- from a reader that waits
  pub from_waiting : (e : Edge exact) (i k start : ℕ) (rest : List Bool) → 1 ≤ k → 82 ≤ e.timer + 8 * k → 1 ≤ start → start ≤ 15
      → let samples = sampled (replicate k high ++ stream start bytes) ++ rest in
      Sent exact channel i (waiting e m) (flipped (past4 e.flips) samples) k start bytes m rest
  from_waiting e i k zero rest some full shortest longest = absurd (omega arith)
  from_waiting e i k (suc n) rest some full shortest longest =
      after_idle k k 0 (suc n) (idle_run k e channel i m (stream (suc n) bytes) rest) refl (omega arith)
      (from_low (idles k e) (i + 8 * k) n rest (omega arith) (some_realigns k e some) (omega (arith, idles_timer k e)))

  -- from the beginning
  pub from_fresh : (f : Flips) → Calm exact f → (i k start : ℕ) (rest : List Bool) → 11 ≤ k → 1 ≤ start → start ≤ 15
      → Sent exact channel i (fresh m) (flipped f (sampled (replicate k high ++ stream start bytes) ++ rest)) k start bytes m rest
  unfolding sampled flipped
  from_fresh f c i zero start rest enough shortest longest = absurd (omega arith)
  from_fresh f c i (suc zero) start rest enough shortest longest = absurd (omega arith)
  from_fresh f c i (suc (suc k)) start rest enough shortest longest =
      let e : Edge exact = record {
        flips = (λ n. next8 f (suc (suc (suc (suc n)))));
        calm = calm_next12 c;
        strobe = 8;
        from = omega arith;
        to = omega arith;
        realigns = true;
        timer = 12;
        small = omega arith;
      } in
      let i2 = suc (suc (suc (suc i))) + 12 in
      after_idle (suc (suc k)) 2 k start
      (fresh_cells exact channel i m f (flipped (past4 e.flips) (sampled (replicate k high ++ stream start bytes) ++ rest)) c)
      (omega arith) (omega arith) (from_waiting e i2 k start rest (omega arith) (omega arith) shortest longest)
