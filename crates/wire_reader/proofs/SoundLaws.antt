-- A sound reader stays one.
use Prim.Native.Nat.{ℕ, zero, suc, ◌+◌, ◌*◌, ◌%◌, ◌≤◌, min}
use mathlib.Core.Path.{◌≡◌, refl, sym, ap, ◌∙◌, subst}
use mathlib.Core.Bool.{Bool, true, false, false≢true, not, ◌&&◌, ◌||◌, cond}
use mathlib.Core.List.{List}
use native.Mathlib.Omega.{arith}
use borrow.Author.Tests.{le-leb, leb-true, leb-false, eq-eqb, eqb-true, ltb-true, ltb-false}
use lib.Dec.{eqb, ltb, leb}
use lib.ListN.{length, take, drop, set, length-set}
use lib.Seq.{length-take-le}
use Rattle.numbers.proofs.Truth.{both_true, true_both, either_true, true_left, true_right}
use Rattle.numbers.proofs.Walk.{cases, cases_in, came}
use Rattle.division.specs.Bits.{bit, bytes_bits}
use Rattle.division.proofs.BytesLaws.{number_take-lt}
use Rattle.header.specs.Layout.{header_in}
use Rattle.base_types.specs.declared.channel.Channel.{Channel}
use Rattle.frame.specs.Read as read
use Rattle.bit_clock.specs.declared.BitClock.{BitClock}
use Rattle.bit_clock.specs.Clock.{votes, vote, falls, strobes, after, sound_clock}
use Rattle.bit_clock.proofs.SoundLaws.{stays_sound, counter_in}
use Rattle.wire_reader.specs.declared.phase.Phase.{Phase}
use Rattle.wire_reader.specs.declared.phase.Phase.TheVariants.{Waiting, Start, FrameStart, ByteStart, ByteStartLow, Byte, End, EndHigh}
use Rattle.wire_reader.specs.Decoder.{Place, Decoded, moved, failed, entered, header_wrong, checksums_of, complete, behind_byte, decoded, is_data, counted}
use Rattle.wire_reader.specs.Reader.{State, is_idle, kept, strobed, ticked, step, reader_of}
use Rattle.wire_reader.specs.declared.reader.Reader.{Reader}
use Rattle.wire_reader.specs.Sound.{slack_of, sound_phase, sound_timer, is_waiting, sound}
use Rattle.wire_reader.proofs.PhaseLaws.{Fine, fine, is_sound, one_more_bit}

-- ---- without a strobe

-- the samples since the reference point go up by one, and so does what is allowed
pub still_fine : (phase : Phase) (count since slack more : ℕ) → Fine phase count since slack → (is_waiting phase ≡ false → suc slack ≤ more)
    → Fine phase count (counted phase since) more
still_fine Waiting count since slack more f h = (f.0, refl)
still_fine (Start n) count since slack more f h = (f.0, f.1, f.2, refl)
still_fine (FrameStart n) count since slack more f h = (f.0, f.1, f.2, refl)
still_fine ByteStart count since slack more f h = let k = h refl in (f.0, f.1, omega arith)
still_fine ByteStartLow count since slack more f h = let k = h refl in (f.0, f.1, omega arith)
still_fine (Byte n value) count since slack more f h = let k = h refl in (f.0, f.1, f.2, omega arith)
still_fine End count since slack more f h = let k = h refl in (f.0, f.1, omega arith)
still_fine EndHigh count since slack more f h = (f.0, refl)

-- ---- with one

abbrev pub FinePlace : Place → ℕ → Type 0
FinePlace p slack = Fine p.phase p.count p.since slack

fine_if : (b : Bool) (d e : Decoded) (slack : ℕ) → (b ≡ true → FinePlace d.place slack) → (b ≡ false → FinePlace e.place slack)
    → FinePlace (cond b d e).place slack
fine_if true d e slack f g = f refl
fine_if false d e slack f g = g refl

-- a header has at most 127 words
words_le : (bytes : List ℕ) → (read.header_read bytes).words ≤ 127
unfolding header_in
words_le bytes = let h = number_take-lt 7 (drop (5 + 11) (bytes_bits bytes)) in omega arith

behind_fine : (count since slack : ℕ) (memory : List ℕ) → 1 ≤ count → count ≤ 262 → count ≤ length memory → since ≤ 12 * (10 * count)
    → FinePlace (behind_byte count since memory).place slack
unfolding complete
behind_fine count since slack memory low high room bound =
    let l = take count memory in
    let n : length l ≡ count = length-take-le count memory room in
    let w = words_le l in
    fine_if (header_wrong l) (failed (read.refused_with 4 (checksums_of l)) memory) (moved (cond (complete l) End ByteStart) count since memory) slack
    (λ e. (refl, refl))
    (λ e. cases_in (λ (b : Bool). FinePlace (moved (cond b End ByteStart) count since memory).place slack) (complete l)
    (λ q. let k = leb-true (8 + 2 * (read.header_read l).words) (length l) q in (omega arith, high, omega arith))
    (λ q. let k = leb-false (8 + 2 * (read.header_read l).words) (length l) q in (low, omega arith, omega arith)))

pub decoded_fine : (phase : Phase) (b : Bool) (channel : Channel) (idle : Bool) (count since slack more : ℕ) (memory : List ℕ)
    → Fine phase count since slack → slack ≤ 11 → 262 ≤ length memory
    → FinePlace (decoded phase b channel idle count (counted phase since) memory).place more
decoded_fine Waiting true channel idle count since slack more memory f h room = (refl, refl)
decoded_fine Waiting false channel true count since slack more memory f h room = (omega arith, omega arith, refl, refl)
decoded_fine Waiting false channel false count since slack more memory f h room = (refl, refl)
decoded_fine (Start n) true channel idle count since slack more memory f h room = (omega arith, omega arith, refl, refl)
decoded_fine (Start n) false channel idle count since slack more memory f h room =
    fine_if (ltb n 17) (entered (Start (n + 1)) memory) (failed (read.refused 30) memory) more
    (λ e. let k = ltb-true n 17 e in (omega arith, omega arith, refl, refl))
    (λ e. (refl, refl))
decoded_fine (FrameStart n) true channel idle count since slack more memory f h room =
    fine_if (ltb n 3) (entered (FrameStart (n + 1)) memory) (failed (read.refused 31) memory) more
    (λ e. let k = ltb-true n 3 e in (omega arith, omega arith, refl, refl))
    (λ e. (refl, refl))
decoded_fine (FrameStart n) false channel idle count since slack more memory f h room = (omega arith, refl, omega arith, omega arith)
decoded_fine ByteStart true channel idle count since slack more memory f h room = (f.0, f.1, omega arith)
decoded_fine ByteStart false channel idle count since slack more memory f h room = (refl, refl)
decoded_fine ByteStartLow false channel idle count since slack more memory f h room = (omega arith, refl, f.1, omega arith)
decoded_fine ByteStartLow true channel idle count since slack more memory f h room = (refl, refl)
decoded_fine (Byte n value) b channel idle count since slack more memory f h room =
    let v = value * 2 + bit b in
    fine_if (ltb n 7) (moved (Byte (n + 1) v) count (suc since) memory) (behind_byte (count + 1) (suc since) (set memory count v)) more
    (λ e. let k = ltb-true n 7 e in (omega arith, one_more_bit n value b (omega arith) f.1, f.2, omega arith))
    (λ e. let k = ltb-false n 7 e in
    let long = length-set memory count v in
    behind_fine (count + 1) (suc since) more (set memory count v) (omega arith) (omega arith) (omega arith) (omega arith))
decoded_fine End true channel idle count since slack more memory f h room = (refl, refl)
decoded_fine End false channel idle count since slack more memory f h room =
    let t = read.rule_on channel (take count memory) in
    fine_if (eqb t.number 0) _ (failed t memory) more (λ e. (refl, refl)) (λ e. (refl, refl))
decoded_fine EndHigh true channel idle count since slack more memory f h room = (refl, refl)
decoded_fine EndHigh false channel idle count since slack more memory f h room = (refl, refl)

-- ---- how far the counter is from the last strobe

pub slack_le : (clock : BitClock) → slack_of clock ≤ 11
slack_le clock = bounded clock.realigns clock.counter
  where
    bounded : (b : Bool) (c : ℕ) → (c + 2) % 8 + cond b 0 4 ≤ 11
    bounded true c = omega arith
    bounded false c = omega arith

no_edge : (c k : ℕ) → 1 ≤ c → c ≤ 8 → (c ≡ 5 → ⊥) → suc ((c + 2) % 8 + k) ≤ (c % 8 + 1 + 2) % 8 + k
no_edge zero k g h n = absurd (omega arith)
no_edge (suc zero) k g h n = omega arith
no_edge (suc (suc zero)) k g h n = omega arith
no_edge (suc (suc (suc zero))) k g h n = omega arith
no_edge (suc (suc (suc (suc zero)))) k g h n = omega arith
no_edge (suc (suc (suc (suc (suc zero))))) k g h n = absurd (n refl)
no_edge (suc (suc (suc (suc (suc (suc zero)))))) k g h n = omega arith
no_edge (suc (suc (suc (suc (suc (suc (suc zero))))))) k g h n = omega arith
no_edge (suc (suc (suc (suc (suc (suc (suc (suc zero)))))))) k g h n = omega arith
no_edge (suc (suc (suc (suc (suc (suc (suc (suc (suc c))))))))) k g h n = absurd (omega arith)

slack_steps : (realigns falling strobe high : Bool) (c : ℕ) → 1 ≤ c → c ≤ 8 → (falling ≡ true → realigns ≡ true)
    → (falling ≡ false → c ≡ 5 → ⊥) → strobe ≡ false
    → suc ((c + 2) % 8 + cond realigns 0 4)
    ≤ (cond falling 2 (c % 8 + 1) + 2) % 8 + cond (not falling && ((strobe && high) || realigns)) 0 4
slack_steps realigns falling true high c g h r n s = absurd (false≢true (sym s))
slack_steps true true false high c g h r n s = omega arith
slack_steps false true false high c g h r n s = absurd (false≢true (r refl))
slack_steps true false false high c g h r n s = no_edge c 0 g h (n refl)
slack_steps false false false high c g h r n s = no_edge c 4 g h (n refl)

pub slack_grows : (clock : BitClock) (in_byte x v : Bool) → sound_clock clock ≡ true → votes clock ≡ true → strobes clock v ≡ false
    → suc (slack_of clock) ≤ slack_of (after clock in_byte x v)
slack_grows clock in_byte x v e t s =
    let c = counter_in clock e in
    subst (λ (b : Bool). suc (slack_of clock)
    ≤ (cond b (cond (falls clock v) 2 (clock.counter % 8 + 1)) clock.counter + 2) % 8
    + cond (not (falls clock v) && ((strobes clock v && (v && not in_byte)) || clock.realigns)) 0 4) (sym t)
    (slack_steps clock.realigns (falls clock v) (strobes clock v) (v && not in_byte) clock.counter c.0 c.1 edge not_yet s)
  where
    edge : falls clock v ≡ true → clock.realigns ≡ true
    edge q =
        let h = both_true (votes clock) (not v && (clock.voted && clock.realigns)) q in
        (both_true clock.voted clock.realigns (both_true (not v) (clock.voted && clock.realigns) h.1).1).1

    not_yet : falls clock v ≡ false → clock.counter ≡ 5 → ⊥
    not_yet q five =
        false≢true (sym s ∙ true_both (votes clock) (not (falls clock v) && eqb clock.counter 5) t
        (true_both (not (falls clock v)) (eqb clock.counter 5) (ap not q) (eq-eqb clock.counter 5 five)))

-- ---- the timer

on_votes : (clock : BitClock) (in_byte x v : Bool) → votes clock ≡ true → votes (after clock in_byte x v) ≡ true
on_votes clock in_byte x v t = let four = eqb-true clock.seen 4 t in eq-eqb (min 4 (suc clock.seen)) 4 (omega arith)

ticked_le : (b : Bool) (timer : ℕ) → timer ≤ 88 → cond b (min 88 (suc timer)) timer ≤ 88
ticked_le true timer h = omega arith
ticked_le false timer h = h

module _ (clock : BitClock) (timer : ℕ) (phase : Phase) (e : sound_timer (votes clock) timer phase ≡ true) where
  timer_le : ticked clock timer ≤ 88
  timer_le =
      ticked_le (votes clock) timer (leb-true timer 88 (both_true (leb timer 88) (votes clock || (eqb timer 0 && is_waiting phase)) e).0)

  not_voted : votes clock ≡ false → eqb timer 0 && is_waiting phase ≡ true
  not_voted t =
      came (either_true (votes clock) (eqb timer 0 && is_waiting phase)
      (both_true (leb timer 88) (votes clock || (eqb timer 0 && is_waiting phase)) e).1)
      (λ a. absurd (false≢true (sym t ∙ a))) (λ a. a)

  -- outside a frame nothing has begun before the first vote
  has_voted : is_waiting phase ≡ false → votes clock ≡ true
  has_voted w =
      cases (votes clock) (λ t. t)
      (λ t. absurd (false≢true (sym w ∙ (both_true (eqb timer 0) (is_waiting phase) (not_voted t)).1)))

  timer_sound : (in_byte x v : Bool) → sound_timer (votes (after clock in_byte x v)) (ticked clock timer) phase ≡ true
  timer_sound in_byte x v =
      let next = votes (after clock in_byte x v) in
      let now = ticked clock timer in
      true_both (leb now 88) (next || (eqb now 0 && is_waiting phase)) (le-leb now 88 timer_le)
      (cases (votes clock)
      (λ t. true_left next (eqb now 0 && is_waiting phase) (on_votes clock in_byte x v t))
      (λ t. true_right next (eqb now 0 && is_waiting phase)
      (ap (λ (b : Bool). eqb (cond b (min 88 (suc timer)) timer) 0 && is_waiting phase) t ∙ not_voted t)))

-- ---- a whole reader

abbrev pub next_reader : Channel → BitClock → ℕ → Place → Reader
next_reader channel clock timer p =
    record { channel = channel; clock = clock; timer = timer; phase = p.phase; count = p.count; since = p.since }

module _ (r : Reader) (e : sound r ≡ true) where
  abbrev rest : Bool
  rest = sound_timer (votes r.clock) r.timer r.phase && sound_phase r.phase r.count r.since (slack_of r.clock)

  clock_sound : sound_clock r.clock ≡ true
  clock_sound = (both_true (sound_clock r.clock) rest e).0

  timer_part : sound_timer (votes r.clock) r.timer r.phase ≡ true
  timer_part =
      (both_true (sound_timer (votes r.clock) r.timer r.phase) (sound_phase r.phase r.count r.since (slack_of r.clock))
      (both_true (sound_clock r.clock) rest e).1).0

  pub phase_fine : Fine r.phase r.count r.since (slack_of r.clock)
  phase_fine =
      fine r.phase r.count r.since (slack_of r.clock)
      (both_true (sound_timer (votes r.clock) r.timer r.phase) (sound_phase r.phase r.count r.since (slack_of r.clock))
      (both_true (sound_clock r.clock) rest e).1).1

  sound_by : (channel : Channel) (clock : BitClock) (timer : ℕ) (p : Place) → sound_clock clock ≡ true
      → sound_timer (votes clock) timer p.phase ≡ true → FinePlace p (slack_of clock) → sound (next_reader channel clock timer p) ≡ true
  sound_by channel clock timer p c t f =
      true_both (sound_clock clock) _ c
      (true_both (sound_timer (votes clock) timer p.phase) (sound_phase p.phase p.count p.since (slack_of clock)) t
      (is_sound p.phase p.count p.since (slack_of clock) f))

  module _ (in_byte x v : Bool) where
    abbrev next : BitClock
    next = after r.clock in_byte x v

    -- without a strobe
    pub kept-sound : (memory : List ℕ) → strobes r.clock v ≡ false
        → sound (next_reader r.channel next (ticked r.clock r.timer)
        (record { phase = r.phase; count = r.count; since = counted r.phase r.since; memory = memory })) ≡ true
    kept-sound memory s =
        sound_by r.channel next (ticked r.clock r.timer)
        (record { phase = r.phase; count = r.count; since = counted r.phase r.since; memory = memory })
        (stays_sound r.clock in_byte x v clock_sound) (timer_sound r.clock r.timer r.phase timer_part in_byte x v)
        (still_fine r.phase r.count r.since (slack_of r.clock) (slack_of next) phase_fine
        (λ w. slack_grows r.clock in_byte x v clock_sound (has_voted r.clock r.timer r.phase timer_part w) s))

    -- with one
    pub strobed-sound : (channel : Channel) (idle : Bool) (memory : List ℕ) → 262 ≤ length memory → strobes r.clock v ≡ true
        → sound (next_reader r.channel next (cond v (ticked r.clock r.timer) 0)
        (decoded r.phase v channel idle r.count (counted r.phase r.since) memory).place) ≡ true
    strobed-sound channel idle memory room s =
        let p = (decoded r.phase v channel idle r.count (counted r.phase r.since) memory).place in
        let now = cond v (ticked r.clock r.timer) 0 in
        let t = (both_true (votes r.clock) (not (falls r.clock v) && eqb r.clock.counter 5) s).0 in
        sound_by r.channel next now p (stays_sound r.clock in_byte x v clock_sound)
        (true_both (leb now 88) (votes next || (eqb now 0 && is_waiting p.phase))
        (le-leb now 88 (since-low v (ticked r.clock r.timer) (timer_le r.clock r.timer r.phase timer_part)))
        (true_left (votes next) (eqb now 0 && is_waiting p.phase) (on_votes r.clock in_byte x v t)))
        (decoded_fine r.phase v channel idle r.count r.since (slack_of r.clock) (slack_of next) memory phase_fine (slack_le r.clock) room)
      where
        since-low : (b : Bool) (n : ℕ) → n ≤ 88 → cond b n 0 ≤ 88
        since-low true n h = h
        since-low false n h = omega arith

-- ---- and so does the rule's

-- a step keeps soundness, and the size of the memory
pub step_sound : (channel : Channel) (s : State) (x : Bool) → sound (reader_of channel s) ≡ true → 262 ≤ length s.place.memory
    → sound (reader_of channel (step channel s x).state) ≡ true
unfolding step
step_sound channel s x e room =
    let r = reader_of channel s in
    let v = vote s.clock x in
    let d = is_data s.place.phase in
    let timer = ticked s.clock s.timer in
    cases_in (λ (b : Bool). sound (reader_of channel (cond b
    (strobed (after s.clock d x v) (cond v timer 0)
    (decoded s.place.phase v channel (is_idle timer) s.place.count (counted s.place.phase s.place.since) s.place.memory))
    (kept (after s.clock d x v) timer s.place)).state) ≡ true) (strobes s.clock v)
    (λ t. strobed-sound r e d x v channel (is_idle timer) s.place.memory room t)
    (λ t. kept-sound r e d x v s.place.memory t)
