-- Samples played to their end, call after call.
use Prim.Native.Nat.{ℕ, zero, suc, ◌+◌, ◌-◌, ◌≤◌}
use mathlib.Core.Path.{◌≡◌, refl, sym, ap, ap₂, ◌∙◌}
use mathlib.Core.Bool.{Bool, true, false, false≢true, not}
use mathlib.Core.List.{List, [], ◌∷◌, map}
use native.Mathlib.Nat.{zero-add}
use native.Mathlib.Omega.{arith}
use lib.ListN.{length, drop, drop_of_length-le, length-map, length-drop}
use lib.Seq.{drop-drop}
use Rattle.numbers.proofs.Walk.{cases}
use Rattle.division.specs.Bits.{bit}
use Rattle.base_types.specs.declared.channel.Channel.{Channel}
use Rattle.wire_reader.specs.Decoder.{Told, nothing, frame, wrong, is_nothing}
use Rattle.wire_reader.specs.Reader.{State, Event, Run, noted, run, step, Piece, or_else, piece}
use Rattle.refusal.proofs.FirstLaws.{if_accepted_lem, if_refused}
use Rattle.wire_reader.specs.declared.reader.Reader.{Reader}
use Rattle.wire_reader.specs.declared.listening.Listened.{Listened}
use Rattle.wire_reader.specs.Reader as rule
use Rattle.wire_reader.specs.Listening as listening
use Rattle.wire_reader.specs.Listening.{is_high, told, heard, refusal, ListenSays}
use Rattle.reader_claims.specs.Given.{is_frame}
use Rattle.reader_claims.specs.Playing.{frames_in, errors_in, all_of, PlayedSays}
use Rattle.reader_claims.specs.Pending.{rest_of, SoFar}
use Rattle.reader_claims.proofs.Kept.{taken_le}
use Rattle.reader_claims.proofs.Soundness.{behind_accepted}
use Rattle.reader_claims.proofs.Cut.{run_piece}

-- ---- what one more event counts

is_error : Told → Bool
is_error nothing = false
is_error (frame header size since) = false
is_error (wrong told) = true

frames_noted : (i : ℕ) (t : Told) (m : List ℕ) (r : Run State) → frames_in (noted i t m r).events ≡ bit (is_frame t) + frames_in r.events
unfolding frames_in
frames_noted i nothing m r = sym (zero-add (frames_in r.events))
frames_noted i (frame header size since) m r = refl
frames_noted i (wrong told) m r = refl

errors_noted : (i : ℕ) (t : Told) (m : List ℕ) (r : Run State) → errors_in (noted i t m r).events ≡ bit (is_error t) + errors_in r.events
unfolding errors_in is_error
errors_noted i nothing m r = sym (zero-add (errors_in r.events))
errors_noted i (frame header size since) m r = refl
errors_noted i (wrong told) m r = refl

no_frames : frames_in [] ≡ 0
unfolding frames_in
no_frames = refl

no_errors : errors_in [] ≡ 0
unfolding errors_in
no_errors = refl

state_noted : (i : ℕ) (t : Told) (m : List ℕ) (r : Run State) → (noted i t m r).state ≡ r.state
state_noted i nothing m r = refl
state_noted i (frame header size since) m r = refl
state_noted i (wrong told) m r = refl

-- ---- one call

-- A call took all samples, or it told something and took one at least.
quiet_or : (t : Told) (s : State) (p : Piece) (n : ℕ) → (is_nothing p.told ≡ true → p.taken ≡ n)
    → is_nothing (or_else t s p).told ≡ true → (or_else t s p).taken ≡ suc n
quiet_or nothing s p n h e = ap suc (h e)
quiet_or (frame header size since) s p n h e = absurd (false≢true e)
quiet_or (wrong told) s p n h e = absurd (false≢true e)

quiet_all : (channel : Channel) (s : State) (l : List Bool) → is_nothing (piece channel s l).told ≡ true → (piece channel s l).taken ≡ length l
unfolding piece
quiet_all channel s [] e = refl
quiet_all channel s (x ∷ l) e =
    let next = (step channel s x).state in
    quiet_or (step channel s x).told next (piece channel next l) (length l) (quiet_all channel next l) e

loud_or : (t : Told) (s : State) (p : Piece) → 1 ≤ (or_else t s p).taken
loud_or nothing s p = omega arith
loud_or (frame header size since) s p = omega arith
loud_or (wrong told) s p = omega arith

loud_some : (channel : Channel) (s : State) (l : List Bool) → is_nothing (piece channel s l).told ≡ false → 1 ≤ (piece channel s l).taken
unfolding piece
loud_some channel s [] e = absurd (false≢true (sym e))
loud_some channel s (x ∷ l) e =
    let next = (step channel s x).state in
    loud_or (step channel s x).told next (piece channel next l)

is_quiet : (t : Told) → is_nothing t ≡ true → (is_frame t ≡ false) × (is_error t ≡ false)
unfolding is_error
is_quiet nothing e = (refl, refl)
is_quiet (frame header size since) e = absurd (false≢true e)
is_quiet (wrong told) e = absurd (false≢true e)

error_or_frame : (t : Told) → is_nothing t ≡ false → is_error t ≡ not (is_frame t)
unfolding is_error
error_or_frame nothing e = absurd (false≢true (sym e))
error_or_frame (frame header size since) e = refl
error_or_frame (wrong told) e = refl

-- ---- the rest

drop-map : {A B : Type 0} (f : A → B) (n : ℕ) (l : List A) → drop n (map f l) ≡ map f (drop n l)
drop-map f zero l = refl
drop-map f (suc n) [] = refl
drop-map f (suc n) (x ∷ l) = drop-map f n l

drop-rest : (n m : ℕ) (l : List ℕ) (f : ℕ → Bool) → drop m (map f (drop n l)) ≡ map f (drop (n + m) l)
drop-rest n m l f = drop-map f m (drop n l) ∙ ap (map f) (drop-drop m n l)

-- One call, and what is left behind it.
module _ (channel : Channel) (i : ℕ) (s : State) (samples : List ℕ) where
  abbrev call : Piece
  call = piece channel s (map is_high (drop i samples))

  abbrev behind : Run State
  behind = rest_of channel (i + call.taken) call.state samples

  one_call : rest_of channel i s samples ≡ noted (i + call.taken - 1) call.told call.state.place.memory behind
  one_call =
      run_piece (map is_high (drop i samples)) channel i s
      ∙ ap (λ (l : List Bool). noted (i + call.taken - 1) call.told call.state.place.memory (run channel (i + call.taken) call.state l))
      (drop-rest i call.taken samples is_high)

  one_frames : frames_in (rest_of channel i s samples).events ≡ bit (is_frame call.told) + frames_in behind.events
  one_frames =
      ap (λ (r : Run State). frames_in r.events) one_call
      ∙ frames_noted (i + call.taken - 1) call.told call.state.place.memory behind

  one_errors : errors_in (rest_of channel i s samples).events ≡ bit (is_error call.told) + errors_in behind.events
  one_errors =
      ap (λ (r : Run State). errors_in r.events) one_call
      ∙ errors_noted (i + call.taken - 1) call.told call.state.place.memory behind

  one_state : (rest_of channel i s samples).state ≡ behind.state
  one_state =
      ap (λ (r : Run State). r.state) one_call ∙ state_noted (i + call.taken - 1) call.told call.state.place.memory behind

-- no sample is left
none_left : (channel : Channel) (i : ℕ) (s : State) (samples : List ℕ) → length samples ≤ i
    → rest_of channel i s samples ≡ record { state = s; events = [] }
unfolding run
none_left channel i s samples h = ap (λ (l : List ℕ). run channel i s (map is_high l)) (drop_of_length-le samples {i = i} h)

-- ---- the first event

-- A run's first event is what a call tells, in the last sample that it takes.
is_nothing_lem : (t : Told) → is_nothing t ≡ true → t ≡ nothing
is_nothing_lem nothing e = refl
is_nothing_lem (frame header size since) e = absurd (false≢true e)
is_nothing_lem (wrong told) e = absurd (false≢true e)

abbrev headed : Event → List Event → Event
headed e [] = e
headed e (x ∷ l) = x

no_event : {e : Event} {l : List Event} → [] ≡ e ∷ l → ⊥
no_event {l = l} q = let n = ap length q in omega arith

all_quiet : (channel : Channel) (s : State) (l : List Bool) → is_nothing (piece channel s l).told ≡ true → (run channel 0 s l).events ≡ []
unfolding run
all_quiet channel s l t =
    let p = piece channel s l in
    let over = quiet_all channel s l t in
    ap (λ (x : Run State). x.events) (run_piece l channel 0 s)
    ∙ ap (λ (x : Told). (noted (0 + p.taken - 1) x p.state.place.memory (run channel (0 + p.taken) p.state (drop p.taken l))).events) (is_nothing_lem p.told t)
    ∙ ap (λ (x : List Bool). (run channel (0 + p.taken) p.state x).events) (drop_of_length-le l {i = p.taken} (omega arith))

first_noted : (t : Told) (n : ℕ) (m : List ℕ) (r : Run State) (e : Event) (more : List Event) → is_nothing t ≡ false
    → (noted n t m r).events ≡ e ∷ more → (t ≡ e.told) × (n ≡ e.sample)
first_noted nothing n m r e more loud q = absurd (false≢true (sym loud))
first_noted (frame header size since) n m r e more loud q = (ap (λ (l : List Event). (headed e l).told) q, ap (λ (l : List Event). (headed e l).sample) q)
first_noted (wrong told) n m r e more loud q = (ap (λ (l : List Event). (headed e l).told) q, ap (λ (l : List Event). (headed e l).sample) q)

pub first_event : (channel : Channel) (s : State) (l : List Bool) (e : Event) (more : List Event) → (run channel 0 s l).events ≡ e ∷ more
    → ((piece channel s l).told ≡ e.told) × ((piece channel s l).taken ≡ suc e.sample)
unfolding run
first_event channel s l e more q =
    let p = piece channel s l in
    let m = p.state.place.memory in
    let r = run channel (0 + p.taken) p.state (drop p.taken l) in
    let noted-so : (noted (0 + p.taken - 1) p.told m r).events ≡ e ∷ more =
    sym (ap (λ (x : Run State). x.events) (run_piece l channel 0 s)) ∙ q in
    cases (is_nothing p.told)
    (λ t. absurd (no_event (sym (all_quiet channel s l t) ∙ q)))
    (λ t. let k = first_noted p.told (0 + p.taken - 1) m r e more t noted-so in
    let some = loud_some channel s l t in
    let n = k.1 in
    (k.0, omega arith))

-- ---- call after call

pub begins : (reader : Reader) (samples before : List ℕ) → SoFar reader samples before before reader 0 0 0
begins reader samples before =
    record {
      within = omega arith;
      few_frames = omega arith;
      few_errors = omega arith;
      channel = refl;
      same = refl;
      refused = λ h. (refl, refl, refl, refl);
      counts = λ h. (zero-add _, zero-add _, refl);
    }

bit_le : (b : Bool) → bit b ≤ 1
bit_le true = omega arith
bit_le false = omega arith

-- nothing is left to count
sum_of : (n rest all : ℕ) → rest ≡ 0 → n + rest ≡ all → n ≡ all
sum_of n rest all e f = omega arith

module _ (reader : Reader) (samples before : List ℕ) where
  played : refusal reader before ≡ 0 → (frames errors : ℕ) (last : Reader) (after : List ℕ)
      → frames ≡ frames_in (all_of reader samples before).events → errors ≡ errors_in (all_of reader samples before).events
      → last.channel ≡ reader.channel → rule.state_of last after ≡ (all_of reader samples before).state
      → PlayedSays reader samples before after (record { frames = frames; errors = errors; reader = last })
  played ok frames errors last after f g c s =
      record {
        frames = f ∙ sym (if_accepted_lem _ _ _ ok);
        errors = g ∙ sym (if_accepted_lem _ _ _ ok);
        leaves =
            ap (λ (k : Channel). rule.reader_of k (rule.state_of last after)) c ∙ ap (rule.reader_of reader.channel) s
            ∙ sym (if_accepted_lem _ _ _ ok);
        keeps = ap (λ (q : State). q.place.memory) s ∙ sym (if_accepted_lem _ _ _ ok);
      }

  not_played : (refusal reader before ≡ 0 → ⊥) → (frames errors : ℕ) (last : Reader) (after : List ℕ)
      → frames ≡ 0 → errors ≡ 0 → last ≡ reader → after ≡ before
      → PlayedSays reader samples before after (record { frames = frames; errors = errors; reader = last })
  not_played not-0 frames errors last after f g r m =
      record {
        frames = f ∙ sym (if_refused _ _ _ not-0);
        errors = g ∙ sym (if_refused _ _ _ not-0);
        leaves = r ∙ sym (if_refused _ _ _ not-0);
        keeps = m ∙ sym (if_refused _ _ _ not-0);
      }

module _ (reader : Reader) (samples before memory after : List ℕ) (state : Reader) (at frames errors : ℕ) (r : Listened) (l : List ℕ)
    (e : l ≡ drop at samples) (so : SoFar reader samples before memory state at frames errors) (h : ListenSays state l memory after r) where
  abbrev call1 : Piece
  call1 = piece reader.channel (rule.state_of state memory) (map is_high (drop at samples))

  -- what the call heard
  is_call : heard state l memory ≡ call1
  is_call =
      ap (λ (k : Channel). piece k (rule.state_of state memory) (map is_high l)) so.channel
      ∙ ap (λ (x : List ℕ). piece reader.channel (rule.state_of state memory) (map is_high x)) e

  module _ (ok : refusal reader before ≡ 0) where
    none : refusal state memory ≡ 0
    none = so.same ∙ ok

    told_is : (told r.answer).event ≡ call1.told
    told_is = ap (λ (t : listening.Told). t.event) h.answers ∙ if_accepted_lem _ _ _ none ∙ ap (λ (p : Piece). p.told) is_call

    taken_is : r.taken ≡ call1.taken
    taken_is = h.takes ∙ if_accepted_lem _ _ _ none ∙ ap (λ (p : Piece). p.taken) is_call

    state-is : rule.state_of r.reader after ≡ call1.state
    state-is =
        ap (λ (x : Reader). rule.state_of x after) (h.leaves ∙ if_accepted_lem _ _ _ none)
        ∙ ap (λ (m : List ℕ). rule.state_of (rule.reader_of state.channel (heard state l memory).state) m) (h.keeps ∙ if_accepted_lem _ _ _ none)
        ∙ ap (λ (p : Piece). p.state) is_call

    left : (n : ℕ) → n ≡ call1.taken
        → rest_of reader.channel (at + n) (rule.state_of r.reader after) samples
        ≡ rest_of reader.channel (at + call1.taken) call1.state samples
    left n q =
        ap (λ (k : ℕ). rest_of reader.channel (at + k) (rule.state_of r.reader after) samples) q
        ∙ ap (λ (s : State). rest_of reader.channel (at + call1.taken) s samples) state-is

  -- a refused call tells nothing
  refused_quiet : (refusal reader before ≡ 0 → ⊥) → (told r.answer).event ≡ nothing
  refused_quiet not-0 =
      let some : refusal state memory ≡ 0 → ⊥ = λ z. not-0 (sym so.same ∙ z) in
      ap (λ (t : listening.Told). t.event) h.answers ∙ if_refused _ _ _ some

  loud_accepted : is_nothing (told r.answer).event ≡ false → refusal reader before ≡ 0
  loud_accepted loud = by (refusal reader before) refl
    where
      by : (n : ℕ) → refusal reader before ≡ n → refusal reader before ≡ 0
      by zero z = z
      by (suc n) z =
          let some : refusal reader before ≡ 0 → ⊥ = λ y. omega arith in
          absurd (false≢true (sym loud ∙ ap is_nothing (refused_quiet some)))

  size_left : length (map is_high (drop at samples)) ≡ length samples - at
  size_left = length-map (drop at samples) is_high ∙ length-drop at samples

  pub taken_most : r.taken ≤ length samples - at
  taken_most = by (refusal reader before) refl
    where
      by : (n : ℕ) → refusal reader before ≡ n → r.taken ≤ length samples - at
      by zero z =
          let n = taken_is z in
          let most = taken_le reader.channel (rule.state_of state memory) (map is_high (drop at samples)) in
          let size = size_left in
          omega arith
      by (suc n) z =
          let some : refusal state memory ≡ 0 → ⊥ = λ y. omega (arith, so.same, y, z) in
          let none-taken : r.taken ≡ 0 = h.takes ∙ if_refused _ _ _ some in
          omega arith

  pub loud_taken : is_nothing (told r.answer).event ≡ false → 1 ≤ r.taken
  loud_taken loud =
      let ok = loud_accepted loud in
      let n = taken_is ok in
      let some = loud_some reader.channel (rule.state_of state memory) (map is_high (drop at samples)) (sym (ap is_nothing (told_is ok)) ∙ loud) in
      omega arith

  same_channel_lem : refusal reader before ≡ 0 → r.reader.channel ≡ reader.channel
  same_channel_lem ok = ap (λ (x : Reader). x.channel) (h.leaves ∙ if_accepted_lem _ _ _ (none ok)) ∙ so.channel

  -- something was told, and the rest comes
  pub goes_on : is_nothing (told r.answer).event ≡ false
      → let b = is_frame (told r.answer).event in
      SoFar reader samples before after r.reader (at + r.taken) (frames + bit b) (errors + bit (not b))
  goes_on loud =
      let ok = loud_accepted loud in
      let t = told_is ok in
      let n = taken_is ok in
      let c = so.counts ok in
      let some = loud_taken loud in
      let most = taken_most in
      let room = so.within in
      let f = so.few_frames in
      let g = so.few_errors in
      let b = is_frame (told r.answer).event in
      let b-le = bit_le b in
      let b'-le = bit_le (not b) in
      let q = left ok r.taken n in
      let s = rule.state_of state memory in
      let later = rest_of reader.channel (at + r.taken) (rule.state_of r.reader after) samples in
      let behind_call = rest_of reader.channel (at + call1.taken) call1.state samples in
      let same-frames : frames_in later.events ≡ frames_in behind_call.events = ap (λ (x : Run State). frames_in x.events) q in
      let same-errors : errors_in later.events ≡ errors_in behind_call.events = ap (λ (x : Run State). errors_in x.events) q in
      let frame-bit : bit b ≡ bit (is_frame call1.told) = ap (λ (x : Told). bit (is_frame x)) t in
      let error-bit : bit (not b) ≡ bit (is_error call1.told) =
      ap (λ (x : Told). bit (not (is_frame x))) t ∙ ap bit (sym (error_or_frame call1.told (sym (ap is_nothing t) ∙ loud))) in
      let one-more-frame = one_frames reader.channel at s samples in
      let one-more-error = one_errors reader.channel at s samples in
      let all-frames = c.0 in
      let all-errors = c.1 in
      record {
        within = omega arith;
        few_frames = omega arith;
        few_errors = omega arith;
        channel = same_channel_lem ok;
        same = behind_accepted state l memory after r h (none ok) ∙ sym ok;
        refused = λ not-0. absurd (not-0 ok);
        counts = λ z. (
          omega arith,
          omega arith,
          ap (λ (x : Run State). x.state) q ∙ sym (one_state reader.channel at s samples) ∙ c.2,
        );
      }

  -- nothing was told: all samples are played
  pub ends_quiet : is_nothing (told r.answer).event ≡ true
      → PlayedSays reader samples before after (record { frames = frames; errors = errors; reader = r.reader })
  ends_quiet quiet = by (refusal reader before) refl
    where
      by : (n : ℕ) → refusal reader before ≡ n
          → PlayedSays reader samples before after (record { frames = frames; errors = errors; reader = r.reader })
      by zero ok =
          let s = rule.state_of state memory in
          let c = so.counts ok in
          let t = sym (ap is_nothing (told_is ok)) ∙ quiet in
          let k = is_quiet call1.told t in
          let all = quiet_all reader.channel s (map is_high (drop at samples)) t in
          let size = size_left in
          let nothing_left = none_left reader.channel (at + call1.taken) call1.state samples (omega arith) in
          let f = one_frames reader.channel at s samples ∙ ap (λ (x : Run State). bit (is_frame call1.told) + frames_in x.events) nothing_left
          ∙ ap₂ (λ (b : Bool) (n : ℕ). bit b + n) k.0 no_frames in
          let g = one_errors reader.channel at s samples ∙ ap (λ (x : Run State). bit (is_error call1.told) + errors_in x.events) nothing_left
          ∙ ap₂ (λ (b : Bool) (n : ℕ). bit b + n) k.1 no_errors in
          let last : call1.state ≡ (all_of reader samples before).state =
          sym (ap (λ (x : Run State). x.state) nothing_left) ∙ sym (one_state reader.channel at s samples) ∙ c.2 in
          played reader samples before ok frames errors r.reader after
          (sum_of frames (frames_in (rest_of reader.channel at s samples).events) (frames_in (all_of reader samples before).events) f c.0)
          (sum_of errors (errors_in (rest_of reader.channel at s samples).events) (errors_in (all_of reader samples before).events) g c.1)
          (same_channel_lem ok) (state-is ok ∙ last)
      by (suc n) z =
          let not-0 : refusal reader before ≡ 0 → ⊥ = λ y. omega arith in
          let some : refusal state memory ≡ 0 → ⊥ = λ y. not-0 (sym so.same ∙ y) in
          let w = so.refused not-0 in
          not_played reader samples before not-0 frames errors r.reader after w.2 w.3 (h.leaves ∙ if_refused _ _ _ some ∙ w.0) (h.keeps ∙ if_refused _ _ _ some ∙ w.1)

-- all samples are played, the last of them told something, or there were none
pub ends_all : (reader : Reader) (samples before memory : List ℕ) (state : Reader) (at frames errors : ℕ)
    → SoFar reader samples before memory state at frames errors → length samples ≤ at
    → PlayedSays reader samples before memory (record { frames = frames; errors = errors; reader = state })
ends_all reader samples before memory state at frames errors so over = by (refusal reader before) refl
  where
    by : (n : ℕ) → refusal reader before ≡ n → PlayedSays reader samples before memory (record { frames = frames; errors = errors; reader = state })
    by zero ok =
        let s = rule.state_of state memory in
        let c = so.counts ok in
        let nothing_left = none_left reader.channel at s samples over in
        played reader samples before ok frames errors state memory
        (sum_of frames (frames_in (rest_of reader.channel at s samples).events) (frames_in (all_of reader samples before).events)
        (ap (λ (x : Run State). frames_in x.events) nothing_left ∙ no_frames) c.0)
        (sum_of errors (errors_in (rest_of reader.channel at s samples).events) (errors_in (all_of reader samples before).events)
        (ap (λ (x : Run State). errors_in x.events) nothing_left ∙ no_errors) c.1)
        so.channel (sym (ap (λ (x : Run State). x.state) nothing_left) ∙ c.2)
    by (suc n) z =
        let not-0 : refusal reader before ≡ 0 → ⊥ = λ y. omega arith in
        let w = so.refused not-0 in
        not_played reader samples before not-0 frames errors state memory w.2 w.3 w.0 w.1
