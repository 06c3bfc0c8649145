-- The numbers of errors: the gathered bytes are as their phase says, after each sample, so that reading finds no fault in their size.
use Prim.Native.Nat.{ℕ, zero, suc, ◌+◌, ◌*◌, ◌%◌, ◌≤◌}
use mathlib.Core.Path.{◌≡◌, refl, sym, ap, ◌∙◌, subst}
use mathlib.Core.Bool.{Bool, true, false, not, ◌||◌, cond}
use mathlib.Core.List.{List, [], ◌∷◌, ◌++◌, map}
use native.Mathlib.Omega.{arith}
use native.Mathlib.Numerals.{add-one}
use borrow.Author.Tests.{le-ltb, ne_eqb, eq-eqb}
use lib.Dec.{eqb, ltb}
use lib.ListN.{length, take, set}
use lib.Seq.{length-take-le, take-suc-set}
use Rattle.numbers.proofs.Truth.{true_both, true_right}
use Rattle.numbers.proofs.Walk.{cases_in}
use Rattle.refusal.specs.Refusal.{◌when◌, first, if_accepted}
use Rattle.refusal.proofs.FirstLaws.{passed, ◌then◌, first_past, if_accepted_lem, if_refused}
use Rattle.division.specs.Bits.{odd, bit}
use Rattle.base_types.specs.declared.channel.Channel.{Channel}
use Rattle.base_types.specs.Channel.{channel_of}
use Rattle.header.specs.Layout.{longest_frame}
use Rattle.header.specs.Refusals.{startup_without_sync}
use Rattle.bit_clock.specs.Clock.{vote, strobes, after}
use Rattle.frame.specs.Refusals.{bad_size, id_zero, frame_checksum_differs}
use Rattle.frame.specs.Read as read
use Rattle.wire_reader.specs.declared.phase.Phase.{Phase}
use Rattle.wire_reader.specs.declared.phase.Phase.TheVariants.{Waiting, Start, FrameStart, ByteStart, ByteStartLow, Byte, End, EndHigh}
use Rattle.wire_reader.specs.declared.reader.Reader.{Reader}
use Rattle.wire_reader.specs.declared.listening.Listened.{Listened}
use Rattle.wire_reader.specs.Decoder.{Told, nothing, frame, wrong, Place, Decoded, moved, entered, failed, without, header_wrong, checksums_of, complete, behind_byte, judged, decoded, is_data, counted}
use Rattle.wire_reader.specs.Reader.{State, fresh, is_idle, kept, strobed, ticked, step, Run, noted, run, Piece, or_else, piece, state_of, reader_of, fresh_reader, no_reader}
use Rattle.wire_reader.specs.Sound.{slack_of}
use Rattle.wire_reader.specs.Opening.{Opened, opening_refusals, OpenSays}
use Rattle.wire_reader.specs.Listening as listening
use Rattle.wire_reader.specs.Listening.{is_high, number_in, heard, refusal, ListenSays}
use Rattle.wire_reader.proofs.PhaseLaws.{Fine}
use Rattle.wire_reader.proofs.SoundLaws.{phase_fine}
use Rattle.reader_claims.specs.Numbers.{is_one_of, error_numbers, told_right, all_right, OnlyErrorNumbers}
use Rattle.reader_claims.proofs.Kept.{Ready, stays_ready}
use Rattle.reader_claims.proofs.Soundness.{accepted_ready}
use Rattle.reader_claims.proofs.Gathered.{Growing, Whole, Gathered, no_bytes_lem, grown}

-- ---- at the end

-- the last three refusals
last_three : (a b c : Bool) → is_one_of (first (6 when a ∷ 7 when b ∷ 8 when c ∷ [])) (0 ∷ error_numbers) ≡ true
unfolding is_one_of error_numbers first
last_three true b c = refl
last_three false true c = refl
last_three false false true = refl
last_three false false false = refl

size_right : (l : List ℕ) → Whole l → length l ≤ longest_frame → bad_size l ≡ false
size_right l w most =
    let n = w.size in
    let even : odd (length l) ≡ false = ne_eqb (length l % 2) 1 (λ e. omega arith) in
    ap (λ (b : Bool). b || ltb longest_frame (length l)) even ∙ le-ltb longest_frame (length l) most

-- the first four do not hold
whole_number : (channel : Channel) (l : List ℕ) → Whole l → length l ≤ longest_frame
    → is_one_of (first (read.refusals_on channel l)) (0 ∷ error_numbers) ≡ true
whole_number channel l w most =
    let h = read.header_read l in
    let n = w.size in
    ap (λ (k : ℕ). is_one_of k (0 ∷ error_numbers))
    (first_past (passed (le-ltb (length l) 8 (omega arith)) then size_right l w most then w.right then ap not (eq-eqb (8 + 2 * h.words) (length l) n)))
    ∙ last_three (id_zero h) (startup_without_sync h.startup h.sync) (frame_checksum_differs channel l (read.trailer_read l))

-- ---- a bit

abbrev GatheredAt : Place → Type 0
GatheredAt p = Gathered p.phase (take p.count p.memory)

-- What is told is right, and the bytes are as the phase says.
abbrev Good : Decoded → Type 0
Good d = (told_right d.told ≡ true) × GatheredAt d.place

either : (b : Bool) (d e : Decoded) → (b ≡ true → Good d) → (b ≡ false → Good e) → Good (cond b d e)
either true d e f g = f refl
either false d e f g = g refl

judged_good : (t : read.Told) (count since : ℕ) (memory : List ℕ) → is_one_of t.number (0 ∷ error_numbers) ≡ true
    → Good (judged t count since memory)
unfolding is_one_of
judged_good t count since memory = by (eqb t.number 0)
  where
    by : (b : Bool) → b || is_one_of t.number error_numbers ≡ true
        → Good (cond b (record { place = without EndHigh memory; told = frame t.header count since }) (failed t memory))
    by true h = (refl, tt)
    by false h = (h, tt)

behind_good : (count since value : ℕ) (memory : List ℕ) → count + 1 ≤ length memory → Growing (take count memory)
    → Good (behind_byte (count + 1) since (set memory count value))
unfolding is_one_of error_numbers
behind_good count since value memory room g =
    let m = set memory count value in
    let bytes = take (count + 1) m in
    let one : bytes ≡ take count memory ++ value ∷ [] = ap (λ (n : ℕ). take n m) (add-one count) ∙ take-suc-set memory count value (omega arith) in
    either (header_wrong bytes) (failed (read.refused_with 4 (checksums_of bytes)) m) (moved (cond (complete bytes) End ByteStart) (count + 1) since m)
    (λ w. (refl, tt))
    (λ w. (
      refl,
      subst (λ (l : List ℕ). Gathered (cond (complete l) End ByteStart) l) (sym one)
          (grown (take count memory) value g (sym (ap header_wrong one) ∙ w)),
    ))

decoded_good : (phase : Phase) (b : Bool) (channel : Channel) (idle : Bool) (count k since slack : ℕ) (memory : List ℕ)
    → Fine phase count k slack → 262 ≤ length memory → Gathered phase (take count memory)
    → Good (decoded phase b channel idle count since memory)
unfolding is_one_of error_numbers
decoded_good Waiting true channel idle count k since slack memory f room g = (refl, tt)
decoded_good Waiting false channel true count k since slack memory f room g = (refl, tt)
decoded_good Waiting false channel false count k since slack memory f room g = (refl, tt)
decoded_good (Start n) true channel idle count k since slack memory f room g = (refl, tt)
decoded_good (Start n) false channel idle count k since slack memory f room g =
    either (ltb n 17) (entered (Start (n + 1)) memory) (failed (read.refused 30) memory) (λ t. (refl, tt)) (λ t. (refl, tt))
decoded_good (FrameStart n) true channel idle count k since slack memory f room g =
    either (ltb n 3) (entered (FrameStart (n + 1)) memory) (failed (read.refused 31) memory) (λ t. (refl, tt)) (λ t. (refl, tt))
decoded_good (FrameStart n) false channel idle count k since slack memory f room g = (refl, no_bytes_lem)
decoded_good ByteStart true channel idle count k since slack memory f room g = (refl, g)
decoded_good ByteStart false channel idle count k since slack memory f room g = (refl, tt)
decoded_good ByteStartLow true channel idle count k since slack memory f room g = (refl, tt)
decoded_good ByteStartLow false channel idle count k since slack memory f room g = (refl, g)
decoded_good (Byte n value) b channel idle count k since slack memory f room g =
    let v = value * 2 + bit b in
    either (ltb n 7) (moved (Byte (n + 1) v) count since memory) (behind_byte (count + 1) since (set memory count v))
    (λ t. (refl, g)) (λ t. behind_good count since v memory (omega arith) g)
decoded_good End true channel idle count k since slack memory f room g = (refl, tt)
decoded_good End false channel idle count k since slack memory f room g =
    let n = length-take-le count memory (omega arith) in
    judged_good (read.rule_on channel (take count memory)) count since memory (whole_number channel (take count memory) g (omega arith))
decoded_good EndHigh true channel idle count k since slack memory f room g = (refl, tt)
decoded_good EndHigh false channel idle count k since slack memory f room g = (refl, tt)

-- ---- a sample

-- What holds of every state that is reached from an opening.
record Reached (channel : Channel) (s : State) : Type 0 where
  pub ready : Ready channel s
  pub gathered : GatheredAt s.place

step_good : (channel : Channel) (s : State) (x : Bool) → Reached channel s
    → (told_right (step channel s x).told ≡ true) × GatheredAt (step channel s x).state.place
unfolding step
step_good channel s x h =
    let p = s.place in
    let v = vote s.clock x in
    let clock = after s.clock (is_data p.phase) x v in
    let timer = ticked s.clock s.timer in
    let since = counted p.phase p.since in
    let d = decoded p.phase v channel (is_idle timer) p.count since p.memory in
    cases_in (λ (b : Bool). (told_right (cond b (strobed clock (cond v timer 0) d) (kept clock timer p)).told ≡ true)
    × GatheredAt (cond b (strobed clock (cond v timer 0) d) (kept clock timer p)).state.place) (strobes s.clock v)
    (λ t. decoded_good p.phase v channel (is_idle timer) p.count p.since since (slack_of s.clock) p.memory
    (phase_fine (reader_of channel s) h.ready.sound) h.ready.room h.gathered)
    (λ t. (refl, h.gathered))

stays_reached : (channel : Channel) (s : State) (x : Bool) → Reached channel s → Reached channel (step channel s x).state
stays_reached channel s x h = record { ready = stays_ready channel s x h.ready; gathered = (step_good channel s x h).1 }

fresh_reached : (channel : Channel) (memory : List ℕ) → longest_frame ≤ length memory → Reached channel (fresh memory)
fresh_reached channel memory room = record { ready = record { sound = refl; room = room }; gathered = tt }

-- ---- many samples

noted_right : (i : ℕ) (t : Told) (m : List ℕ) (r : Run State) → told_right t ≡ true → all_right r.events ≡ true
    → all_right (noted i t m r).events ≡ true
unfolding all_right
noted_right i nothing m r f g = g
noted_right i (frame header size since) m r f g = g
noted_right i (wrong told) m r f g = true_both (is_one_of told.number error_numbers) (all_right r.events) f g

run_right : (channel : Channel) (i : ℕ) (s : State) (l : List Bool) → Reached channel s → all_right (run channel i s l).events ≡ true
unfolding run all_right
run_right channel i s [] h = refl
run_right channel i s (x ∷ l) h =
    let next = (step channel s x).state in
    noted_right i (step channel s x).told next.place.memory (run channel (suc i) next l) (step_good channel s x h).0
    (run_right channel (suc i) next l (stays_reached channel s x h))

pub only_error_numbers : OnlyErrorNumbers
only_error_numbers channel i memory samples room = run_right channel i (fresh memory) samples (fresh_reached channel memory room)

-- ---- a call behind an opening

or_right : (t : Told) (s : State) (p : Piece) → told_right t ≡ true → told_right p.told ≡ true → told_right (or_else t s p).told ≡ true
or_right nothing s p f g = g
or_right (frame header size since) s p f g = refl
or_right (wrong told) s p f g = f

piece_right : (channel : Channel) (s : State) (l : List Bool) → Reached channel s → told_right (piece channel s l).told ≡ true
unfolding piece
piece_right channel s [] h = refl
piece_right channel s (x ∷ l) h =
    let next = (step channel s x).state in
    or_right (step channel s x).told next (piece channel next l) (step_good channel s x h).0
    (piece_right channel next l (stays_reached channel s x h))

opened_reached : (channel : ℕ) (o : Opened) (memory : List ℕ) → OpenSays channel o → refusal o.state memory ≡ 0
    → Reached o.state.channel (state_of o.state memory)
opened_reached channel o memory h e =
    record {
      ready = accepted_ready o.state memory e;
      gathered = subst (λ (p : Phase). Gathered p (take o.state.count memory)) (sym waits) tt;
    }
  where
    by : (n : ℕ) → (if_accepted n (fresh_reader (channel_of channel)) no_reader).phase ≡ Waiting
    by zero = refl
    by (suc n) = refl

    waits : o.state.phase ≡ Waiting
    waits = ap (λ (r : Reader). r.phase) h.leaves ∙ by (first (opening_refusals channel))

first_right : (channel : ℕ) (o : Opened) (samples before after : List ℕ) (r : Listened) → OpenSays channel o
    → ListenSays o.state samples before after r → told_right (listening.told r.answer).event ≡ true
first_right channel o samples before after r opens h = by (refusal o.state before) refl
  where
    event-is : (listening.told r.answer).event ≡ if_accepted (refusal o.state before) (heard o.state samples before).told nothing
    event-is = ap (λ (t : listening.Told). t.event) h.answers

    by : (n : ℕ) → refusal o.state before ≡ n → told_right (listening.told r.answer).event ≡ true
    by zero z =
        ap told_right (event-is ∙ if_accepted_lem _ _ _ z)
        ∙ piece_right o.state.channel (state_of o.state before) (map is_high samples) (opened_reached channel o before opens z)
    by (suc n) z =
        let some : refusal o.state before ≡ 0 → ⊥ = λ y. omega arith in
        ap told_right (event-is ∙ if_refused _ _ _ some)

number_right : (t : Told) → told_right t ≡ true → is_one_of (number_in t) (0 ∷ error_numbers) ≡ true
unfolding is_one_of
number_right nothing h = refl
number_right (frame header size since) h = refl
number_right (wrong told) h = true_right (eqb told.number 0) (is_one_of told.number error_numbers) h

pub first_number : (channel : ℕ) (o : Opened) (samples before after : List ℕ) (r : Listened) → OpenSays channel o
    → ListenSays o.state samples before after r → is_one_of (number_in (listening.told r.answer).event) (0 ∷ error_numbers) ≡ true
first_number channel o samples before after r opens h =
    number_right (listening.told r.answer).event (first_right channel o samples before after r opens h)
