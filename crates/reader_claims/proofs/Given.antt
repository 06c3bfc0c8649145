-- What is given as a frame is one.
use Prim.Native.Nat.{ℕ, zero, suc, ◌+◌, ◌*◌, ◌≤◌}
use mathlib.Core.Path.{◌≡◌, refl, sym, ap, ◌∙◌, subst}
use mathlib.Core.Bool.{Bool, true, false, false≢true, cond}
use mathlib.Core.List.{List, [], ◌∷◌, map}
use native.Mathlib.Omega.{arith}
use borrow.Author.Tests.{eq-eqb, eqb-true}
use lib.Dec.{eqb, ltb}
use lib.ListN.{length, take, set}
use lib.Seq.{length-take-le}
use Rattle.numbers.proofs.Walk.{cases_in}
use Rattle.refusal.specs.Refusal.{first}
use Rattle.refusal.proofs.FirstLaws.{if_accepted_lem, if_refused}
use Rattle.division.specs.Bits.{bit}
use Rattle.base_types.specs.declared.channel.Channel.{Channel}
use Rattle.header.specs.declared.Header.{Header}
use Rattle.bit_clock.specs.Clock.{vote, strobes, after}
use Rattle.frame.specs.Read as read
use Rattle.wire_reader.specs.declared.phase.Phase.{Phase}
use Rattle.wire_reader.specs.declared.phase.Phase.TheVariants.{Waiting, Start, FrameStart, ByteStart, ByteStartLow, Byte, End, EndHigh}
use Rattle.wire_reader.specs.Decoder.{Told, nothing, frame, wrong, Decoded, moved, entered, failed, without, header_wrong, checksums_of, complete, behind_byte, judged, decoded, is_data, counted}
use Rattle.wire_reader.specs.Reader.{State, is_idle, kept, strobed, ticked, step, Piece, or_else, piece, state_of, reader_of}
use Rattle.wire_reader.specs.Sound.{slack_of}
use Rattle.wire_reader.specs.Listening as listening
use Rattle.wire_reader.specs.Listening.{is_high, refusal}
use Rattle.wire_reader.proofs.PhaseLaws.{Fine}
use Rattle.wire_reader.proofs.SoundLaws.{phase_fine}
use Rattle.reader_claims.specs.Given.{IsFrame, Given, is_frame, GivenExactly}
use Rattle.reader_claims.proofs.Kept.{Ready, stays_ready}
use Rattle.reader_claims.proofs.Soundness.{accepted_ready}

-- ---- a bit

module _ (channel : Channel) (header : Header) (size since : ℕ) where
  abbrev IfGiven : Decoded → Type 0
  IfGiven d = d.told ≡ frame header size since → IsFrame channel d.place.memory header size

  not_given : {A : Type 0} (t : Told) → is_frame t ≡ false → t ≡ frame header size since → A
  not_given t n e = absurd (false≢true (sym n ∙ ap is_frame e))

  either : (b : Bool) (d e : Decoded) → (b ≡ true → IfGiven d) → (b ≡ false → IfGiven e) → IfGiven (cond b d e)
  either true d e f g = f refl
  either false d e f g = g refl

  size_of : Told → ℕ
  size_of nothing = 0
  size_of (frame h n s) = n
  size_of (wrong t) = 0

  header_of : Told → Header
  header_of nothing = header
  header_of (frame h n s) = h
  header_of (wrong t) = header

  judged_given : (count k : ℕ) (memory : List ℕ) → count ≤ length memory
      → IfGiven (judged (read.rule_on channel (take count memory)) count k memory)
  unfolding size_of header_of
  judged_given count k memory room =
      let bytes = take count memory in
      let t = read.rule_on channel bytes in
      either (eqb t.number 0) (record { place = without EndHigh memory; told = frame t.header count k }) (failed t memory)
      (λ b e. let same : count ≡ size = ap size_of e in
      let accepted : first (read.refusals_on channel bytes) ≡ 0 = eqb-true t.number 0 b in
      record {
        accepted = ap (λ (n : ℕ). first (read.refusals_on channel (take n memory))) (sym same) ∙ accepted;
        headed =
            sym (ap header_of e) ∙ if_accepted_lem _ _ _ accepted ∙ ap (λ (n : ℕ). read.header_read (take n memory)) same;
        sized = length-take-le size memory (subst (λ (n : ℕ). n ≤ length memory) same room);
      })
      (λ b e. not_given (wrong t) refl e)

  decoded_given : (phase : Phase) (b idle : Bool) (count k : ℕ) (memory : List ℕ) → count ≤ length memory
      → IfGiven (decoded phase b channel idle count k memory)
  decoded_given Waiting true idle count k memory room = not_given nothing refl
  decoded_given Waiting false idle count k memory room = not_given nothing refl
  decoded_given (Start n) true idle count k memory room = not_given nothing refl
  decoded_given (Start n) false idle count k memory room =
      either (ltb n 17) (entered (Start (n + 1)) memory) (failed (read.refused 30) memory)
      (λ t. not_given nothing refl) (λ t. not_given (wrong (read.refused 30)) refl)
  decoded_given (FrameStart n) true idle count k memory room =
      either (ltb n 3) (entered (FrameStart (n + 1)) memory) (failed (read.refused 31) memory)
      (λ t. not_given nothing refl) (λ t. not_given (wrong (read.refused 31)) refl)
  decoded_given (FrameStart n) false idle count k memory room = not_given nothing refl
  decoded_given ByteStart true idle count k memory room = not_given nothing refl
  decoded_given ByteStart false idle count k memory room = not_given (wrong (read.refused 32)) refl
  decoded_given ByteStartLow true idle count k memory room = not_given (wrong (read.refused 33)) refl
  decoded_given ByteStartLow false idle count k memory room = not_given nothing refl
  decoded_given (Byte n value) b idle count k memory room =
      let v = value * 2 + bit b in
      let m = set memory count v in
      let bytes = take (count + 1) m in
      either (ltb n 7) (moved (Byte (n + 1) v) count k memory) (behind_byte (count + 1) k m)
      (λ t. not_given nothing refl)
      (λ t. either (header_wrong bytes) (failed (read.refused_with 4 (checksums_of bytes)) m) (moved (cond (complete bytes) End ByteStart) (count + 1) k m)
      (λ q. not_given (wrong (read.refused_with 4 (checksums_of bytes))) refl) (λ q. not_given nothing refl))
  decoded_given End true idle count k memory room = not_given (wrong (read.refused 34)) refl
  decoded_given End false idle count k memory room = judged_given count k memory room
  decoded_given EndHigh true idle count k memory room = not_given nothing refl
  decoded_given EndHigh false idle count k memory room = not_given (wrong (read.refused 35)) refl

  -- ---- a sample, and a piece

  at_most : (phase : Phase) (count k slack : ℕ) → Fine phase count k slack → count ≤ 262
  at_most Waiting count k slack f = omega arith
  at_most (Start n) count k slack f = omega arith
  at_most (FrameStart n) count k slack f = omega arith
  at_most ByteStart count k slack f = omega arith
  at_most ByteStartLow count k slack f = omega arith
  at_most (Byte n value) count k slack f = omega arith
  at_most End count k slack f = omega arith
  at_most EndHigh count k slack f = omega arith

  step_given : (s : State) (x : Bool) → Ready channel s → (step channel s x).told ≡ frame header size since
      → IsFrame channel (step channel s x).state.place.memory header size
  unfolding step
  step_given s x h =
      let p = s.place in
      let v = vote s.clock x in
      let clock = after s.clock (is_data p.phase) x v in
      let timer = ticked s.clock s.timer in
      let d = decoded p.phase v channel (is_idle timer) p.count (counted p.phase p.since) p.memory in
      let small = at_most p.phase p.count p.since (slack_of s.clock) (phase_fine (reader_of channel s) h.sound) in
      let room = h.room in
      cases_in (λ (b : Bool). (cond b (strobed clock (cond v timer 0) d) (kept clock timer p)).told ≡ frame header size since
      → IsFrame channel (cond b (strobed clock (cond v timer 0) d) (kept clock timer p)).state.place.memory header size) (strobes s.clock v)
      (λ t. decoded_given p.phase v (is_idle timer) p.count (counted p.phase p.since) p.memory (omega arith))
      (λ t. not_given nothing refl)

  or_given : (t : Told) (s : State) (p : Piece) → (t ≡ frame header size since → IsFrame channel s.place.memory header size)
      → (p.told ≡ frame header size since → IsFrame channel p.state.place.memory header size)
      → (or_else t s p).told ≡ frame header size since → IsFrame channel (or_else t s p).state.place.memory header size
  or_given nothing s p f g e = g e
  or_given (frame h n k) s p f g e = f e
  or_given (wrong t) s p f g e = f e

  piece_given : (s : State) (l : List Bool) → Ready channel s → (piece channel s l).told ≡ frame header size since
      → IsFrame channel (piece channel s l).state.place.memory header size
  unfolding piece
  piece_given s [] h = not_given nothing refl
  piece_given s (x ∷ l) h =
      let next = (step channel s x).state in
      or_given (step channel s x).told next (piece channel next l) (step_given s x h) (piece_given next l (stays_ready channel s x h))

-- ---- a call

pub given : Given
given reader samples before after r header size since h e = by (refusal reader before) refl
  where
    by : (n : ℕ) → refusal reader before ≡ n → IsFrame reader.channel after header size
    by zero z =
        subst (λ (m : List ℕ). IsFrame reader.channel m header size) (sym (h.keeps ∙ if_accepted_lem _ _ _ z))
        (piece_given reader.channel header size since (state_of reader before) (map is_high samples) (accepted_ready reader before z)
        (sym (if_accepted_lem _ _ _ z) ∙ sym (ap (λ (t : listening.Told). t.event) h.answers) ∙ e))
    by (suc n) z =
        let some : refusal reader before ≡ 0 → ⊥ = λ y. omega arith in
        not_given reader.channel header size since nothing refl
        (sym (if_refused _ _ _ some) ∙ sym (ap (λ (t : listening.Told). t.event) h.answers) ∙ e)

pub given_exactly : GivenExactly
given_exactly channel idle count since memory =
    let t = read.rule_on channel (take count memory) in
    (λ e. eqb-true t.number 0 (told-so (eqb t.number 0) t e), λ e. ap (λ (b : Bool). is_frame (by t b).told) (eq-eqb t.number 0 e))
  where
    by : read.Told → Bool → Decoded
    by t b = cond b (record { place = without EndHigh memory; told = frame t.header count since }) (failed t memory)

    told-so : (b : Bool) (t : read.Told) → is_frame (by t b).told ≡ true → b ≡ true
    told-so true t e = refl
    told-so false t e = absurd (false≢true e)
