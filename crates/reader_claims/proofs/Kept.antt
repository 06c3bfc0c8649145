-- What a sample, and so a piece and a run, leaves as it was: the size of the memory, and soundness; and how many samples a piece takes.
use Prim.Native.Nat.{ℕ, suc, ◌+◌, ◌*◌, ◌≤◌}
use mathlib.Core.Path.{◌≡◌, refl, sym, ◌∙◌, subst}
use mathlib.Core.Bool.{Bool, true, false, cond}
use mathlib.Core.List.{List, [], ◌∷◌}
use native.Mathlib.Omega.{arith}
use lib.Dec.{eqb, ltb}
use lib.ListN.{length, take, set, length-set}
use Rattle.numbers.proofs.Walk.{cases_in}
use Rattle.division.specs.Bits.{bit}
use Rattle.base_types.specs.declared.channel.Channel.{Channel}
use Rattle.bit_clock.specs.Clock.{vote, strobes, after}
use Rattle.frame.specs.Read as read
use Rattle.wire_reader.specs.declared.phase.Phase.{Phase}
use Rattle.wire_reader.specs.declared.phase.Phase.TheVariants.{Waiting, Start, FrameStart, ByteStart, ByteStartLow, Byte, End, EndHigh}
use Rattle.wire_reader.specs.Decoder.{Told, nothing, frame, wrong, Decoded, moved, entered, failed, without, header_wrong, checksums_of, complete, decoded, is_data, counted}
use Rattle.wire_reader.specs.Reader.{State, is_idle, kept, strobed, ticked, step, Run, noted, run, Piece, or_else, piece, reader_of}
use Rattle.wire_reader.specs.Sound.{sound}
use Rattle.wire_reader.proofs.SoundLaws.{step_sound}

-- ---- the size of the memory

abbrev Same : List ℕ → Decoded → Type 0
Same memory d = length d.place.memory ≡ length memory

either : (b : Bool) (memory : List ℕ) (d e : Decoded) → Same memory d → Same memory e → Same memory (cond b d e)
either true memory d e f g = f
either false memory d e f g = g

decoded_size : (phase : Phase) (b : Bool) (channel : Channel) (idle : Bool) (count since : ℕ) (memory : List ℕ)
    → Same memory (decoded phase b channel idle count since memory)
decoded_size Waiting true channel idle count since memory = refl
decoded_size Waiting false channel idle count since memory = refl
decoded_size (Start n) true channel idle count since memory = refl
decoded_size (Start n) false channel idle count since memory =
    either (ltb n 17) memory (entered (Start (n + 1)) memory) (failed (read.refused 30) memory) refl refl
decoded_size (FrameStart n) true channel idle count since memory =
    either (ltb n 3) memory (entered (FrameStart (n + 1)) memory) (failed (read.refused 31) memory) refl refl
decoded_size (FrameStart n) false channel idle count since memory = refl
decoded_size ByteStart true channel idle count since memory = refl
decoded_size ByteStart false channel idle count since memory = refl
decoded_size ByteStartLow true channel idle count since memory = refl
decoded_size ByteStartLow false channel idle count since memory = refl
decoded_size (Byte n value) b channel idle count since memory =
    let v = value * 2 + bit b in
    let m = set memory count v in
    let bytes = take (count + 1) m in
    either (ltb n 7) memory (moved (Byte (n + 1) v) count since memory)
    (cond (header_wrong bytes) (failed (read.refused_with 4 (checksums_of bytes)) m) (moved (cond (complete bytes) End ByteStart) (count + 1) since m)) refl
    (either (header_wrong bytes) memory (failed (read.refused_with 4 (checksums_of bytes)) m) (moved (cond (complete bytes) End ByteStart) (count + 1) since m)
    (length-set memory count v) (length-set memory count v))
decoded_size End true channel idle count since memory = refl
decoded_size End false channel idle count since memory =
    let t = read.rule_on channel (take count memory) in
    either (eqb t.number 0) memory (record { place = without EndHigh memory; told = frame t.header count since }) (failed t memory) refl refl
decoded_size EndHigh true channel idle count since memory = refl
decoded_size EndHigh false channel idle count since memory = refl

pub step_size : (channel : Channel) (s : State) (x : Bool) → length (step channel s x).state.place.memory ≡ length s.place.memory
unfolding step
step_size channel s x =
    let p = s.place in
    let v = vote s.clock x in
    let clock = after s.clock (is_data p.phase) x v in
    let timer = ticked s.clock s.timer in
    cases_in (λ (b : Bool). length (cond b
    (strobed clock (cond v timer 0) (decoded p.phase v channel (is_idle timer) p.count (counted p.phase p.since) p.memory))
    (kept clock timer p)).state.place.memory ≡ length p.memory) (strobes s.clock v)
    (λ t. decoded_size p.phase v channel (is_idle timer) p.count (counted p.phase p.since) p.memory)
    (λ t. refl)

-- ---- a piece

or_else_state : (P : State → Type 0) (t : Told) (s : State) (p : Piece) → P s → P p.state → P (or_else t s p).state
or_else_state P nothing s p f g = g
or_else_state P (frame header size since) s p f g = f
or_else_state P (wrong told) s p f g = f

-- What holds after each sample, if it did before, holds after a piece.
module _ (P : State → Type 0) (channel : Channel) (on : (s : State) (x : Bool) → P s → P (step channel s x).state) where
  pub piece_keeps : (s : State) (l : List Bool) → P s → P (piece channel s l).state
  unfolding piece
  piece_keeps s [] h = h
  piece_keeps s (x ∷ l) h =
      let next = (step channel s x).state in
      or_else_state P (step channel s x).told next (piece channel next l) (on s x h) (piece_keeps next l (on s x h))

  noted_keeps : (i : ℕ) (t : Told) (m : List ℕ) (r : Run State) → P r.state → P (noted i t m r).state
  noted_keeps i nothing m r h = h
  noted_keeps i (frame header size since) m r h = h
  noted_keeps i (wrong told) m r h = h

  pub run_keeps : (i : ℕ) (s : State) (l : List Bool) → P s → P (run channel i s l).state
  unfolding run
  run_keeps i s [] h = h
  run_keeps i s (x ∷ l) h =
      let next = (step channel s x).state in
      noted_keeps i (step channel s x).told next.place.memory (run channel (suc i) next l) (run_keeps (suc i) next l (on s x h))

-- A sound reader, and room for a frame.
pub record Ready (channel : Channel) (s : State) : Type 0 where
  pub sound : sound (reader_of channel s) ≡ true
  pub room : 262 ≤ length s.place.memory

pub stays_ready : (channel : Channel) (s : State) (x : Bool) → Ready channel s → Ready channel (step channel s x).state
stays_ready channel s x h =
    record {
      sound = step_sound channel s x h.sound h.room;
      room = subst (λ (n : ℕ). 262 ≤ n) (sym (step_size channel s x)) h.room;
    }

pub piece_size : (channel : Channel) (s : State) (l : List Bool) → length (piece channel s l).state.place.memory ≡ length s.place.memory
piece_size channel s l =
    piece_keeps (λ (q : State). length q.place.memory ≡ length s.place.memory) channel (λ q x h. step_size channel q x ∙ h) s l refl

-- ---- how many samples a piece takes

or_else_taken : (t : Told) (s : State) (p : Piece) (n : ℕ) → p.taken ≤ n → (or_else t s p).taken ≤ suc n
or_else_taken nothing s p n h = omega arith
or_else_taken (frame header size since) s p n h = omega arith
or_else_taken (wrong told) s p n h = omega arith

pub taken_le : (channel : Channel) (s : State) (l : List Bool) → (piece channel s l).taken ≤ length l
unfolding piece
taken_le channel s [] = omega arith
taken_le channel s (x ∷ l) =
    let next = (step channel s x).state in
    or_else_taken (step channel s x).told next (piece channel next l) (length l) (taken_le channel next l)
