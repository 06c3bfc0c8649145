-- What errors tell of two checksums.
use Prim.Native.Nat.{ℕ, zero, suc, ◌+◌, ◌*◌}
use mathlib.Core.Path.{◌≡◌, refl, sym, ap, ◌∙◌, subst}
use mathlib.Core.Bool.{Bool, true, false, false≢true, cond}
use mathlib.Core.List.{List, [], ◌∷◌, map, ◌++◌}
use mathlib.Core.Logic.{inl}
use native.Mathlib.Omega.{arith}
use lib.Dec.{eqb, ltb}
use lib.ListN.{length, take, set, length-append}
use lib.Seq.{take-append-le}
use Rattle.numbers.proofs.Truth.{both_true}
use Rattle.numbers.proofs.Walk.{cases_in, came}
use Rattle.division.specs.Bits.{bit, bytes_bits}
use Rattle.base_types.specs.declared.channel.Channel.{Channel}
use Rattle.bit_clock.specs.Clock.{vote, strobes, after}
use Rattle.header.specs.declared.Header.{Header}
use Rattle.header.specs.Layout.{header_checksums, header_in}
use Rattle.frame.specs.Read as read
use Rattle.frame.specs.Refusals.{header_checksum_differs}
use Rattle.frame.proofs.ReadLaws.{header_of_five}
use Rattle.frame_claims.specs.Answers.{OfAChecksum}
use Rattle.frame_claims.proofs.Checksums.{differing_pair, right_on}
use Rattle.wire_reader.specs.declared.phase.Phase.{Phase}
use Rattle.wire_reader.specs.declared.phase.Phase.TheVariants.{Waiting, Start, FrameStart, ByteStart, ByteStartLow, Byte, End, EndHigh}
use Rattle.wire_reader.specs.Decoder.{Told, nothing, frame, wrong, Decoded, moved, entered, failed, without, header_wrong, checksums_of, complete, behind_byte, decoded, is_data, counted, most_low, most_high}
use Rattle.wire_reader.specs.Reader.{State, Piece, is_idle, kept, strobed, ticked, step, or_else, piece, state_of}
use Rattle.wire_reader.specs.Listening as listening
use Rattle.wire_reader.specs.Listening.{is_high, heard, refusal}
use Rattle.refusal.specs.Refusal.{if_accepted}
use Rattle.reader_claims.specs.Checksums.{ErrorTold, ErrorsTold, FiveAsRead}

-- ---- a bit

-- an error that is neither 4 nor 8
none_told : (n : ℕ) → read.tells_checksums n ≡ false → ErrorTold (wrong (read.refused n))
none_told n other =
    let not-these : OfAChecksum n → ⊥ =
    λ of. came of (λ e. false≢true (sym other ∙ ap read.tells_checksums e)) (λ e. false≢true (sym other ∙ ap read.tells_checksums e)) in
    record { differing = λ of. absurd (not-these of); none = λ silent. refl }

-- a header that is wrong
header_told : (bytes : List ℕ) → header_wrong bytes ≡ true → ErrorTold (wrong (read.refused_with 4 (checksums_of bytes)))
unfolding header_wrong
header_told bytes w =
    record {
      differing = λ of. differing_pair (checksums_of bytes) (both_true (eqb (length bytes) 5) (header_checksum_differs (read.header_read bytes)) w).1;
      none = λ not-these. absurd (not-these (inl refl));
    }

abbrev Right : Decoded → Type 0
Right d = ErrorTold d.told

decoded_told : (channel : Channel) (phase : Phase) (b idle : Bool) (count since : ℕ) (memory : List ℕ)
    → Right (decoded phase b channel idle count since memory)
decoded_told channel Waiting true idle count since memory = tt
decoded_told channel Waiting false idle count since memory = tt
decoded_told channel (Start n) true idle count since memory = tt
decoded_told channel (Start n) false idle count since memory =
    cases_in (λ x. Right (cond x (entered (Start (n + 1)) memory) (failed (read.refused 30) memory))) (ltb n most_low) (λ t. tt) (λ t. none_told 30 refl)
decoded_told channel (FrameStart n) true idle count since memory =
    cases_in (λ x. Right (cond x (entered (FrameStart (n + 1)) memory) (failed (read.refused 31) memory))) (ltb n most_high) (λ t. tt) (λ t. none_told 31 refl)
decoded_told channel (FrameStart n) false idle count since memory = tt
decoded_told channel ByteStart true idle count since memory = tt
decoded_told channel ByteStart false idle count since memory = none_told 32 refl
decoded_told channel ByteStartLow true idle count since memory = none_told 33 refl
decoded_told channel ByteStartLow false idle count since memory = tt
decoded_told channel (Byte n value) b idle count since memory =
    let v = value * 2 + bit b in
    let m = set memory count v in
    let bytes = take (count + 1) m in
    let next = moved (cond (complete bytes) End ByteStart) (count + 1) since m in
    cases_in (λ x. Right (cond x (moved (Byte (n + 1) v) count since memory) (behind_byte (count + 1) since m))) (ltb n 7) (λ t. tt)
    (λ t. cases_in (λ x. Right (cond x (failed (read.refused_with 4 (checksums_of bytes)) m) next)) (header_wrong bytes) (header_told bytes) (λ q. tt))
decoded_told channel End true idle count since memory = none_told 34 refl
decoded_told channel End false idle count since memory =
    let t = read.rule_on channel (take count memory) in
    let given : Decoded = record { place = without EndHigh memory; told = frame t.header count since } in
    cases_in (λ x. Right (cond x given (failed t memory))) (eqb t.number 0) (λ q. tt) (λ q. right_on channel (take count memory))
decoded_told channel EndHigh true idle count since memory = tt
decoded_told channel EndHigh false idle count since memory = none_told 35 refl

-- ---- a sample, and a piece

step_told : (channel : Channel) (s : State) (x : Bool) → ErrorTold (step channel s x).told
unfolding step
step_told channel s x =
    let p = s.place in
    let v = vote s.clock x in
    let clock = after s.clock (is_data p.phase) x v in
    let timer = ticked s.clock s.timer in
    let d = decoded p.phase v channel (is_idle timer) p.count (counted p.phase p.since) p.memory in
    cases_in (λ (b : Bool). ErrorTold (cond b (strobed clock (cond v timer 0) d) (kept clock timer p)).told) (strobes s.clock v)
    (λ t. decoded_told channel p.phase v (is_idle timer) p.count (counted p.phase p.since) p.memory)
    (λ t. tt)

or_told : (t : Told) (s : State) (p : Piece) → ErrorTold t → ErrorTold p.told → ErrorTold (or_else t s p).told
or_told nothing s p f g = g
or_told (frame h n k) s p f g = f
or_told (wrong t) s p f g = f

piece_told : (channel : Channel) (s : State) (l : List Bool) → ErrorTold (piece channel s l).told
unfolding piece
piece_told channel s [] = tt
piece_told channel s (x ∷ l) =
    let next = (step channel s x).state in
    or_told (step channel s x).told next (piece channel next l) (step_told channel s x) (piece_told channel next l)

-- ---- a call

pub errors_told : ErrorsTold
errors_told reader samples before after r says =
    subst (λ (t : listening.Told). ErrorTold t.event) (sym says.answers) (by (refusal reader before))
  where
    by : (n : ℕ) → ErrorTold (if_accepted n (heard reader samples before).told nothing)
    by zero = piece_told reader.channel (state_of reader before) (map is_high samples)
    by (suc n) = tt

-- ---- five bytes

pub five_as_read : FiveAsRead
five_as_read channel five rest size at4 =
    let bytes = five ++ rest in
    let long = length-append five rest in
    let same : read.header_read bytes ≡ read.header_read five =
    header_of_five bytes (omega arith) ∙ ap (λ (l : List ℕ). header_in (bytes_bits l)) (take-append-le 5 five rest (omega arith))
    ∙ sym (header_of_five five (omega arith)) in
    ap (λ (n : ℕ). read.tells n channel bytes) at4 ∙ ap (λ (h : Header). read.refused_with 4 (header_checksums h)) same
