-- What is known of the first bytes of a frame that reading accepts.
use Prim.Native.Nat.{ℕ, ◌+◌, ◌*◌, ◌≤◌}
use mathlib.Core.Path.{◌≡◌, refl, sym, ap, ◌∙◌}
use mathlib.Core.Bool.{Bool, false, cond}
use mathlib.Core.List.{List, [], ◌∷◌, ◌++◌}
use native.Mathlib.Omega.{arith}
use borrow.Author.Tests.{ltb-true, ltb-false, eqb-true, not-false, le-leb, lt-leb}
use lib.Dec.{eqb, ltb, leb}
use lib.ListN.{length, take, length-append}
use lib.Seq.{take-append-le}
use Rattle.numbers.proofs.Walk.{cases}
use Rattle.numbers.proofs.Truth.{neither}
use Rattle.refusal.specs.Refusal.{first, numbered}
use Rattle.refusal.proofs.FirstLaws.{not_refused}
use Rattle.division.specs.Bits.{odd, bytes_bits}
use Rattle.lent_bytes.specs.Over.{over}
use Rattle.lent_bytes.proofs.OverLaws.{take-over}
use Rattle.base_types.specs.declared.channel.Channel.{Channel}
use Rattle.header.specs.Layout.{longest_frame, header_in}
use Rattle.checksum.specs.declared.pair.ChecksumPair.{ChecksumPair}
use Rattle.frame.specs.Refusals.{header_checksum_differs}
use Rattle.frame.specs.Read.{header_read, refused_with, refusals_on}
use Rattle.frame.proofs.ReadLaws.{header_of_five}
use Rattle.wire_reader.specs.declared.phase.Phase.{Phase}
use Rattle.wire_reader.specs.declared.phase.Phase.TheVariants.{ByteStart, End}
use Rattle.wire_reader.specs.Decoder.{Decoded, moved, failed, header_wrong, checksums_of, complete, behind_byte}

-- Where the reader is before these bytes, behind others.
abbrev pub phase_before : List ℕ → Phase
phase_before [] = End
phase_before (x ∷ l) = ByteStart

abbrev behind : Bool → Bool → ChecksumPair → ℕ → ℕ → List ℕ → Decoded
behind wrong whole checksums count since memory =
    cond wrong (failed (refused_with 4 checksums) memory) (moved (cond whole End ByteStart) count since memory)

module _ (channel : Channel) (bytes : List ℕ) (none : first (refusals_on channel bytes) ≡ 0) where
  pub at_least_8 : 8 ≤ length bytes
  unfolding numbered
  at_least_8 = ltb-false (length bytes) 8 (not_refused (refusals_on channel bytes) refl none 2)

  pub at_most_262 : length bytes ≤ longest_frame
  unfolding numbered
  at_most_262 = ltb-false longest_frame (length bytes) (neither (odd (length bytes)) _ (not_refused (refusals_on channel bytes) refl none 3)).1

  header_sound : header_checksum_differs (header_read bytes) ≡ false
  unfolding numbered
  header_sound = not_refused (refusals_on channel bytes) refl none 4

  size : 8 + 2 * (header_read bytes).words ≡ length bytes
  unfolding numbered
  size =
      let n = 8 + 2 * (header_read bytes).words in
      eqb-true n (length bytes) (not-false (eqb n (length bytes)) (not_refused (refusals_on channel bytes) refl none 5))

  -- five bytes and more have the whole header
  same_header : (done rest : List ℕ) → done ++ rest ≡ bytes → 5 ≤ length done → header_read done ≡ header_read bytes
  same_header done rest e h =
      header_of_five done h
      ∙ ap (λ (l : List ℕ). header_in (bytes_bits l)) (sym (take-append-le 5 done rest h) ∙ ap (take 5) e)
      ∙ sym (header_of_five bytes (omega (arith, at_least_8)))

  header_right : (done rest : List ℕ) → done ++ rest ≡ bytes → header_wrong done ≡ false
  unfolding header_wrong
  header_right done rest e =
      cases (eqb (length done) 5)
      (λ t. let five = eqb-true (length done) 5 t in
      rw (t, same_header done rest e (omega arith)) header_sound)
      (λ t. rw t refl)

  complete_at : (done rest : List ℕ) → done ++ rest ≡ bytes → complete done ≡ leb (length bytes) (length done)
  unfolding complete
  complete_at done rest e =
      let eight = at_least_8 in
      cases (ltb (length done) 5)
      (λ t. let short = ltb-true (length done) 5 t in
      lt-leb (8 + 2 * (header_read done).words) (length done) (omega arith) ∙ sym (lt-leb (length bytes) (length done) (omega arith)))
      (λ t. let long = ltb-false (length done) 5 t in
      ap (λ (n : ℕ). leb n (length done)) (ap (λ h. 8 + 2 * h.words) (same_header done rest e long) ∙ size))

  phase_at : (done rest : List ℕ) → done ++ rest ≡ bytes → cond (complete done) End ByteStart ≡ phase_before rest
  phase_at done [] e =
      let n = sym (length-append done []) ∙ ap length e in
      rw (complete_at done [] e, le-leb (length bytes) (length done) (omega arith)) refl
  phase_at done (x ∷ l) e =
      let n = sym (length-append done (x ∷ l)) ∙ ap length e in
      rw (complete_at done (x ∷ l) e, lt-leb (length bytes) (length done) (omega arith)) refl

  -- behind a byte of the frame the next one is awaited, or the end
  pub next_phase : (done rest : List ℕ) → done ++ rest ≡ bytes → (since : ℕ) (m : List ℕ)
      → behind_byte (length done) since (over done m) ≡ moved (phase_before rest) (length done) since (over done m)
  next_phase done rest e since m =
      let n = length done in
      let memory = over done m in
      ap (λ (l : List ℕ). behind (header_wrong l) (complete l) (checksums_of l) n since memory) (take-over done m n refl)
      ∙ ap (λ (b : Bool). behind b (complete done) (checksums_of done) n since memory) (header_right done rest e)
      ∙ ap (λ (p : Phase). moved p n since memory) (phase_at done rest e)
