-- The statement of `encode` from the number that the order gives.
use Prim.Native.Nat.{ℕ, suc}
use mathlib.Core.Path.{◌≡◌, refl, sym, ap, ◌∙◌}
use mathlib.Core.List.{List}
use native.Mathlib.Omega.{arith}
use lib.ListN.{length}
use Rattle.std.specs.Prelude.{Ok, Err}
use Rattle.refusal.specs.Refusal.{first, numbered}
use Rattle.refusal.proofs.FirstLaws.{Past, past_list, if_accepted_lem, if_refused, first_in_front}
use Rattle.lent_bytes.specs.Over.{over}
use Rattle.base_types.specs.Channel.{channel_of}
use Rattle.checksum.specs.Pair.{no_checksums}
use Rattle.frame.specs.declared.ReadRefusal.{ReadRefusal}
use Rattle.frame.proofs.AnswerLaws.{refusal_in_range}
use Rattle.frame.specs.Read as read
use Rattle.frame.specs.Read.{ReadSays, checksums_beside}
use Rattle.wire.specs.declared.EncodeRefusal.{EncodeRefusal}
use Rattle.wire.specs.declared.EncodeRefusal.TheVariants.{NotAFrame}
use Rattle.wire.specs.Stream.{stream}
use Rattle.wire.specs.Packing.{packed}
use Rattle.wire.specs.Encode.{number_of, checksums_of, own_refusals, refusals, refusal, EncodeSays}

module _ (channel : ℕ) (bytes : List ℕ) (start : ℕ) (output : List ℕ) where
  -- a refusal with its number and checksums, and the output as it was
  refuse : (r : EncodeRefusal) → number_of r ≡ refusal channel bytes start output → checksums_of r ≡ (read.rule channel bytes).checksums
      → (refusal channel bytes start output ≡ 0 → ⊥) → EncodeSays channel bytes start output output (Err r)
  refuse r n pair some =
      let none = if_refused (refusal channel bytes start output) (length (stream start bytes)) 0 some in
      record { answers = λ i. record { refusal = read.refused_with (n i) (pair i); bits = sym none i }; writes = sym (if_refused _ _ _ some) }

  -- reading refuses
  pub not_a_frame : (r : ReadRefusal) → ReadSays channel bytes (Err r) → EncodeSays channel bytes start output output (Err (NotAFrame r))
  not_a_frame r is =
      let number : read.number_of r ≡ first (read.refusals channel bytes) = ap (λ (t : read.Told). t.number) is in
      let some : first (read.refusals channel bytes) ≡ 0 → ⊥ = λ e. omega (arith, refusal_in_range r, number) in
      let same = first_in_front (read.refusals channel bytes) (own_refusals bytes start output) some in
      refuse (NotAFrame r) (number ∙ sym same) (ap (λ (t : read.Told). t.checksums) is) (λ e. some (sym same ∙ e))

  -- reading does not
  module _ (accepted : first (read.refusals channel bytes) ≡ 0) where
    pub past-reading : Past (refusals channel bytes start output) (own_refusals bytes start output)
    unfolding numbered
    past-reading = past_list (read.refusals channel bytes) (own_refusals bytes start output) refl accepted

    -- and then it tells no checksums
    none_told : no_checksums ≡ (read.rule channel bytes).checksums
    none_told = ap (λ (n : ℕ). checksums_beside n (channel_of channel) bytes) (sym accepted)

    -- 24 or 25
    pub encode_refused : (r : EncodeRefusal) (n : ℕ) → number_of r ≡ suc n → checksums_of r ≡ no_checksums
        → refusal channel bytes start output ≡ suc n → EncodeSays channel bytes start output output (Err r)
    encode_refused r n is pair e = refuse r (is ∙ sym e) (pair ∙ none_told) (λ z. omega arith)

    -- no refusal, and the packed stream over the output's front
    pub encode-accepted : (after : List ℕ) (count : ℕ) → refusal channel bytes start output ≡ 0 → count ≡ length (stream start bytes)
        → after ≡ over (packed (stream start bytes)) output → EncodeSays channel bytes start output after (Ok count)
    encode-accepted after count e s w =
        let whole = s ∙ sym (if_accepted_lem _ _ _ e) in
        record {
          answers = λ i. record { refusal = read.refused_with (sym e i) (none_told i); bits = whole i };
          writes = w ∙ sym (if_accepted_lem _ _ _ e);
        }
