-- What each witness shows, from the statement of the entry.
use Prim.Native.Nat.{ℕ, zero, suc}
use mathlib.Core.Path.{◌≡◌, refl, sym, ap, subst, ◌∙◌}
use mathlib.Core.Bool.{true, not, ◌&&◌}
use mathlib.Core.List.{List}
use mathlib.Core.Logic.{◌↔◌}
use native.Mathlib.Omega.{arith}
use borrow.Author.Tests.{eqb-false, not-true, ne_eqb}
use lib.Dec.{eqb}
use Rattle.numbers.proofs.Truth.{both_true, true_both}
use Rattle.division.specs.Bits.{AreBytes}
use Rattle.wire.specs.Encode.{Encoding, told, refusal, EncodeSays}
use Rattle.wire_claims.specs.Answers.{NumberTold}
use Rattle.wire_claims.specs.Streams.{bits_of, Encodable, Laid, EncodedBits, ToldApart}
use Rattle.wire_claims.proofs.Answers.{told_number, encode_in_order, encode_refused}
use Rattle.wire_claims.proofs.Streams.{stream_tells, encode_lays, encodable, encode_exactly}

module _ (channel : ℕ) (bytes : List ℕ) (start : ℕ) (before after : List ℕ) (r : Encoding) (says : EncodeSays channel bytes start before after r) where
  pub number_told : NumberTold channel bytes start before after (told r).refusal.number
  number_told =
      record {
        order = encode_in_order channel bytes start before after r says;
        refused = λ some. (encode_refused channel bytes start before after r says some).1;
      }

  -- nothing is refused, or nothing was done
  either : (P : Type 0) → (refusal channel bytes start before ≡ 0 → P) → (((told r).bits ≡ 0) × (after ≡ before) → P) → P
  either P none some = by (refusal channel bytes start before) refl
    where
      by : (n : ℕ) → refusal channel bytes start before ≡ n → P
      by zero e = none e
      by (suc n) e =
          some
          (encode_refused channel bytes start before after r says (λ z. omega (arith, sym (told_number channel bytes start before r says) ∙ z, e)))

  pub encoded_bits : AreBytes bytes → EncodedBits channel bytes start before after (told r).bits
  encoded_bits are =
      let exactly = encode_exactly channel bytes start before after r are says in
      let is : Encodable channel bytes start before → (told r).bits ≡ bits_of start bytes = λ f. ap (λ (x : Encoding). (told x).bits) (exactly.1 f) in
      let some : refusal channel bytes start before ≡ 0 → (told r).bits ≡ bits_of start bytes = λ e. is (encodable channel bytes start before are e) in
      record {
        exactly = (
          λ e. either (Encodable channel bytes start before) (encodable channel bytes start before are) (λ no. absurd (omega (arith, no.0, e))),
          is,
        );
        laid =
            λ h. either (((told r).bits ≡ bits_of start bytes) × Laid start bytes before after)
            (λ none. let f = exactly.1 (encodable channel bytes start before are none) in
            (some none, (encode_lays channel bytes start before after (bits_of start bytes) (subst (EncodeSays channel bytes start before after) f says)).1))
            (λ no. absurd (h no.0));
        refused = λ e. either (after ≡ before) (λ none. absurd (omega (arith, some none, e))) (λ no. no.1);
      }

not_zero : (n : ℕ) → not (eqb n 0) ≡ true → n ≡ 0 → ⊥
not_zero n e = eqb-false n 0 (not-true (eqb n 0) e)

-- bits come back exactly where these can be encoded
some_bits : (channel : ℕ) (bytes : List ℕ) (start : ℕ) (before after : List ℕ) (n : ℕ) → EncodedBits channel bytes start before after n
    → (not (eqb n 0) ≡ true) ↔ Encodable channel bytes start before
some_bits channel bytes start before after n w = (
  λ e. w.exactly.0 (w.laid (not_zero n e)).0,
  λ f. let is = w.exactly.1 f in ap not (ne_eqb n 0 (λ z. omega arith)),
)

module _
    (c : ℕ) (x : List ℕ) (s : ℕ) (before after : List ℕ) (m : ℕ) (w : EncodedBits c x s before after m)
    (d : ℕ) (y : List ℕ) (t : ℕ) (before' after' : List ℕ) (n : ℕ) (v : EncodedBits d y t before' after' n) where
  both_some : not (eqb m 0) && not (eqb n 0) ≡ true → (not (eqb m 0) ≡ true) × (not (eqb n 0) ≡ true)
  both_some = both_true (not (eqb m 0)) (not (eqb n 0))

  pub both_encoded : (not (eqb m 0) && not (eqb n 0) ≡ true) ↔ (Encodable c x s before × Encodable d y t before')
  both_encoded =
      let first = some_bits c x s before after m w in
      let second = some_bits d y t before' after' n v in
      (λ e. (first.0 (both_some e).0, second.0 (both_some e).1), λ f. true_both (not (eqb m 0)) (not (eqb n 0)) (first.1 f.0) (second.1 f.1))

  pub told_apart : AreBytes x → AreBytes y → not (eqb m 0) && not (eqb n 0) ≡ true → ToldApart s x after t y after'
  told_apart hx hy e same =
      let first = (w.laid (not_zero m (both_some e).0)).1 in
      let second = (v.laid (not_zero n (both_some e).1)).1 in
      stream_tells s t x y hx hy (sym first.first ∙ same ∙ second.first)
