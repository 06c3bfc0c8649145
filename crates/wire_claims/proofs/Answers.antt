-- The claims about the answers, from the statement alone.
use Prim.Native.Nat.{ℕ, zero, suc, ◌<◌, ◌≤◌}
use mathlib.Core.Path.{◌≡◌, refl, sym, ap, ◌∙◌}
use mathlib.Core.Bool.{Bool, true, false, cond}
use mathlib.Core.List.{List, [], ◌∷◌}
use native.Mathlib.Omega.{arith}
use borrow.Author.Tests.{ltb-true, ltb-false, ne_eqb}
use lib.Dec.{eqb, ltb}
use lib.ListN.{length}
use Rattle.std.specs.Prelude.{Ok, Err}
use Rattle.numbers.proofs.Truth.{neither}
use Rattle.refusal.specs.Refusal.{◌when◌, first, numbered}
use Rattle.refusal.proofs.AnswerLaws.{one_answer}
use Rattle.refusal.proofs.FirstLaws.{told_in_order, if_refused, first_in_front, first_past, below, first_below}
use Rattle.header.specs.Layout.{longest_frame, no_header}
use Rattle.frame.specs.Read as read
use Rattle.frame.proofs.AnswerLaws.{refusal_in_range}
use Rattle.frame.proofs.ReadLaws.{accepted_size}
use Rattle.frame_claims.proofs.Answers.{reading_by, reading_by_lem}
use Rattle.wire.specs.declared.EncodeRefusal.TheVariants.{NotAFrame, NotAStartLength, OutputTooShort}
use Rattle.wire.specs.Stream.{shortest_start, longest_start, stream}
use Rattle.wire.specs.Packing.{packed_size, most_packed}
use Rattle.wire.specs.Refusals.{not_a_start_length, output_too_short}
use Rattle.wire.specs.Encode.{Told, Encoding, told, own_refusals, refusal, EncodeSays}
use Rattle.wire.proofs.PackingLaws.{length-stream}
use Rattle.wire.proofs.EncodeLaws.{not_a_frame, past-reading}
use Rattle.wire_claims.specs.Answers.{EncodeOne, EncodeInOrder, EncodeRefused, EncodeAsRead, RoomForAll}

-- the number is that of the order
pub told_number : (channel : ℕ) (bytes : List ℕ) (start : ℕ) (output : List ℕ) {after : List ℕ} (r : Encoding)
    → EncodeSays channel bytes start output after r → (told r).refusal.number ≡ refusal channel bytes start output
told_number channel bytes start output r h = ap (λ (t : Told). t.refusal.number) h.answers

-- ---- one answer

-- what reading refuses is refused
passed_on : read.Reading → Encoding
passed_on (Ok header) = Ok 0
passed_on (Err refused) = Err (NotAFrame refused)

encoding_by : Told → Encoding
encoding_by t =
    cond (eqb t.refusal.number 0) (Ok t.bits)
    (cond (eqb t.refusal.number 24) (Err NotAStartLength)
    (cond (eqb t.refusal.number 25) (Err OutputTooShort)
    (passed_on (reading_by t.refusal))))

encoding_by_lem : (r : Encoding) → encoding_by (told r) ≡ r
unfolding encoding_by passed_on
encoding_by_lem (Ok count) = refl
encoding_by_lem (Err (NotAFrame r)) =
    let range = refusal_in_range r in
    rw (
      ne_eqb (read.number_of r) 0 (λ e. omega arith),
      ne_eqb (read.number_of r) 24 (λ e. omega arith),
      ne_eqb (read.number_of r) 25 (λ e. omega arith),
    ) (ap passed_on (reading_by_lem (Err r)))
encoding_by_lem (Err NotAStartLength) = refl
encoding_by_lem (Err OutputTooShort) = refl

pub encode_one : EncodeOne
encode_one channel bytes start before after after' r s hr hs =
    (one_answer told encoding_by encoding_by_lem r s hr.answers hs.answers, hr.writes ∙ sym hs.writes)

-- ---- in order

pub encode_in_order : EncodeInOrder
unfolding numbered
encode_in_order channel bytes start before after r h = told_in_order _ refl (told_number channel bytes start before r h)

-- ---- a refusal

pub encode_refused : EncodeRefused
encode_refused channel bytes start before after r h refused =
    let some : refusal channel bytes start before ≡ 0 → ⊥ = λ e. refused (told_number channel bytes start before r h ∙ e) in (
      ap (λ (t : Told). t.bits) h.answers ∙ if_refused _ _ _ some,
      h.writes ∙ if_refused _ _ _ some,
    )

pub encode_as_read : EncodeAsRead
encode_as_read channel bytes start before after r h refused says =
    (encode_one channel bytes start before after before r (Err (NotAFrame refused)) h (not_a_frame channel bytes start before refused says)).0

-- ---- room

-- of the entry's own two, 25 says that the other does not hold
own_25 : (a b : Bool) → first (24 when a ∷ 25 when b ∷ []) ≡ 25 → (a ≡ false) × (b ≡ true)
unfolding first
own_25 true b e = absurd (omega arith)
own_25 false true e = (refl, refl)
own_25 false false e = absurd (omega arith)

too_short_lem : (bytes : List ℕ) (start : ℕ) (output : List ℕ) → length bytes ≤ longest_frame → first (own_refusals bytes start output) ≡ 25
    → length output < most_packed
too_short_lem bytes start output size e =
    let told = own_25 (not_a_start_length start) (output_too_short start bytes output) e in
    let most = ltb-false longest_start start (neither (ltb start shortest_start) (ltb longest_start start) told.0).1 in
    let short = ltb-true (length output) (packed_size (length (stream start bytes))) told.1 in
    omega (arith, length-stream start bytes, most, short)

pub room_for_all : RoomForAll
unfolding below
room_for_all channel bytes start before after r h e = by (first (read.refusals channel bytes)) refl
  where
    by : (n : ℕ) → first (read.refusals channel bytes) ≡ n → length before < most_packed
    by zero none =
        too_short_lem bytes start before (accepted_size channel bytes none)
        (sym (first_past (past-reading channel bytes start before none)) ∙ sym (told_number channel bytes start before r h) ∙ e)
    by (suc n) some =
        let small = first_below 8 (read.refusals channel bytes) refl in
        let same = first_in_front (read.refusals channel bytes) (own_refusals bytes start before) (λ z. omega arith) in
        absurd (omega (arith, small, same, told_number channel bytes start before r h, e))
