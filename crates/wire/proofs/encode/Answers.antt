-- `encode` meets its contract: the refusals in their order, each by an early return.
use borrow.Author.Tests.{lt-ltb, le-ltb, ltb-false}
use mathlib.Core.Path.{◌≡◌, refl, sym, ap, subst, ◌∙◌}
use Prim.Native.Nat.{ℕ, ◌+◌, ◌*◌, ◌-◌, ◌/◌, ◌≤◌}
use mathlib.Core.Bool.{false}
use native.Mathlib.Omega.{arith}
use lib.Dec.{ltb}
use lib.ListN.{length, drop}
use lib.Seq.{length-take-le}
use Rattle.std.specs.Prelude.{Err}
use Rattle.std.proofs.lemmas.Result.{err_from_is_err_and}
use Rattle.numbers.proofs.Truth.{neither}
use Rattle.refusal.specs.Refusal.{first}
use Rattle.refusal.proofs.FirstLaws.{Past, ◌then◌, first_at, first_none_left}
use Rattle.lent_bytes.proofs.OverLaws.{lent_front}
use Rattle.header.specs.Layout.{longest_frame}
use Rattle.frame.specs.Read as read
use Rattle.frame.proofs.ReadLaws.{accepted_size}
use Rattle.wire.specs.declared.EncodeRefusal.TheVariants.{NotAStartLength, OutputTooShort}
use Rattle.wire.specs.Refusals.{not_a_start_length}
use Rattle.wire.specs.Stream.{shortest_start, longest_start, stream}
use Rattle.wire.specs.Packing.{packed_size, packed}
use Rattle.wire.specs.Encode.{own_refusals, refusals, EncodeSays}
use Rattle.wire.proofs.PackingLaws.{length-stream, length-packed}
use Rattle.wire.proofs.EncodeLaws.{not_a_frame, past-reading, encode_refused, encode-accepted}
use Rattle.wire.proofs.encode.Goals as goal
use Rattle.wire.proofs.encode.Goals.{In_ok-read}

-- ---- the lines of the order that were passed
-- reading accepts
accepted : (c : In_ok-read) → first (read.refusals c.args.channel c.args.bytes.now) ≡ 0
accepted c = sym (ap (λ (t : read.Told). t.number) c.in_ok-read.ensures)

size : (c : In_ok-read) → length c.args.bytes.now ≤ longest_frame
size c = accepted_size c.args.channel c.args.bytes.now (accepted c)

-- the stream is as long as the code says
count : (c : In_ok-read) → length (stream c.args.start c.args.bytes.now) ≡ c.args.start + 10 * length c.args.bytes.now + 3
count c = length-stream c.args.start c.args.bytes.now

-- and so is its packing
room : (c : In_ok-read)
    → (c.args.start + 10 * length c.args.bytes.now + 3 + 7) / 8 - 0 ≡ packed_size (length (stream c.args.start c.args.bytes.now))
room c = omega (arith, count c)

abbrev Passed : ℕ → In_ok-read → Type 0
Passed k c =
    let a = c.args in
    Past (refusals a.channel a.bytes.now a.start a.output.now) (drop k (own_refusals a.bytes.now a.start a.output.now))

past8 : (c : In_ok-read) → Passed 0 c
past8 c = let a = c.args in past-reading a.channel a.bytes.now a.start a.output.now (accepted c)

past24 : (c : In_ok-read) → not_a_start_length c.args.start ≡ false → Passed 1 c
past24 c right = past8 c then right

past25 : (c : In_ok-read) → not_a_start_length c.args.start ≡ false
    → (c.args.start + 10 * length c.args.bytes.now + 3 + 7) / 8 ≤ length c.args.output.now → Passed 2 c
past25 c right enough =
    past24 c right
    then le-ltb (length c.args.output.now) (packed_size (length (stream c.args.start c.args.bytes.now))) (omega (arith, count c))

-- ---- the sums fit: a frame is short
pub overflow_mul-count : goal.overflow_mul-count
overflow_mul-count c = omega (arith, size (goal.at.overflow_mul-count c).In_ok-read)

pub overflow_add-count : goal.overflow_add-count
overflow_add-count c = omega (arith, size (goal.at.overflow_add-count c).In_ok-read)

pub overflow_add-count-2 : goal.overflow_add-count-2
overflow_add-count-2 c = omega (arith, size (goal.at.overflow_add-count-2 c).In_ok-read)

pub overflow_add-size : goal.overflow_add-size
overflow_add-size c = omega (arith, size (goal.at.overflow_add-size c).In_ok-read)

-- ---- each return
pub returns-in_err-read : goal.returns-in_err-read
returns-in_err-read c =
    let a = c.args in
    let passed = err_from_is_err_and c.from_residual.result c.from_residual.ensures.1 in
    subst (EncodeSays a.channel a.bytes.now a.start a.output.now a.output.now) (sym (passed.1 ∙ ap Err passed.2))
    (not_a_frame a.channel a.bytes.now a.start a.output.now c.in_err-read.field-0.0 c.in_err-read.ensures)

pub returns-then-is_wrong_start : goal.returns-then-is_wrong_start
returns-then-is_wrong_start c =
    let k : In_ok-read = (goal.at.returns-then-is_wrong_start c).In_ok-read in
    let a = c.args in
    encode_refused a.channel a.bytes.now a.start a.output.now (accepted k) NotAStartLength 23 refl refl
    (first_at (past8 k) (sym c.is_not_a_start_length-is_wrong_start.ensures ∙ c.if-is_wrong_start.true))

pub returns-then-output-size : goal.returns-then-output-size
returns-then-output-size c =
    let k : In_ok-read = (goal.at.returns-then-output-size c).In_ok-read in
    let a = c.args in
    let right : not_a_start_length a.start ≡ false = cc in
    encode_refused a.channel a.bytes.now a.start a.output.now (accepted k) OutputTooShort 24 refl refl
    (first_at (past24 k right) (lt-ltb (length a.output.now) (packed_size (length (stream a.start a.bytes.now))) (omega (arith, count k))))

pub pack-requires : goal.pack-requires
pack-requires c =
    let k : In_ok-read = (goal.at.pack-requires c).In_ok-read in
    let a = c.args in
    let right =
    (neither (ltb a.start shortest_start) _ (sym c.is_not_a_start_length-is_wrong_start.ensures ∙ c.if-is_wrong_start.false)).1 in
    record {
      start_le_longest_start = (ltb-false longest_start a.start right, size k);
      output_len = length-take-le _ a.output.now (omega arith) ∙ room k;
    }

pub returns : goal.returns
returns c =
    let k : In_ok-read = (goal.at.returns c).In_ok-read in
    let a = c.args in
    encode-accepted a.channel a.bytes.now a.start a.output.now (accepted k) _ _
    (first_none_left (past25 k (sym c.is_not_a_start_length-is_wrong_start.ensures ∙ c.if-is_wrong_start.false) (omega arith))) (sym (count k))
    (lent_front _ a.output.now (packed (stream a.start a.bytes.now)) c.pack.new.output (room k ∙ sym (length-packed (stream a.start a.bytes.now))) c.pack.ensures)
