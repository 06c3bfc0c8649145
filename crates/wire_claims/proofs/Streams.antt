-- The claims about streams, and about what lies in the output.
use Prim.Native.Nat.{ℕ, zero, suc, ◌+◌, ◌*◌, ◌-◌, ◌≤◌}
use mathlib.Core.Path.{◌≡◌, refl, sym, ap, ap₂, ◌∙◌}
use mathlib.Core.Bool.{Bool, false, false≢true}
use mathlib.Core.List.{List, [], ◌∷◌, ◌++◌, append_assoc}
use native.Mathlib.Nat.{mod-eq_of_lt}
use native.Mathlib.Omega.{arith}
use borrow.Author.Tests.{ltb-false, le-ltb}
use lib.Dec.{ltb}
use lib.ListN.{length, take, drop, replicate, length-append, length-replicate}
use lib.Seq.{take_at, drop_at}
use Rattle.numbers.proofs.Truth.{neither}
use Rattle.refusal.specs.Refusal.{first, numbered}
use Rattle.refusal.proofs.FirstLaws.{not_refused, if_accepted_lem, first_past, first_in_front, first_skip, first_end}
use Rattle.division.specs.Bits.{bits, bytes_bits, AreBytes}
use Rattle.division.proofs.BitsLaws.{one_width, bits_inj}
use Rattle.division.proofs.BytesLaws.{append_apart, bytes_append, bits_bytes_of}
use Rattle.division.proofs.ExorLaws.{cons_inj}
use Rattle.lent_bytes.specs.Over.{over}
use Rattle.lent_bytes.proofs.OverLaws.{take-over, drop-over, length_over}
use Rattle.frame.specs.Read as read
use Rattle.frame.specs.Read.{header_read, payload_read}
use Rattle.frame_claims.proofs.Exact.{frame_of_lem, frame_none}
use Rattle.std.specs.Prelude.{Ok}
use Rattle.wire.specs.Stream.{low, high, coded, shortest_start, longest_start, stream}
use Rattle.wire.specs.Packing.{packed_size, spare_bits, packed}
use Rattle.wire.specs.Refusals.{not_a_start_length, output_too_short}
use Rattle.wire.specs.Encode.{Told, Encoding, told, own_refusals, refusals, refusal}
use Rattle.wire.proofs.PackingLaws.{length-stream, length-packed}
use Rattle.wire.proofs.EncodeLaws.{past-reading, encode-accepted}
use Rattle.wire_claims.specs.Streams.{bits_of, StreamLength, StreamTells, Encodable, EncodeExactly, Laid, EncodeLays}
use Rattle.wire_claims.proofs.Answers.{told_number, encode_one}

-- ---- the stream

pub stream_length : StreamLength
stream_length = length-stream

-- the first high bit ends the start
after_start : (s t : ℕ) (x y : List Bool) → replicate s low ++ (high ∷ x) ≡ replicate t low ++ (high ∷ y) → (s ≡ t) × (x ≡ y)
after_start zero zero x y e = (refl, (cons_inj e).1)
after_start zero (suc t) x y e = absurd (false≢true (sym (cons_inj e).0))
after_start (suc s) zero x y e = absurd (false≢true (cons_inj e).0)
after_start (suc s) (suc t) x y e = let rest = after_start s t x y (cons_inj e).1 in (ap suc rest.0, rest.1)

-- a high bit is followed by a byte, a low one ends the frame
coded_tells : (x y : List ℕ) → AreBytes x → AreBytes y → coded x ++ (low ∷ high ∷ []) ≡ coded y ++ (low ∷ high ∷ []) → x ≡ y
unfolding coded
coded_tells [] [] hx hy e = refl
coded_tells [] (b ∷ y) hx hy e = absurd (false≢true (cons_inj e).0)
coded_tells (a ∷ x) [] hx hy e = absurd (false≢true (sym (cons_inj e).0))
coded_tells (a ∷ x) (b ∷ y) hx hy e =
    let end = low ∷ high ∷ [] in
    let parts =
    append_apart (bits 8 a) (coded x ++ end) (bits 8 b) (coded y ++ end) (one_width 8 a b)
    (sym (append_assoc (bits 8 a) (coded x) end) ∙ (cons_inj (cons_inj e).1).1 ∙ append_assoc (bits 8 b) (coded y) end) in
    let byte : a ≡ b = sym (mod-eq_of_lt (hx 0)) ∙ bits_inj 8 a b parts.0 ∙ mod-eq_of_lt (hy 0) in
    ap₂ ◌∷◌ byte (coded_tells x y (λ i. hx (suc i)) (λ i. hy (suc i)) parts.1)

pub stream_tells : StreamTells
unfolding stream
stream_tells s t x y hx hy e =
    let rest = after_start s t _ _ e in
    (rest.0, coded_tells x y hx hy rest.1)

-- ---- what lies in the output

-- the bits of the packed stream are the stream, and low bits behind it
packed_bits : (l : List Bool) → bytes_bits (packed l) ≡ l ++ replicate (spare_bits (length l)) low
unfolding packed
packed_bits l =
    bits_bytes_of (packed_size (length l)) (l ++ replicate (spare_bits (length l)) low)
    (length-append l (replicate (spare_bits (length l)) low) ∙ ap (λ (n : ℕ). length l + n) (length-replicate (spare_bits (length l)) low) ∙ omega arith)

laid_over : (start : ℕ) (bytes before after : List ℕ) → packed_size (length (stream start bytes)) ≤ length before
    → after ≡ over (packed (stream start bytes)) before → Laid start bytes before after
unfolding over
laid_over start bytes before after room e =
    let s = stream start bytes in
    let p = packed s in
    let zeros = replicate (spare_bits (length s)) low in
    let behind = bytes_bits (drop (length p) before) in
    let count = length-stream start bytes in
    let size = length-packed s in
    let whole : bytes_bits after ≡ s ++ (zeros ++ behind) =
    ap bytes_bits e ∙ bytes_append p (drop (length p) before) ∙ ap (λ (x : List Bool). x ++ behind) (packed_bits s) ∙ append_assoc s zeros behind in
    let front : bytes_bits (take (packed_size (length s)) after) ≡ s ++ zeros =
    ap (λ (x : List ℕ). bytes_bits (take (packed_size (length s)) x)) e ∙ ap bytes_bits (take-over p before (packed_size (length s)) size) ∙ packed_bits s in
    let left : spare_bits (length s) ≡ 8 * packed_size (length s) - bits_of start bytes = omega (arith, count) in
    record {
      size = packed_size (length s);
      holds = (omega (arith, count), omega (arith, count));
      first = ap (take (bits_of start bytes)) whole ∙ take_at s (zeros ++ behind) (bits_of start bytes) count;
      spare = ap (drop (bits_of start bytes)) front ∙ drop_at s zeros (bits_of start bytes) count ∙ ap (λ (k : ℕ). replicate k low) left;
      behind = ap (drop (packed_size (length s))) e ∙ drop-over p before (packed_size (length s)) size;
      same = ap length e ∙ length_over p before (omega (arith, size));
    }

-- nothing is refused: neither by reading nor by 24 or 25
none_refused : (channel : ℕ) (bytes : List ℕ) (start : ℕ) (before : List ℕ) → refusal channel bytes start before ≡ 0
    → (first (read.refusals channel bytes) ≡ 0) × (not_a_start_length start ≡ false) × (output_too_short start bytes before ≡ false)
unfolding numbered
none_refused channel bytes start before none =
    let passed = not_refused (refusals channel bytes start before) refl none in
    (by (first (read.refusals channel bytes)) refl, passed 24, passed 25)
  where
    by : (n : ℕ) → first (read.refusals channel bytes) ≡ n → first (read.refusals channel bytes) ≡ 0
    by zero e = e
    by (suc n) e = sym (first_in_front (read.refusals channel bytes) (own_refusals bytes start before) (λ z. omega arith)) ∙ none

room_of : (bytes : List ℕ) (start : ℕ) (before : List ℕ) → output_too_short start bytes before ≡ false
    → packed_size (length (stream start bytes)) ≤ length before
room_of bytes start before = ltb-false (length before) (packed_size (length (stream start bytes)))

pub encode_lays : EncodeLays
encode_lays channel bytes start before after count h =
    let none : refusal channel bytes start before ≡ 0 = sym (told_number channel bytes start before (Ok count) h) in
    let s = stream start bytes in (
      ap (λ (t : Told). t.bits) h.answers ∙ if_accepted_lem _ _ _ none ∙ length-stream start bytes,
      laid_over start bytes before after (room_of bytes start before (none_refused channel bytes start before none).2)
          (h.writes ∙ if_accepted_lem _ _ _ none),
    )

-- ---- what is encoded

pub encodable : (channel : ℕ) (bytes : List ℕ) (start : ℕ) (before : List ℕ) → AreBytes bytes → refusal channel bytes start before ≡ 0
    → Encodable channel bytes start before
encodable channel bytes start before are none =
    let passed = none_refused channel bytes start before none in
    let borders = neither (ltb start shortest_start) (ltb longest_start start) passed.1 in
    let room = room_of bytes start before passed.2 in
    record {
      frame = (header_read bytes, payload_read bytes, frame_of_lem channel bytes are passed.0);
      start_length = (omega (arith, ltb-false start shortest_start borders.0), omega (arith, ltb-false longest_start start borders.1));
      room = omega (arith, room, length-stream start bytes);
    }

accepted : (channel : ℕ) (bytes : List ℕ) (start : ℕ) (before : List ℕ) → Encodable channel bytes start before
    → (first (read.refusals channel bytes) ≡ 0) × (refusal channel bytes start before ≡ 0)
accepted channel bytes start before f =
    let none = frame_none f.frame.2 in
    let short = le-ltb start shortest_start f.start_length.0 in
    let long = le-ltb longest_start start f.start_length.1 in
    let room = le-ltb (length before) (packed_size (length (stream start bytes))) (omega (arith, f.room, length-stream start bytes)) in (
      none,
      first_past (past-reading channel bytes start before none) ∙ first_skip 24 _ (rw (short, long)) ∙ first_skip 25 _ room ∙ first_end,
    )

pub encode_exactly : EncodeExactly
encode_exactly channel bytes start before after r are h = (
  λ e. encodable channel bytes start before are
      (sym (told_number channel bytes start before r h) ∙ ap (λ (x : Encoding). (told x).refusal.number) e),
  λ f. let none = accepted channel bytes start before f in
      (encode_one channel bytes start before after _ r (Ok (bits_of start bytes)) h
      (encode-accepted channel bytes start before none.0 _ (bits_of start bytes) none.1 (sym (length-stream start bytes)) refl)).0,
)
