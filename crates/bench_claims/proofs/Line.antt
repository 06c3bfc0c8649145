-- The claims about the bench program's line.
use Prim.Native.Nat.{ℕ, ◌-◌, zero, suc, ◌+◌, ◌^◌, ◌<◌, ◌≤◌}
use native.Mathlib.Nat.{pow-le-pow_right}
use mathlib.Core.Path.{◌≡◌, refl, sym, ap, ◌∙◌}
use mathlib.Core.Bool.{Bool, true, false, cond, ◌&&◌}
use mathlib.Core.List.{List, [], ◌∷◌, ◌++◌}
use native.Mathlib.Omega.{arith}
use lib.Dec.{eqb, leb, lit<}
use lib.ListN.{length, take, drop, replicate, length-append, length-drop}
use lib.Seq.{length-take-le, take_all}
use borrow.Author.Tests.{le-ltb, lt-ltb, leb-true, leb-false}
use Rattle.numbers.proofs.Truth.{both_true}
use Rattle.numbers.proofs.Walk.{cases, cases_in}
use Rattle.refusal.specs.Refusal.{Line, ◌when◌, first}
use Rattle.refusal.proofs.FirstLaws.{first_skip, first_here}
use Rattle.division.specs.Bits.{odd, bits, number, bytes_bits}
use Rattle.division.specs.Division.{step, feed, checksum, exor, only_if}
use Rattle.division.proofs.BitsLaws.{number_lt}
use Rattle.division.proofs.BytesLaws.{length-bytes}
use Rattle.division.proofs.RegisterLaws.{checksum_lt}
use Rattle.base_types.specs.declared.channel.Channel.{Channel}
use Rattle.base_types.specs.declared.channel.Channel.TheVariants.{A}
use Rattle.base_types.specs.Channel.{not_a_channel, channel_of, start_of}
use Rattle.checksum.specs.declared.pair.ChecksumPair.{ChecksumPair}
use Rattle.checksum.specs.Checksums.{header_polynomial, header_start, header_bits, frame_polynomial}
use Rattle.checksum.specs.Pair.{no_checksums}
use Rattle.header.specs.declared.Header.{Header}
use Rattle.header.specs.Layout.{most_payload, longest_frame, header_checksums, header_in}
use Rattle.header.proofs.HeaderLaws.{field_small}
use Rattle.frame.specs.Refusals.{too_short, bad_size, frame_checksums}
use Rattle.frame.specs.Read.{Told, refused_with, header_read, trailer_read, refusals, refusals_on, tells_checksums, tells}
use Rattle.bench_line.specs.Line.{read_input, front, longest, accepted_word, refused_word, behind_space, line_feed, behind_number, accepted_line, refused_line, line_by, line_of}
use Rattle.bench_line.specs.Decimal.{decimal_within}
use Rattle.bench_claims.specs.Line.{LineOne, NoInput, TooLong, FrontDecides, WithinLongest, FrontExact, LongestExact}
use Rattle.bench_claims.proofs.Decimal.{decimal_short, decimal_long}

pub line_one : LineOne
line_one input before after after' size size' s s' = (s.answers ∙ sym s'.answers, s.writes ∙ sym s'.writes)

pub no_input : NoInput
no_input = refl

-- ---- an input that is too long

long_refusal : (channel : ℕ) (bytes : List ℕ) → longest_frame < length bytes → first (refusals channel bytes) ≡ cond (not_a_channel channel) 1 3
long_refusal channel bytes h =
    let long : too_short bytes ≡ false = le-ltb (length bytes) 8 (omega arith) in
    let bad : bad_size bytes ≡ true = cases (odd (length bytes)) (λ t. rw t refl) (λ t. rw (t, lt-ltb longest_frame (length bytes) h) refl) in
    cases (not_a_channel channel)
    (λ t. first_here 1 (refusals_on (channel_of channel) bytes) t ∙ rw t refl)
    (λ t. first_skip 1 (refusals_on (channel_of channel) bytes) t ∙ first_skip 2 _ long ∙ first_here 3 _ bad ∙ rw t refl)

pub too_long : TooLong
too_long channel bytes h =
    let e = long_refusal channel bytes h in
    cases (not_a_channel channel) (λ t. rw (e, t) refl) (λ t. rw (e, t) refl)

pub front_decides : FrontDecides
front_decides [] = refl
front_decides (channel ∷ bytes) =
    cases (leb (length bytes) longest_frame)
    (λ t. let short = leb-true (length bytes) longest_frame t in ap line_of (take_all front (channel ∷ bytes) (omega arith)))
    (λ t.
    let long = leb-false (length bytes) longest_frame t in
    let cut : length (take (1 + longest_frame) bytes) ≡ 1 + longest_frame = length-take-le (1 + longest_frame) bytes (omega arith) in
    too_long channel (take (1 + longest_frame) bytes) (omega arith) ∙ sym (too_long channel bytes long))

-- ---- the longest line

-- No line of an order has a number above m.
unfoldable none_above : ℕ → List Line → Bool
none_above m [] = true
none_above m (n when c ∷ l) = leb n m && none_above m l

first_within : (m : ℕ) (l : List Line) → none_above m l ≡ true → first l ≤ m
unfolding first none_above
first_within m [] e = omega arith
first_within m (n when true ∷ l) e = leb-true n m (both_true (leb n m) (none_above m l) e).0
first_within m (n when false ∷ l) e = first_within m l (both_true (leb n m) (none_above m l) e).1

refusal_within : (channel : ℕ) (bytes : List ℕ) → first (refusals channel bytes) ≤ 8
unfolding none_above
refusal_within channel bytes = first_within 8 (refusals channel bytes) refl

accepted_short : (h : Header) → h.id.0 < 2 ^ 11 → h.cycle.0 < 2 ^ 6 → h.words < 2 ^ 7 → length (accepted_line h) ≤ longest
accepted_short h i c w =
    let id = behind_space h.id.0 in
    let cycle = behind_space h.cycle.0 in
    let words = behind_space h.words in
    omega (
      arith,
      length-append (accepted_word ++ id ++ cycle ++ words) line_feed,
      length-append (accepted_word ++ id ++ cycle) words,
      length-append (accepted_word ++ id) cycle,
      length-append accepted_word id,
      decimal_short 3 h.id.0 (omega arith),
      decimal_short 1 h.cycle.0 (omega arith),
      decimal_short 2 h.words (omega arith),
    )

-- both checksums have 24 bits at most
abbrev Small : ChecksumPair → Type 0
Small checksums = (checksums.found < 2 ^ 24) × (checksums.expected < 2 ^ 24)

-- those of a header, whatever the bytes
header_small : (bytes : List ℕ) → Small (header_checksums (header_read bytes))
unfolding header_in
header_small bytes =
    let h = header_read bytes in
    let found = field_small (5 + 11 + 7) 11 (bytes_bits bytes) in
    let expected = checksum_lt 11 header_polynomial header_start (header_bits h.sync h.startup h.id.0 h.words) in
    (omega arith, omega arith)

-- those of a frame, whose trailer has three bytes at most
frame_small : (channel : Channel) (bytes : List ℕ) → Small (frame_checksums channel bytes (trailer_read bytes))
frame_small channel bytes =
    let trailer = drop (length bytes - 3) bytes in
    let size : length (bytes_bits trailer) ≤ 24 = omega (arith, length-bytes trailer, length-drop (length bytes - 3) bytes) in
    let most : 2 ^ length (bytes_bits trailer) ≤ 2 ^ 24 = pow-le-pow_right {n = 2} (lit< tt) {i = length (bytes_bits trailer)} {j = 24} size in
    let found = number_lt (bytes_bits trailer) in
    (omega arith, checksum_lt 24 frame_polynomial (start_of channel) (bytes_bits (take (length bytes - 3) bytes)))

told_small : (n : ℕ) (channel : Channel) (bytes : List ℕ) → Small (tells n channel bytes).checksums
told_small n channel bytes =
    cases_in (λ b. Small (cond b (header_checksums (header_read bytes)) (cond (eqb n 8) (frame_checksums channel bytes (trailer_read bytes)) no_checksums)))
    (eqb n 4) (λ t. header_small bytes)
    (λ t. cases_in (λ b. Small (cond b (frame_checksums channel bytes (trailer_read bytes)) no_checksums)) (eqb n 8)
    (λ u. frame_small channel bytes) (λ u. (lit< tt, lit< tt)))

behind_short : (n : ℕ) (checksums : ChecksumPair) → Small checksums → length (behind_number n checksums) ≤ 18
behind_short n checksums small =
    let found = behind_space checksums.found in
    let expected = behind_space checksums.expected in
    cases_in (λ b. length (cond b (found ++ expected) []) ≤ 18) (tells_checksums n)
    (λ t.
    omega (
      arith,
      length-append found expected,
      decimal_short 7 checksums.found (omega (arith, small.0)),
      decimal_short 7 checksums.expected (omega (arith, small.1)),
    ))
    (λ t. omega arith)

refused_short : (n : ℕ) (checksums : ChecksumPair) → n < 10 → Small checksums → length (refused_line n checksums) ≤ longest
refused_short n checksums h small =
    let behind = behind_number n checksums in
    omega (
      arith,
      length-append (refused_word ++ behind_space n ++ behind) line_feed,
      length-append (refused_word ++ behind_space n) behind,
      length-append refused_word (behind_space n),
      decimal_short 0 n h,
      behind_short n checksums small,
    )

line_short : (n : ℕ) (channel : Channel) (bytes : List ℕ) → n ≤ 8 → length (line_by (tells n channel bytes)) ≤ longest
unfolding header_in
line_short zero channel bytes h =
    let x = bytes_bits bytes in
    accepted_short (header_read bytes) (field_small 5 11 x) (field_small (5 + 11 + 7 + 11) 6 x) (field_small (5 + 11) 7 x)
line_short (suc n) channel bytes h =
    refused_short (suc n) (tells (suc n) channel bytes).checksums (omega arith) (told_small (suc n) channel bytes)

pub within_longest : WithinLongest
within_longest [] = line_short 1 A [] (omega arith)
within_longest (channel ∷ bytes) = line_short (first (refusals channel bytes)) (channel_of channel) bytes (refusal_within channel bytes)

-- ---- neither number can be smaller

-- 01's frame with another trailer: `refused 8 16777215 13655786`
longest_line : List ℕ
longest_line = 0 ∷ 0x20 ∷ 0x01 ∷ 0x01 ∷ 0xA7 ∷ 0xC0 ∷ 0xFF ∷ 0xFF ∷ 0xFF ∷ []

longest_told : read_input longest_line ≡ refused_with 8 (record { found = 16777215; expected = 13655786 })
unfolding longest_line bits number bytes_bits step feed checksum exor only_if not_a_channel channel_of first header_in
longest_told = refl

pub longest_exact : LongestExact
longest_exact =
    let found = behind_space 16777215 in
    let expected = behind_space 13655786 in
    let most = within_longest longest_line in
    let long : length (line_of longest_line) ≡ length (refused_line 8 (record { found = 16777215; expected = 13655786 })) =
    ap (λ (t : Told). length (line_by t)) longest_told in (
      longest_line,
      omega (
        arith,
        most,
        long,
        length-append (refused_word ++ behind_space 8 ++ (found ++ expected)) line_feed,
        length-append (refused_word ++ behind_space 8) (found ++ expected),
        length-append refused_word (behind_space 8),
        length-append found expected,
        decimal_long 0 8 (omega arith),
        decimal_long 7 16777215 (omega arith),
        decimal_long 7 13655786 (omega arith),
      ),
    )

-- a frame on A with the highest ID and cycle and the longest payload, behind its channel byte
longest_input : List ℕ
longest_input = 0 ∷ 0x07 ∷ 0xFF ∷ 0xFE ∷ 0x4D ∷ 0x7F ∷ (replicate most_payload 0 ++ (0x38 ∷ 0x8F ∷ 0xC6 ∷ []))

-- the same with a byte behind it, which is the last of the front
pub front_exact : FrontExact
unfolding longest_input bits number bytes_bits step feed checksum exor only_if not_a_channel channel_of first header_in decimal_within
front_exact =
    let input = longest_input ++ (0 ∷ []) in
    let cut : length (line_of (take (front - 1) input)) ≡ 21 = refl in
    let whole : length (line_of input) ≡ 10 = refl in
    (input, λ e. let same = ap length e in omega arith)
