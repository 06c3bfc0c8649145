-- Nothing is refused exactly when the bytes are a frame.
use Prim.Native.Nat.{ℕ, ◌+◌, ◌*◌, ◌-◌, ◌%◌, ◌^◌, ◌<◌, ◌≤◌}
use mathlib.Core.Path.{◌≡◌, refl, sym, ap, ap₂, ◌∙◌}
use mathlib.Core.Bool.{Bool, true, false, false≢true, not, ◌||◌}
use mathlib.Core.List.{List, ◌++◌}
use native.Mathlib.Nat.{mod-eq_of_lt}
use native.Mathlib.Omega.{arith}
use borrow.Author.Tests.{ltb-false, eqb-true, eqb-false, not-false, le-ltb, eq-eqb, ne_eqb}
use lib.Dec.{ltb}
use lib.ListN.{length, take, drop}
use Rattle.base_types.specs.Cycle.{highest_cycle}
use Rattle.base_types.specs.Slot.{highest_id}
use Rattle.refusal.specs.Refusal.{first, numbered}
use Rattle.refusal.proofs.FirstLaws.{first_skip, first_end, not_refused}
use Rattle.division.specs.Bits.{odd, bits, number, bytes_bits, AreBytes}
use Rattle.division.proofs.BitsLaws.{number_bits, bits_number}
use Rattle.division.proofs.BytesLaws.{append_apart, length-bytes, bytes_inj, are_bytes_take, are_bytes_drop}
use Rattle.division.proofs.RegisterLaws.{checksum_lt}
use Rattle.base_types.specs.declared.channel.Channel.{Channel}
use Rattle.base_types.specs.Channel.{start_of}
use Rattle.checksum.specs.Checksums.{frame_polynomial, frame_division, frame_checksum}
use Rattle.header.specs.declared.Header.{Header}
use Rattle.header.specs.Layout.{most_words, longest_frame, whole_header, header_in}
use Rattle.header.specs.Refusals.{startup_without_sync}
use Rattle.header.proofs.HeaderLaws.{field_small}
use Rattle.frame.specs.Layout.{frame_checksum_of, Frame}
use Rattle.frame.specs.Refusals.{header_checksum_differs, words_not_size, id_zero}
use Rattle.frame.specs.Read.{header_read, payload_read, trailer_read, refusals_on}
use Rattle.frame.proofs.ReadLaws.{length-five, header_of_five}
use Rattle.frame_claims.proofs.FrameLaws.{length_whole, whole_header_lem, header_whole, length-trailer, three_parts, two_parts, length-payload, header_checksum_small, frame_size}

-- ---- startup only with sync, as a test and in words

pub only_with_lem : (startup sync : Bool) → startup_without_sync startup sync ≡ false → startup ≡ true → sync ≡ true
only_with_lem true true h e = refl
only_with_lem true false h e = absurd (false≢true (sym h))
only_with_lem false sync h e = absurd (false≢true e)

pub with_only : (startup sync : Bool) → (startup ≡ true → sync ≡ true) → startup_without_sync startup sync ≡ false
with_only true true h = refl
with_only true false h = absurd (false≢true (h refl))
with_only false sync h = refl

-- ---- what a field can hold

pub id_small : (bytes : List ℕ) → (header_read bytes).id.0 ≤ highest_id
unfolding header_in
id_small bytes = let small = field_small 5 11 (bytes_bits bytes) in omega arith

pub words_small : (bytes : List ℕ) → (header_read bytes).words ≤ most_words
unfolding header_in
words_small bytes = let small = field_small 16 7 (bytes_bits bytes) in omega arith

pub cycle_small : (bytes : List ℕ) → (header_read bytes).cycle.0 ≤ highest_cycle
unfolding header_in
cycle_small bytes = let small = field_small 34 6 (bytes_bits bytes) in omega arith

payload_are_bytes_lem : (bytes : List ℕ) → AreBytes bytes → AreBytes (payload_read bytes)
payload_are_bytes_lem bytes are = are_bytes_drop 5 (take (length bytes - 3) bytes) (are_bytes_take (length bytes - 3) bytes are)

-- ---- nothing is refused: it is a frame

module _ (channel : Channel) (bytes : List ℕ) (are : AreBytes bytes) (none : first (refusals_on channel bytes) ≡ 0) where
  pub accepted_frame : Frame channel bytes (header_read bytes) (payload_read bytes)
  unfolding numbered
  accepted_frame =
      let h = header_read bytes in
      let passed = not_refused (refusals_on channel bytes) refl none in
      let long : 8 ≤ length bytes = ltb-false (length bytes) 8 (passed 2) in
      let size : 8 + 2 * h.words ≡ length bytes = eqb-true _ _ (not-false _ (passed 5)) in
      let five = bytes_bits (take 5 bytes) in
      let middle = bytes_bits (payload_read bytes) in
      let last = bytes_bits (drop (length bytes - 3) bytes) in
      let header : five ≡ whole_header h =
      sym (header_whole five (length-five bytes (omega arith))) ∙ ap whole_header (sym (header_of_five bytes (omega arith))) in
      let covered : bytes_bits (take (length bytes - 3) bytes) ≡ whole_header h ++ middle =
      two_parts bytes long ∙ ap (λ (x : List Bool). x ++ middle) header in
      let trailer : last ≡ bits 24 (frame_checksum_of channel h (payload_read bytes)) =
      sym (bits_number 24 last (length-trailer bytes long))
      ∙ ap (bits 24) (eqb-true _ _ (not-false _ (passed 8)) ∙ ap (frame_division channel) covered) in
      let not_zero = eqb-false h.id.0 0 (passed 6) in
      record {
        are_bytes = are;
        payload_are_bytes = payload_are_bytes_lem bytes are;
        layout = three_parts bytes long ∙ ap₂ (λ (x y : List Bool). x ++ (middle ++ y)) header trailer;
        checksum = eqb-true _ _ (not-false _ (passed 4));
        id = (omega arith, id_small bytes);
        words = words_small bytes;
        payload_length = length-payload bytes long ∙ omega arith;
        cycle = cycle_small bytes;
        startup = only_with_lem h.startup h.sync (passed 7);
      }

-- ---- it is a frame, so nothing is refused, and these are its header and its payload

module _ {channel : Channel} {bytes : List ℕ} {header : Header} {payload : List ℕ} (f : Frame channel bytes header payload) where
  size : length bytes ≡ 8 + 2 * header.words
  size = frame_size f

  long : 8 ≤ length bytes
  long = omega (arith, size)

  -- the three parts, one after the other
  parts : (bytes_bits (take 5 bytes) ≡ whole_header header)
      × ((bytes_bits (payload_read bytes) ≡ bytes_bits payload) × (bytes_bits (drop (length bytes - 3) bytes) ≡ bits 24 (frame_checksum_of channel header payload)))
  parts =
      let middle = bytes_bits (payload_read bytes) in
      let last = bytes_bits (drop (length bytes - 3) bytes) in
      let trailer = bits 24 (frame_checksum_of channel header payload) in
      let first_two =
      append_apart (bytes_bits (take 5 bytes)) (middle ++ last) (whole_header header) (bytes_bits payload ++ trailer)
      (length-five bytes (omega (arith, long)) ∙ sym (length_whole header)) (sym (three_parts bytes long) ∙ f.layout) in
      let same_length : length (payload_read bytes) ≡ length payload = omega (arith, size, length-payload bytes long, f.payload_length) in (
        first_two.0,
        append_apart middle last (bytes_bits payload) trailer
            (length-bytes (payload_read bytes) ∙ ap (λ (k : ℕ). 8 * k) same_length ∙ sym (length-bytes payload))
            first_two.1,
      )

  pub frame_header : header_read bytes ≡ header
  frame_header =
      header_of_five bytes (omega (arith, long)) ∙ ap header_in parts.0
      ∙ whole_header_lem header f.id.1 f.words (rw f.checksum (header_checksum_small header)) f.cycle

  pub frame_payload : payload_read bytes ≡ payload
  frame_payload =
      bytes_inj (payload_read bytes) payload (payload_are_bytes_lem bytes f.are_bytes) f.payload_are_bytes
      parts.1.0

  trailer_right : trailer_read bytes ≡ frame_checksum channel (take (length bytes - 3) bytes)
  trailer_right =
      let c = frame_checksum_of channel header payload in
      let small : c < 2 ^ 24 = checksum_lt 24 frame_polynomial (start_of channel) (whole_header header ++ bytes_bits payload) in
      ap number parts.1.1 ∙ number_bits 24 c ∙ mod-eq_of_lt small
      ∙ ap (frame_division channel) (sym (two_parts bytes long ∙ ap₂ ◌++◌ parts.0 parts.1.0))

  pub frame_accepted : first (refusals_on channel bytes) ≡ 0
  frame_accepted =
      let even : odd (length bytes) ≡ false = ne_eqb (length bytes % 2) 1 (λ e. omega (arith, size)) in
      let at_most : ltb longest_frame (length bytes) ≡ false = le-ltb longest_frame (length bytes) (omega (arith, size, f.words)) in
      let moved : (g : Header → Bool) → g header ≡ false → g (header_read bytes) ≡ false = λ g e. ap g frame_header ∙ e in
      first_skip 2 _ (le-ltb (length bytes) 8 long)
      ∙ first_skip 3 _ (ap (λ (b : Bool). b || ltb longest_frame (length bytes)) even ∙ at_most)
      ∙ first_skip 4 _ (moved header_checksum_differs (ap not (eq-eqb _ _ f.checksum)))
      ∙ first_skip 5 _ (moved (λ h. words_not_size h bytes) (ap not (eq-eqb _ _ (sym size))))
      ∙ first_skip 6 _ (moved id_zero (ne_eqb header.id.0 0 (λ e. omega (arith, f.id.0))))
      ∙ first_skip 7 _ (moved (λ h. startup_without_sync h.startup h.sync) (with_only header.startup header.sync f.startup))
      ∙ first_skip 8 _ (ap not (eq-eqb _ _ trailer_right))
      ∙ first_end
