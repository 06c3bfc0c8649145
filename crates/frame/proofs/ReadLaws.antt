-- The header of bytes, their trailer and their payload.
use Prim.Native.Nat.{ℕ, ◌*◌, ◌+◌, ◌-◌, ◌<◌, ◌^◌, ◌≤◌}
use Rattle.division.proofs.BitsLaws.{bits_number, number_lt}
use Rattle.division.proofs.BytesLaws.{bytes_append, length-bytes}
use Rattle.division.specs.Bits.{bits, bytes_bits, number, odd}
use Rattle.frame.specs.Read.{header_read, payload_read, refusals, trailer_read}
use Rattle.header.proofs.HeaderLaws.{header_front}
use Rattle.header.specs.Layout.{header_in, longest_frame}
use Rattle.lent_bytes.proofs.NumberLaws.{number_in_all}
use Rattle.lent_bytes.specs.Putting.{number_in}
use Rattle.numbers.proofs.Truth.{neither}
use Rattle.refusal.proofs.FirstLaws.{not_refused}
use Rattle.refusal.specs.Refusal.{first, numbered}
use borrow.Author.Tests.{ltb-false}
use lib.ListN.{drop, length, length-drop, take, take-append-drop}
use lib.Seq.{length-take-le, take_all}
use mathlib.Core.List.{List}
use mathlib.Core.Path.{ap, refl, sym, ◌∙◌, ◌≡◌}
use native.Mathlib.Omega.{arith}
use mir.Syntax.{w32}
use mir.Val.{Fits}
use Rattle.std.proofs.lemmas.List.{drop-take}

-- the header that bytes begin with is that of their first five
pub length-five : (bytes : List ℕ) → 5 ≤ length bytes → length (bytes_bits (take 5 bytes)) ≡ 40
length-five bytes h = length-bytes (take 5 bytes) ∙ ap (λ (k : ℕ). 8 * k) (length-take-le 5 bytes h)

pub header_of_five : (bytes : List ℕ) → 5 ≤ length bytes → header_read bytes ≡ header_in (bytes_bits (take 5 bytes))
header_of_five bytes h =
    ap header_in (ap bytes_bits (sym (take-append-drop 5 bytes)) ∙ bytes_append (take 5 bytes) (drop 5 bytes))
    ∙ header_front (bytes_bits (take 5 bytes)) (bytes_bits (drop 5 bytes)) (length-five bytes h)

-- and of the number that they make
pub header_of_number : (bytes : List ℕ) → 5 ≤ length bytes → header_in (bits 40 (number (bytes_bits (take 5 bytes)))) ≡ header_read bytes
header_of_number bytes h =
    ap header_in (bits_number 40 (bytes_bits (take 5 bytes)) (length-five bytes h)) ∙ sym (header_of_five bytes h)

-- the header in the first five bytes is the bytes'
pub header_of_sent : (bytes : List ℕ) (sent : ℕ) → 8 ≤ length bytes → sent ≡ number_in (take 5 bytes) → header_in (bits 40 sent) ≡ header_read bytes
header_of_sent bytes sent h e =
    let five : length (take 5 bytes) ≡ 5 = length-take-le 5 bytes (omega arith) in
    ap (λ (n : ℕ). header_in (bits 40 n)) (e ∙ number_in_all (take 5 bytes) (omega arith)) ∙ header_of_number bytes (omega arith)

-- the number in the last three is the bytes' trailer, and fits
module _ (bytes : List ℕ) (trailer : ℕ) (h : 8 ≤ length bytes) where
  pub trailer_is : trailer ≡ number_in (take (length bytes - (length bytes - 3)) (drop (length bytes - 3) bytes)) → trailer ≡ trailer_read bytes
  trailer_is e =
      let end = length bytes - 3 in
      e ∙ ap number_in (take_all (length bytes - end) (drop end bytes) (omega (arith, length-drop end bytes)))
      ∙ number_in_all (drop end bytes) (omega (arith, length-drop end bytes))

  pub trailer_fits : trailer ≡ number_in (take (length bytes - (length bytes - 3)) (drop (length bytes - 3) bytes)) → Fits w32 trailer
  trailer_fits e =
      let end = length bytes - 3 in
      let size : length (bytes_bits (drop end bytes)) ≡ 24 = length-bytes (drop end bytes) ∙ omega (arith, length-drop end bytes) in
      let small : trailer_read bytes < 2 ^ 24 = rw size at (number_lt (bytes_bits (drop end bytes))) in
      omega (arith, trailer_is e)

-- from 5 up to size minus 3 lies the payload
pub payload_from_5 : (bytes : List ℕ) → 8 ≤ length bytes → take (length bytes - 3 - 5) (drop 5 bytes) ≡ payload_read bytes
payload_from_5 bytes h =
    let e : length bytes - 3 ≡ 5 + (length bytes - 3 - 5) = omega arith in
    sym (ap (λ (k : ℕ). drop 5 (take k bytes)) e ∙ drop-take 5 (length bytes - 3 - 5) bytes)

-- bytes that are accepted are not fewer than the shortest frame's, and not more than the longest one's
pub accepted_long : (channel : ℕ) (bytes : List ℕ) → first (refusals channel bytes) ≡ 0 → 8 ≤ length bytes
unfolding numbered
accepted_long channel bytes none = ltb-false (length bytes) 8 (not_refused (refusals channel bytes) refl none 2)

pub accepted_size : (channel : ℕ) (bytes : List ℕ) → first (refusals channel bytes) ≡ 0 → length bytes ≤ longest_frame
unfolding numbered
accepted_size channel bytes none =
    ltb-false longest_frame (length bytes) (neither (odd (length bytes)) _ (not_refused (refusals channel bytes) refl none 3)).1
