-- What `write` writes, and its statement from the number that the order gives.
use Prim.Native.Nat.{ℕ, ◌+◌, ◌-◌, ◌/◌, ◌≤◌}
use mathlib.Core.Path.{◌≡◌, ap, ap₂, ◌∙◌}
use mathlib.Core.Bool.{false}
use mathlib.Core.List.{List, ◌++◌}
use native.Mathlib.Omega.{arith}
use borrow.Author.Tests.{ltb-false}
use lib.ListN.{length, take, drop, length-append}
use borrow.Rule.Slice.PartMut.{put_mid}
use Rattle.numbers.proofs.Truth.{neither}
use Rattle.division.specs.Bits.{odd, bits, bytes_of}
use Rattle.division.proofs.BytesLaws.{length-bytes_of}
use Rattle.base_types.specs.declared.channel.Channel.{Channel}
use Rattle.checksum.specs.Checksums.{frame_checksum}
use Rattle.header.specs.declared.Fields.{Fields}
use Rattle.header.specs.Layout.{most_payload, whole_header}
use Rattle.writing.specs.Refusals.{bad_payload}
use Rattle.lent_bytes.specs.Over.{over}
use Rattle.lent_bytes.proofs.OverLaws.{take-over, over_behind, lent_end}
use Rattle.writing.specs.Write.{header_of, header_and_payload, frame_bytes}

-- ---- what is written

-- header and payload take five bytes and the payload's
pub length-start : (fields : Fields) (payload : List ℕ) → length (header_and_payload fields payload) ≡ 5 + length payload
unfolding header_and_payload
length-start fields payload =
    length-append (bytes_of 5 (whole_header (header_of fields (length payload / 2)))) payload
    ∙ ap (λ (k : ℕ). k + length payload) (length-bytes_of 5 _)

pub length-frame : (channel : Channel) (fields : Fields) (payload : List ℕ) → length (frame_bytes channel fields payload) ≡ 8 + length payload
unfolding frame_bytes
length-frame channel fields payload =
    let start = header_and_payload fields payload in
    length-append start (bytes_of 3 (bits 24 (frame_checksum channel start)))
    ∙ ap₂ ◌+◌ (length-start fields payload) (length-bytes_of 3 (bits 24 (frame_checksum channel start))) ∙ omega arith

-- ---- what is laid

module _ (fields : Fields) (payload output : List ℕ) where
  -- the payload is copied behind the header
  pub payload_laid : (n : ℕ) (out part : List ℕ) → n ≡ length payload
      → out ≡ over (bytes_of 5 (whole_header (header_of fields (length payload / 2)))) output → part ≡ payload
      → put_mid 5 n out part ≡ over (header_and_payload fields payload) output
  unfolding over header_and_payload
  payload_laid n out part e header p =
      ap₂ (λ (x : List ℕ) (k : ℕ). take 5 out ++ (x ++ drop k (drop 5 out))) p e
      ∙ ap (λ (l : List ℕ). take 5 l ++ over payload (drop 5 l)) header
      ∙ over_behind (bytes_of 5 (whole_header (header_of fields (length payload / 2)))) payload output 5 (length-bytes_of 5 _)

-- and the trailer behind the payload
pub trailer_laid : (channel : Channel) (fields : Fields) (payload output out trailer : List ℕ) (checksum : ℕ)
    → let end = 5 + length payload in out ≡ over (header_and_payload fields payload) output
    → checksum ≡ frame_checksum channel (take end out)
    → trailer ≡ over (bytes_of 3 (bits 24 checksum)) (take (length out - end) (drop end out))
    → put_mid end (length out - end) out trailer ≡ over (frame_bytes channel fields payload) output
unfolding frame_bytes
trailer_laid channel fields payload output out trailer checksum laid fed t =
    let end = 5 + length payload in
    let start = header_and_payload fields payload in
    let long : length start ≡ end = length-start fields payload in
    let right : checksum ≡ frame_checksum channel start =
    fed ∙ ap (frame_checksum channel) (ap (take end) laid ∙ take-over start output end long) in
    lent_end end out (bytes_of 3 (bits 24 checksum)) trailer t
    ∙ ap₂ (λ (n : ℕ) (l : List ℕ). take end l ++ over (bytes_of 3 (bits 24 n)) (drop end l)) right laid
    ∙ over_behind start (bytes_of 3 (bits 24 (frame_checksum channel start))) output end long

-- a payload that is not refused is not above the longest
pub payload_at_most : (payload : List ℕ) → bad_payload payload ≡ false → length payload ≤ most_payload
payload_at_most payload e = ltb-false most_payload (length payload) (neither (odd (length payload)) _ e).1
