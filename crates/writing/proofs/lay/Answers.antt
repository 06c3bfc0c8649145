-- `lay` meets its contract: header, payload and trailer, each laid behind what lies there.
use mathlib.Core.Path.{◌≡◌, ap, ◌∙◌}
use Prim.Native.Nat.{ℕ, ◌+◌, ◌-◌, ◌/◌}
use mathlib.Core.Bool.{Bool}
use mathlib.Core.List.{List}
use native.Mathlib.Nat.{sub-zero}
use native.Mathlib.Omega.{arith}
use lib.ListN.{length, take}
use borrow.Rule.Slice.PartMut.{put_mid}
use Rattle.division.specs.Bits.{bytes_of}
use Rattle.checksum.specs.Checksums.{frame_checksum}
use Rattle.header.specs.Layout.{whole_header}
use Rattle.lent_bytes.specs.Over.{over}
use Rattle.lent_bytes.proofs.NumberLaws.{number_put_lem}
use Rattle.writing.specs.Write.{header_of}
use Rattle.writing.proofs.WriteLaws.{payload_laid, trailer_laid}
use Rattle.writing.proofs.lay.Goals as goal

pub returns : goal.returns
returns c =
    let a = c.args in
    let payload = a.payload.now in
    let output = a.output.now in
    let end = 5 + length payload in
    let header : c.put_number.new.output ≡ over (bytes_of 5 (whole_header (header_of a.fields (length payload / 2)))) output =
    c.put_number.ensures ∙ number_put_lem c.packed.result 5 output (omega arith) (omega arith)
    ∙ ap (λ (x : List Bool). over (bytes_of 5 x) output) (c.packed.ensures.result_value ∙ ap whole_header c.header_of.ensures) in
    let out = put_mid 5 (end - 5) c.put_number.new.output c.copy_from_slice.new.self in
    let laid = payload_laid a.fields payload output (end - 5) c.put_number.new.output c.copy_from_slice.new.self (omega arith) header c.copy_from_slice.ensures.after in
    let checksum = c.frame_checksum_on-checksum in
    let fed : checksum.result ≡ frame_checksum a.channel (take end out) =
    checksum.ensures ∙ ap (λ (k : ℕ). frame_checksum a.channel (take k out)) (sub-zero end) in
    trailer_laid a.channel a.fields payload output out c.put_trailer.new.output checksum.result laid fed c.put_trailer.ensures
