-- `feed_byte` meets its contract: the law of the table, at 24 bits of 32.
use Prim.Native.Nat.{◌*◌, ◌/◌, ◌^◌, ◌<◌, min}
use mathlib.Core.Path.{◌≡◌, sym, ◌∙◌, ap, ap₂}
use native.Mathlib.Omega.{arith}
use lib.Bits.{bit_xor, xor_lt}
use Rattle.division.specs.Bits.{bits}
use Rattle.division.specs.Table.{entry}
use Rattle.division.proofs.TurnLaws.{fed}
use Rattle.division.proofs.MachineLaws.{cut}
use Rattle.division.proofs.TableLaws.{looks_up}
use Rattle.checksum.specs.Checksums.{frame_polynomial}
use Rattle.checksum.proofs.feed_byte.Goals as goal

pub returns : goal.returns
returns c =
    let a = c.args in
    let top = a.register / 2 ^ 16 in
    let index = bit_xor top a.byte in
    let small : index < 2 ^ 8 = xor_lt 8 top a.byte (omega (arith, c.requires)) (omega (arith, c.ranges.byte)) in
    let whole : min index 255 ≡ index = omega arith in
    let found : c.entry.result ≡ entry 24 frame_polynomial (min index 255) = rw c.from.ensures at c.entry.ensures in
    fed 24 frame_polynomial a.register _ (bits 8 a.byte)
    (ap₂ bit_xor (cut 8 24 (a.register * 2 ^ 8)) (found ∙ ap (entry 24 frame_polynomial) whole)
    ∙ sym (looks_up 24 frame_polynomial (omega arith) a.register a.byte))
