-- `pack` meets its contract. The invariant: what has been written, with what is still to come, is the packed stream.
use mathlib.Core.Path.{◌≡◌, refl, sym, ap, ap₂, ◌∙◌}
use Prim.Native.Nat.{ℕ, ◌+◌, ◌-◌, ◌/◌, ◌%◌, ◌^◌}
use mathlib.Core.Bool.{Bool}
use mathlib.Core.List.{List, ◌++◌}
use native.Mathlib.Numerals.{add-one}
use native.Mathlib.Omega.{arith}
use lib.ListN.{length, take, drop, length-set}
use Rattle.division.specs.Bits.{bits, bytes_of}
use Rattle.wire.specs.Stream.{stream}
use Rattle.wire.specs.Packing.{packed_size}
use Rattle.wire.specs.Pending.{tens, ten_bits, to_come, Filled}
use Rattle.wire.proofs.PackingLaws.{length-tens, length-to_come, length-stream, at_start, packed_by_eight, byte_written, all_written}
use Rattle.wire.proofs.packing.pack.Goals as goal

pub loop-slot-init : goal.loop-slot-init
loop-slot-init c =
    let bytes = c.args.bytes.now in
    let start = c.args.start in
    let size : length c.args.output.now - 0 ≡ packed_size (length (stream start bytes)) = omega arith in (
      refl,
      omega arith,
      omega arith,
      omega arith,
      ap₂ bytes_of size (at_start start bytes (λ i. (c.type_inv.bytes i).fits)) ∙ packed_by_eight (stream start bytes),
    )

pub filled-pending-requires : goal.filled-pending-requires
filled-pending-requires c =
    let bytes = c.args.bytes.now in
    let size = length-stream c.args.start bytes in
    record { bytes_len_bound = (omega arith, omega arith, omega (arith, length-tens bytes)); taken_in_bounds = λ few. omega arith }

pub loop-slot-preserved : goal.loop-slot-preserved
loop-slot-preserved c =
    let l = c.loop-slot in
    let bytes = c.args.bytes.now in
    let next = c.filled-pending.result in
    let says : Filled l.pending bytes next = c.filled-pending.ensures in
    let rest = next.count - 8 in
    let byte = next.held / 2 ^ rest % 256 in
    let behind = ten_bits (drop next.taken (tens bytes)) in
    let whole : 8 + rest ≡ next.count = omega (arith, says.enough) in
    let long = length-set l.output l.slot-index byte in
    let lengths = sym (length-to_come next bytes) ∙ ap length says.same ∙ length-to_come l.pending bytes in (
      long ∙ l.invariant.0,
      omega (arith, says.few),
      omega (arith, says.taken, length-tens bytes),
      omega (arith, lengths, says.enough, l.invariant.3),
      rw (add-one l.slot-index, long)
          (byte_written l.output l.slot-index rest next.held behind (omega arith)
          ∙ ap (λ (x : List Bool). take l.slot-index l.output ++ bytes_of (length l.output - l.slot-index) x)
          (ap (λ (w : ℕ). bits w next.held ++ behind) whole ∙ says.same)
          ∙ l.invariant.4),
    )

pub returns : goal.returns
returns c =
    let l = c.loop-slot in
    sym (all_written l.output l.slot-index (to_come l.pending c.args.bytes.now) (omega arith)) ∙ l.invariant.4
