-- `pack` meets its contract. The invariant: what has been written, with what is still to come, is the packed stream.
use mathlib.Core.Path.{◌≡◌}
use Prim.Native.Nat.{suc, ◌+◌, ◌*◌, ◌-◌, ◌≤◌}
use mathlib.Core.List.{◌++◌}
use lib.ListN.{length, take}
use Rattle.division.specs.Bits.{bytes_of}
use Rattle.wire.specs.Stream.{stream}
use Rattle.wire.specs.Packing.{packed}
use Rattle.wire.specs.Pending.{to_come}
use Rattle.wire.proofs.packing.pack.Given as goal

abbrev pub invariant-loop-slot : goal.invariant-loop-slot
invariant-loop-slot l = (length l.output ≡ length l.initial.output) × (l.pending.count ≤ 17) × (l.pending.taken ≤ suc (length l.bytes))
    × (8 * l.slot-index + (l.pending.count + 10 * (suc (length l.bytes) - l.pending.taken)) ≡ l.start + 1 + 10 * suc (length l.bytes))
    × (take l.slot-index l.output ++ bytes_of (length l.output - l.slot-index) (to_come l.pending l.bytes) ≡ packed (stream l.start l.bytes))

abbrev pub decreases-loop-slot : goal.decreases-loop-slot
decreases-loop-slot l = length l.initial.output - l.slot-index
