-- `take` meets its contract: a piece, sample after sample.
use mathlib.Core.Path.{◌≡◌}
use mathlib.Core.Bool.{true}
use mathlib.Core.List.{map}
use Prim.Native.Nat.{◌≤◌}
use lib.ListN.{length, drop}
use Rattle.wire_reader.specs.Reader.{piece, state_of}
use Rattle.wire_reader.specs.Sound.{sound}
use Rattle.wire_reader.specs.Listening.{is_high, heard}
use Rattle.wire_reader.proofs.PieceLaws.{added}
use Rattle.wire_reader.proofs.listening.take.Given as goal

abbrev pub invariant-loop-i : goal.invariant-loop-i
invariant-loop-i l = (l.i ≤ length l.samples) × (length l.memory ≡ length l.initial.memory) × (sound l.state ≡ true) × (l.state.channel ≡ l.initial.state.channel)
    × (added l.i (piece l.initial.state.channel (state_of l.state l.memory) (map is_high (drop l.i l.samples))) ≡ heard l.initial.state l.samples l.initial.memory)
