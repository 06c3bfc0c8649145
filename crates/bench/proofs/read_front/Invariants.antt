-- `read_front` ends: what is not read yet gets less in each turn, since a turn that reads nothing is the last. What was read stands at the front.
use Rattle.std.specs.Prelude.{◌-◌, ◌≤◌, ◌≡◌, length, take}
use Rattle.std.specs.Io.KnownBytes.{Consumes}
use Rattle.bench.proofs.read_front.Given as goal

abbrev pub invariant-loop-size : goal.invariant-loop-size
invariant-loop-size g l = (l.size ≤ length l.front) × (length l.front ≡ length l.initial.front)
    × Consumes (g.R.Read.remaining l.initial.input) (g.R.Read.remaining l.input) (take l.size l.front)

abbrev pub decreases-loop-size : goal.decreases-loop-size
decreases-loop-size g l = length l.front - l.size
