-- Samples played to their end: what was counted and what is left make the whole, call after call.
use Rattle.std.proofs.Common.{◌-◌, length}
use Rattle.reader_claims.specs.Pending.{SoFar}
use Rattle.reader_claims.proofs.play.Given as goal

abbrev pub invariant-loop-at : goal.invariant-loop-at
invariant-loop-at l = SoFar l.initial.state l.samples l.initial.memory l.memory l.state l.at l.frames l.errors

abbrev pub decreases-loop-at : goal.decreases-loop-at
decreases-loop-at l = length l.samples - l.at
