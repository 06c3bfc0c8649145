-- `played` meets its contract: the invariant is that the state so far is the one that the calls so far leave.
use lib.ListN.{take}
use Rattle.clock_claims.specs.Witnesses.{calls_of, MadeBy}
use Rattle.clock_claims.proofs.played.Given as goal

abbrev pub invariant-loop-number : goal.invariant-loop-number
invariant-loop-number l = MadeBy (calls_of l.sheet l.other_sheet l.status l.other_status (take l.number-index l.numbers)) l.state
