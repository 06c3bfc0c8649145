-- `measured` meets its contract: what is claimed of measuring, of what it returned.
use borrow.Author.Rules.{rules}
use Rattle.numbers.proofs.Walk.{length-of_mapped}
use Rattle.clock_claims.specs.Typed.{TypedClock}
use Rattle.clock_claims.proofs.Typed.{typed_by}
use Rattle.clock_claims.proofs.Witnesses.{measured_well}
use Rattle.clock_claims.proofs.measured.Goals as goal
use Rattle.clock_claims.proofs.measured.Goals.{Start}

typed : (c : Start) → TypedClock c.args.state
typed c = search (rules, length-of_mapped, typed_by)

pub returns : goal.returns
returns c =
    let a = c.args in
    measured_well a.state a.status a.observed a.action_point c.measure.result (typed (goal.at.returns c).Start) c.measure.ensures
