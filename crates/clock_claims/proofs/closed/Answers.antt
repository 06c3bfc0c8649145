-- `closed` meets its contract: what is claimed of closing, of what it returned.
use borrow.Author.Rules.{rules}
use Rattle.numbers.proofs.Walk.{length-of_mapped}
use Rattle.clock_claims.specs.Typed.{TypedClock}
use Rattle.clock_claims.proofs.Typed.{typed_by}
use Rattle.clock_claims.proofs.Witnesses.{closed_well}
use mir.Facts.{to_z-of_z}
use Rattle.clock_claims.proofs.closed.Goals as goal
use Rattle.clock_claims.proofs.closed.Goals.{Start}

typed : (c : Start) → TypedClock c.args.state
typed c = search (rules, length-of_mapped, typed_by)

pub returns : goal.returns
returns c =
    let s = (goal.at.returns c).Start in
    closed_well s.args.state s.args.offset_control s.args.rate_control c.close_cycle.result (typed s)
    (rw (to_z-of_z s.ranges.offset_control, to_z-of_z s.ranges.rate_control) at c.close_cycle.ensures)
