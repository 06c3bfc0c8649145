-- `reported` meets its contract: what is claimed of a closing behind a sequence of calls.
use borrow.Author.Rules.{rules}
use mir.Facts.{to_z-of_z}
use Rattle.clock_claims.specs.Witnesses.{calls_of}
use Rattle.mark_claims.proofs.Marks.{reported_well}
use Rattle.mark_claims.proofs.reported.Goals as goal
use Rattle.mark_claims.proofs.reported.Goals.{Start}

pub returns : goal.returns
returns c =
    let s : Start = search rules in
    let a = s.args in
    reported_well (calls_of a.sheet a.other_sheet a.status a.other_status a.numbers.now) c.played-state.result a.offset_control a.rate_control
    c.close_cycle.result c.played-state.ensures.made (rw (to_z-of_z s.ranges.offset_control, to_z-of_z s.ranges.rate_control) at c.close_cycle.ensures)
