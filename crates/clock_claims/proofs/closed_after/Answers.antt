-- `closed_after` meets its contract: what is claimed of a closing behind a sequence of calls.
use mir.Facts.{to_z-of_z}
use Rattle.clock_claims.specs.Witnesses.{calls_of}
use Rattle.clock_claims.proofs.Witnesses.{closed_after_well}
use Rattle.clock_claims.proofs.closed_after.Goals as goal
use Rattle.clock_claims.proofs.closed_after.Goals.{Start}

pub returns : goal.returns
returns c =
    let s = (goal.at.returns c).Start in
    let a = s.args in
    closed_after_well (calls_of a.sheet a.other_sheet a.status a.other_status a.numbers.now) c.played-state.result a.offset_control a.rate_control
    c.close_cycle.result c.played-state.ensures.made (rw (to_z-of_z s.ranges.offset_control, to_z-of_z s.ranges.rate_control) at c.close_cycle.ensures)
