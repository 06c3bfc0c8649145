-- `measured_under` meets its contract: the mark of a status plays no part in measuring.
use borrow.Author.Rules.{rules}
use Rattle.mark_claims.proofs.Marks.{status_mark_free}
use Rattle.mark_claims.proofs.measured_under.Goals as goal
use Rattle.mark_claims.proofs.measured_under.Goals.{Start}

pub returns : goal.returns
returns c =
    let s : Start = search rules in
    let a = s.args in
    (status_mark_free a.mark a.state a.status a.observed a.action_point c.measure.result).0 c.measure.ensures
