-- `listed` meets its contract: what is claimed of every state that calls lead to.
use borrow.Author.Rules.{rules}
use Rattle.clock_claims.specs.Witnesses.{calls_of}
use Rattle.mark_claims.proofs.Marks.{listed_marked}
use Rattle.mark_claims.proofs.listed.Goals as goal
use Rattle.mark_claims.proofs.listed.Goals.{Start}

pub returns : goal.returns
returns c =
    let s : Start = search rules in
    let a = s.args in
    let made = c.played.ensures.made in
    listed_marked (calls_of a.sheet a.other_sheet a.status a.other_status a.numbers.now) made.0 c.played.result made.1
