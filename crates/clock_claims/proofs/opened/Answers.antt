-- `opened` meets its contract: what is claimed of opening, of what it returned.
use Rattle.clock_claims.proofs.Witnesses.{opened_well}
use Rattle.clock_claims.proofs.opened.Goals as goal

pub returns : goal.returns
returns c =
    opened_well c.args.state c.args.cycle c.open_cycle.result c.open_cycle.ensures
