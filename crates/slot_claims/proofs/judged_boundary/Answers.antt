-- What the statement of an event gives.
use Rattle.slot_claims.proofs.Witnesses.{judged_well}
use Rattle.slot_claims.proofs.judged_boundary.Goals as goal

pub returns : goal.returns
returns c =
    judged_well _ _ _ c.boundary.ensures
