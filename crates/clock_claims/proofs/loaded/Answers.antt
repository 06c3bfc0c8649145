-- `loaded` meets its contract: what is claimed of loading, of what it returned.
use borrow.Author.Rules.{rules}
use Rattle.settings_claims.specs.Sheet.{TypedSettings}
use Rattle.clock_claims.proofs.Witnesses.{loaded_well}
use Rattle.clock_claims.proofs.loaded.Goals as goal

pub returns : goal.returns
returns c =
    let typed : TypedSettings c.args.settings = search rules in
    loaded_well c.args.settings c.load.result typed c.load.ensures
