-- `place` meets its contract.
use mathlib.Core.Path.{◌∙◌}
use Rattle.sync_list.specs.Lists.{listed}
use Rattle.sync_list.proofs.PlaceLaws.{position_in}
use Rattle.sync_list.proofs.list.SyncList.place.Goals as goal

pub returns : goal.returns
returns c =
    (rw c.listed.ensures.value at c.place_among.ensures) ∙ position_in c.args.id (listed c.args.self.now)
