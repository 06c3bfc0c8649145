-- `row_of` meets its contract.
use mathlib.Core.Path.{◌∙◌}
use Rattle.sync_list.specs.Lists.{listed}
use Rattle.sync_list.proofs.PlaceLaws.{found_in}
use Rattle.sync_list.proofs.list.SyncList.row_of.Goals as goal

pub returns : goal.returns
returns c =
    (rw (c.copied.ensures, c.row_among.ensures, c.listed.ensures.value, c.blank.ensures) at c.unwrap_or.ensures) ∙ found_in c.args.id (listed c.args.self.now)
