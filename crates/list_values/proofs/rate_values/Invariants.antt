-- `rate_values` meets its contract: the values of the rows passed are in their array.
use mathlib.Core.Path.{◌≡◌}
use mathlib.Core.List.{List}
use lib.ListN.{take}
use Rattle.base_types.specs.Microtick.{held}
use Rattle.correction.specs.Values.{Value, rate_value_by}
use Rattle.sync_list.specs.declared.row.Row.{Row}
use Rattle.sync_list.specs.Rows.{deviations_of}
use Rattle.sync_list.specs.Lists.{listed, row_in}
use Rattle.list_values.specs.Values.{in_array}
use Rattle.list_values.proofs.ValueLaws.{values_of}
use Rattle.list_values.proofs.rate_values.Given as goal

-- what a row adds, by the rows of the even list
abbrev pub rate_of : List Row → Row → Value
rate_of even row = rate_value_by held (deviations_of row) (deviations_of (row_in row.id even))

abbrev pub invariant-loop-row : goal.invariant-loop-row
invariant-loop-row l = l.values ≡ in_array (values_of (rate_of (listed l.even)) (take l.row-index l.rows))
