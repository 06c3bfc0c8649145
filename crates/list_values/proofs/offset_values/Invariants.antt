-- `offset_values` meets its contract: the values of the rows passed are in their array.
use mathlib.Core.Path.{◌≡◌}
use lib.ListN.{take}
use Rattle.correction.specs.Values.{Value, offset_value}
use Rattle.sync_list.specs.declared.row.Row.{Row}
use Rattle.sync_list.specs.Rows.{deviations_of}
use Rattle.list_values.specs.Values.{in_array}
use Rattle.list_values.proofs.ValueLaws.{values_of}
use Rattle.list_values.proofs.offset_values.Given as goal

-- what a row adds
abbrev pub offset_of : Row → Value
offset_of row = offset_value (deviations_of row)

abbrev pub invariant-loop-row : goal.invariant-loop-row
invariant-loop-row l = l.values ≡ in_array (values_of offset_of (take l.row-index l.rows))
