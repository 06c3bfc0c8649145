-- The values that the IDs of a list add to a midpoint (01, "Clock").
use Rattle.std.specs.Prelude.{◌-◌, List, [], ◌∷◌, ◌++◌, map, ℤ, pos, length, replicate, None, Some}
use Rattle.midpoint.specs.Midpoint.{most_values}
use Rattle.correction.specs.declared.term.Values.{Values}
use Rattle.base_types.specs.Microtick.{whole}
use Rattle.correction.specs.Values.{Value, offset_value, rate_value_by}
use Rattle.sync_list.specs.declared.row.Row.{Row}
use Rattle.sync_list.specs.Rows.{deviations_of}
use Rattle.sync_list.specs.Lists.{row_in}

-- A value before others, where it is one.
abbrev pub before : Value → List ℤ → List ℤ
before None numbers = numbers
before (Some x) numbers = x.0 ∷ numbers

-- The numbers of those values that are there.
unfoldable pub present : List Value → List ℤ
present [] = []
present (value ∷ values) = before value (present values)

-- The offset value of each ID.
abbrev pub offset_values : List Row → List ℤ
offset_values rows = present (map (λ (row : Row). offset_value (deviations_of row)) rows)

-- The rate value of each ID that was measured in the odd cycle, by what was measured of it in the even one.
abbrev pub rate_values_by : (ℤ → ℤ) → List Row → List Row → List ℤ
rate_values_by hold odd even = present (map (λ (row : Row). rate_value_by hold (deviations_of row) (deviations_of (row_in row.id even))) odd)

abbrev pub rate_values : List Row → List Row → List ℤ
rate_values = rate_values_by whole

-- Numbers in the array that a midpoint is taken of: as many zeros behind them as there is room for.
abbrev pub in_array : List ℤ → Values
in_array numbers = record { numbers = numbers ++ replicate (most_values - length numbers) (pos 0); count = length numbers }
