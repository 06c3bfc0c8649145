-- The rows of a sound list: their deviations are in range.
use mathlib.Core.Path.{◌≡◌, refl}
use mathlib.Core.Bool.{true, not, ◌||◌}
use mathlib.Core.List.{List}
use Rattle.numbers.proofs.Truth.{both_true}
use Rattle.base_types.specs.declared.id.Slot.{Slot}
use Rattle.base_types.specs.Slot.{not_an_id}
use Rattle.sync_list.specs.declared.row.Row.{Row}
use Rattle.sync_list.specs.Rows.{is_measured}
use Rattle.sync_list.specs.Lists.{id_of, row_in}
use Rattle.list_soundness.specs.Sound.{is_in_range, row_sound, rows_sound}
use Rattle.list_soundness.proofs.EachLaws.{each_in}

-- both channels' deviations of a row are in their range
pub record Ranged (row : Row) : Type 0 where
  pub on_a : is_in_range row.on_a ≡ true
  pub on_b : is_in_range row.on_b ≡ true

pub row_ranged : (row : Row) → row_sound row ≡ true → Ranged row
row_ranged row e =
    let h₁ = both_true (not (not_an_id (id_of row))) _ e in
    let h₂ = both_true (is_measured row.on_a || is_measured row.on_b) _ h₁.1 in
    let h₃ = both_true (is_in_range row.on_a) (is_in_range row.on_b) h₂.1 in
    record { on_a = h₃.0; on_b = h₃.1 }

-- the row of an ID, also where it is blank
pub in_ranged : (rows : List Row) (id : Slot) → rows_sound rows ≡ true → Ranged (row_in id rows)
in_ranged rows id e = each_in row_sound Ranged row_ranged rows id e (record { on_a = refl; on_b = refl })
