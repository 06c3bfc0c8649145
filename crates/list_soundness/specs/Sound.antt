-- Which lists are sound (01, "Refusal numbers": "each list holds at most field 4 different IDs, each 1 to 2047 and once per channel,
-- with deviations in their range"; 02, C-17: "all listed measurements carry the mark of the loaded settings").
use Rattle.std.specs.Prelude.{ℕ, Bool, true, not, ◌&&◌, ◌||◌, List, eqb, leb, None, Some}
use Rattle.std.specs.List.{list_all}
use Rattle.base_types.specs.Slot.{not_an_id}
use Rattle.base_types.specs.Microtick.{is_deviation}
use Rattle.settings.specs.declared.Mark.{Mark}
use Rattle.sync_list.specs.declared.row.Row.{Row}
use Rattle.sync_list.specs.declared.list.SyncList.{SyncList}
use Rattle.sync_list.specs.Rows.{Measured, is_measured}
use Rattle.sync_list.specs.Lists.{listed, id_of, ids_of, none_twice}

-- "with deviations in their range". Where nothing was measured, nothing is asked.
abbrev pub is_in_range : Measured → Bool
is_in_range None = true
is_in_range (Some m) = is_deviation m.deviation.0

-- An ID of a frame, at least one measurement (a row is there for one), and deviations in their range.
abbrev pub row_sound : Row → Bool
row_sound row =
    not (not_an_id (id_of row))
    && ((is_measured row.on_a || is_measured row.on_b) && (is_in_range row.on_a && is_in_range row.on_b))

-- Each of the rows is as asked.
unfoldable pub each_row : (Row → Bool) → List Row → Bool
each_row asked rows = list_all asked rows

abbrev pub rows_sound : List Row → Bool
rows_sound rows = each_row row_sound rows

-- C-17: the measurement carries the mark. Where nothing was measured, nothing is asked.
abbrev pub carries : Mark → Measured → Bool
carries mark None = true
carries mark (Some m) = eqb m.mark.0 mark.0

-- On either channel.
abbrev pub row_marked : Mark → Row → Bool
row_marked mark row = carries mark row.on_a && carries mark row.on_b

abbrev pub all_marked : Mark → List Row → Bool
all_marked mark rows = each_row (row_marked mark) rows

-- At most `limit` rows, each one sound, and no ID in two of them: the rows then are the different IDs. All measurements carry the mark.
abbrev pub list_sound : ℕ → Mark → SyncList → Bool
list_sound limit mark l =
    leb l.count limit && (rows_sound (listed l) && (none_twice (ids_of (listed l)) && all_marked mark (listed l)))
