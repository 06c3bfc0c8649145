-- The list of a cycle: its rows, and what a measurement makes of it.
use Rattle.std.specs.Prelude.{ℕ, suc, Bool, true, false, not, ◌&&◌, ◌||◌, cond, List, [], ◌∷◌, map, eqb, leb, get_or, replicate, set, take, Option, None, Some}
use Rattle.base_types.specs.declared.channel.Channel.{Channel}
use Rattle.base_types.specs.declared.id.Slot.{Slot}
use Rattle.correction.specs.Terms.{most_ids}
use Rattle.sync_list.specs.declared.row.Measurement.{Measurement}
use Rattle.sync_list.specs.declared.row.Row.{Row}
use Rattle.sync_list.specs.declared.list.SyncList.{SyncList}
use Rattle.sync_list.specs.Rows.{blank, on, is_measured, with_measured}

-- ---- the rows

-- How many rows there is room for.
abbrev pub row_count : ℕ
row_count = most_ids

-- The rows that are listed: the first so many, and all where the count is above them.
abbrev pub listed : SyncList → List Row
listed l = take l.count l.rows

-- "both lists empty": no row is listed, and all are blank.
abbrev pub empty : SyncList
empty = record { rows = replicate row_count (blank (record { 0 = 0 })); count = 0 }

-- ---- IDs

abbrev pub id_of : Row → ℕ
id_of row = row.id.0

abbrev pub ids_of : List Row → List ℕ
ids_of rows = map id_of rows

-- Where an ID stands first; the number of IDs where it is not among them.
unfoldable pub place_among : ℕ → List ℕ → ℕ
place_among id [] = 0
place_among id (x ∷ xs) = cond (eqb x id) 0 (suc (place_among id xs))

unfoldable pub is_among : ℕ → List ℕ → Bool
is_among id [] = false
is_among id (x ∷ xs) = eqb x id || is_among id xs

-- "different IDs": no ID stands in two places.
unfoldable pub none_twice : List ℕ → Bool
none_twice [] = true
none_twice (x ∷ xs) = not (is_among x xs) && none_twice xs

-- ---- the row of an ID

abbrev pub place_of : Slot → SyncList → ℕ
place_of id l = place_among id.0 (ids_of (listed l))

-- The place, where the ID is listed.
abbrev pub place_in : Slot → SyncList → Option ℕ
place_in id l = cond (is_among id.0 (ids_of (listed l))) (Some (place_of id l)) None

-- A blank row where the ID is not listed.
abbrev pub row_in : Slot → List Row → Row
row_in id rows = get_or rows (place_among id.0 (ids_of rows)) (blank id)

-- ---- a measurement

-- 16: "same ID and channel already measured in this cycle".
abbrev pub is_measured_on : Slot → Channel → SyncList → Bool
is_measured_on id channel l = is_measured (on channel (row_in id (listed l)))

-- 15: "sync list holds its limit of different IDs and this ID isn't among them".
abbrev pub is_full_for : ℕ → Slot → SyncList → Bool
is_full_for limit id l = leb limit l.count && not (is_among id.0 (ids_of (listed l)))

-- The list with a measurement: in the row of its ID, or in a new row, which is the last. Where all rows are listed, a new ID leaves the
-- list as it is: below the limit there is room.
abbrev pub recorded : Slot → Channel → Measurement → SyncList → SyncList
recorded id channel m l =
    cond (leb row_count (place_of id l)) l
    (record {
      rows = set l.rows (place_of id l) (with_measured channel m (row_in id (listed l)));
      count = cond (is_among id.0 (ids_of (listed l))) l.count (suc (place_of id l));
    })
