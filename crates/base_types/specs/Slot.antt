-- Slots and frame IDs, which are the same numbers (01, "Frame layout").
use Rattle.std.specs.Prelude.{ℕ, Bool, ◌||◌, ltb}

-- "frame ID, 1 to 2047".
abbrev pub highest_id : ℕ
highest_id = 2047

-- 9: "ID or slot given is not 1 to 2047".
abbrev pub not_an_id : ℕ → Bool
not_an_id id = ltb id 1 || ltb highest_id id
