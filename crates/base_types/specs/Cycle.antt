-- Cycles (01, "Frame layout").
use Rattle.std.specs.Prelude.{ℕ, ◌%◌, Bool, eqb, ltb}
use Rattle.base_types.specs.declared.cycle.Cycle.{Cycle}

-- "cycle, 0 to 63".
abbrev pub highest_cycle : ℕ
highest_cycle = 63

-- 11: "cycle above 63".
abbrev pub cycle_too_high : ℕ → Bool
cycle_too_high cycle = ltb highest_cycle cycle

-- A cycle that is not odd is even.
abbrev pub is_odd : Cycle → Bool
is_odd cycle = eqb (cycle.0 % 2) 1
