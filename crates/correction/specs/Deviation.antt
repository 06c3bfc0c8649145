-- The deviation of a frame (01, "Clock").
use Rattle.std.specs.Prelude.{ℕ, ℤ, pos, ◌-ℤ◌}

-- "Deviation = observed time - decoding correction - delay of that channel - expected action point".
abbrev pub deviation : ℕ → ℕ → ℕ → ℕ → ℤ
deviation observed correction delay action_point = pos observed -ℤ pos correction -ℤ pos delay -ℤ pos action_point
