-- A number as text: "in decimal", without leading zeros.
use Rattle.std.specs.Prelude.{ℕ, zero, suc, ◌+◌, ◌/◌, ◌%◌, cond, List, [], ◌∷◌, ◌++◌, ltb}

-- The character of a digit: 0 has the code 48, and the others follow it.
abbrev pub digit : ℕ → ℕ
digit d = 48 + d

-- The digits of a number, given that it has at most so many: those of its tenth, and the last one behind them. A number below ten is its
-- own digit.
unfoldable pub decimal_within : ℕ → ℕ → List ℕ
decimal_within zero n = []
decimal_within (suc most) n = cond (ltb n 10) (digit n ∷ []) (decimal_within most (n / 10) ++ (digit (n % 10) ∷ []))

-- The number n has at most n + 1 digits.
abbrev pub decimal : ℕ → List ℕ
decimal n = decimal_within (suc n) n
