-- A claim about numbers as text, in words: "in decimal", without leading zeros.
use Rattle.std.specs.Prelude.{ℕ, ◌+◌, ◌*◌, ◌-◌, ◌≤◌, ◌≡◌, List, [], ◌∷◌}
use Rattle.bench_line.specs.Decimal.{digit, decimal}

-- The number that text says: each digit counts ten times what stands before it, and itself.
unfoldable pub value_from : ℕ → List ℕ → ℕ
value_from before [] = before
value_from before (character ∷ text) = value_from (10 * before + (character - 48)) text

-- Every character is one of the ten digits.
abbrev pub AreDigits : List ℕ → Type 0
AreDigits [] = Unit
AreDigits (character ∷ text) = (digit 0 ≤ character) × (character ≤ digit 9) × AreDigits text

-- Text that begins with 0 is nothing but that.
abbrev pub NoLeadingZero : List ℕ → Type 0
NoLeadingZero [] = ⊥
NoLeadingZero (character ∷ text) = character ≡ digit 0 → text ≡ []

pub record Spells (n : ℕ) (text : List ℕ) : Type 0 where
  pub says : value_from 0 text ≡ n
  pub digits : AreDigits text
  pub plain : NoLeadingZero text

abbrev pub DecimalExactly : Type 0
DecimalExactly = (n : ℕ) → Spells n (decimal n)
