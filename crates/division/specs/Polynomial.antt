-- Polynomials: written by their exponents, and what the laws of division ask of one, which is given by its width and by its number
-- without the top term.
use Rattle.std.specs.Prelude.{ℕ, ◌+◌, ◌%◌, ◌^◌, ◌≡◌, Bool, true, false, List, [], ◌∷◌}
use Rattle.division.specs.Bits.{bits}
use Rattle.division.specs.Differing.{ones}

-- The number whose ones stand at these exponents: x^2+1 is terms (2 ∷ 0 ∷ []), which is 5.
abbrev pub terms : List ℕ → ℕ
terms [] = 0
terms (k ∷ l) = 2 ^ k + terms l

-- The last bit of a string.
unfoldable pub last : List Bool → Bool
last [] = false
last (a ∷ []) = a
last (a ∷ b ∷ l) = last (b ∷ l)

-- The polynomial ends in 1.
abbrev pub EndsInOne : ℕ → ℕ → Type 0
EndsInOne width polynomial = last (bits width polynomial) ≡ true

-- The polynomial with its top term has an even number of ones.
abbrev pub EvenTerms : ℕ → ℕ → Type 0
EvenTerms width polynomial = ones (true ∷ bits width polynomial) % 2 ≡ 0
