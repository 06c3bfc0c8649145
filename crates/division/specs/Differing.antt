-- How two bit strings of one length differ: in how many bits, and the first and the last place, counted from 0 in sending order.
use Rattle.std.specs.Prelude.{ℕ, suc, ◌+◌, ◌≤◌, ◌<◌, ◌≡◌, Bool, true, false, cond, List, [], ◌∷◌, eqb, get_or}
use Rattle.division.specs.Bits.{bit}
use Rattle.division.specs.Division.{exor}

-- How many bits of a string are 1.
unfoldable pub ones : List Bool → ℕ
ones [] = 0
ones (b ∷ l) = bit b + ones l

-- The place of the first 1. Where no bit is 1, the length.
unfoldable pub first_one : List Bool → ℕ
first_one [] = 0
first_one (true ∷ l) = 0
first_one (false ∷ l) = suc (first_one l)

-- The place of the last 1: one further than in the rest of the string, if the rest has a 1. Where no bit is 1, 0.
unfoldable pub last_one : List Bool → ℕ
last_one [] = 0
last_one (b ∷ l) = cond (eqb (ones l) 0) 0 (suc (last_one l))

-- In how many bits two strings differ, and where first and last.
unfoldable pub differing : List Bool → List Bool → ℕ
differing x y = ones (exor x y)

unfoldable pub first_differing : List Bool → List Bool → ℕ
first_differing x y = first_one (exor x y)

unfoldable pub last_differing : List Bool → List Bool → ℕ
last_differing x y = last_one (exor x y)

-- Two strings differ nowhere but within `count` consecutive places, of which `place` is the first.
abbrev pub DifferWithin : List Bool → List Bool → ℕ → ℕ → Type 0
DifferWithin x y place count =
    (j : ℕ) → (get_or x j false ≡ get_or y j false → ⊥) → (place ≤ j) × (j < place + count)
