-- The midpoint in words: what its rules give, said with no sort and no quotient, so that rule and code cannot be wrong together.
use Rattle.std.specs.Prelude.{ℕ, ◌<◌, ◌≤◌, ◌≡◌, true, ◌⊎◌, ℤ, pos, ◌+ℤ◌, ◌-ℤ◌, length}
use mathlib.Core.List.{List, ◌∷◌, ◌++◌, Memᴰ}
use Rattle.std.specs.Int.Signed.{le_z, lt_z}
use Rattle.midpoint.specs.Midpoint.{half, sort, discarded, midpoint}
use Rattle.midpoint.specs.Order.{Permuted}

-- ---- the words

abbrev pub AtMost : ℤ → ℤ → Type 0
AtMost x y = le_z x y ≡ true

-- This number is among them.
abbrev pub Among : ℤ → List ℤ → Type 0
Among x l = Memᴰ x l

-- Every number of the first list is at most every number of the second.
abbrev pub AllAtMost : List ℤ → List ℤ → Type 0
AllAtMost l m = (x y : ℤ) → Among x l → Among y m → AtMost x y

-- No number is above the one behind it.
abbrev pub InOrder : List ℤ → Type 0
InOrder l = (before after : List ℤ) (x y : ℤ) → l ≡ before ++ (x ∷ y ∷ after) → AtMost x y

-- "discard the k largest and k smallest": the values in three parts.
pub record Discarding (l low left high : List ℤ) : Type 0 where
  -- Each value is in one part.
  pub parts : Permuted l (low ++ (left ++ high))
  -- So many are discarded at each end.
  pub low_many : length low ≡ discarded (length l)
  pub high_many : length high ≡ discarded (length l)
  -- They are the smallest and the largest.
  pub lowest : AllAtMost low left
  pub highest : AllAtMost left high

-- "the smallest and largest left".
pub record Outermost (left : List ℤ) (smallest largest : ℤ) : Type 0 where
  pub smallest_left : Among smallest left
  pub none_smaller : (x : ℤ) → Among x left → AtMost smallest x
  pub largest_left : Among largest left
  pub none_larger : (x : ℤ) → Among x left → AtMost x largest

-- ---- the claims

-- "Halving drops the fraction toward zero": twice the half is the number, or one nearer to 0.
abbrev pub HalfExactly : Type 0
HalfExactly =
    (z : ℤ)
    → (half z +ℤ half z ≡ z)
    ⊎ ((half z +ℤ half z +ℤ pos 1 ≡ z) × (lt_z (pos 0) z ≡ true))
    ⊎ ((half z +ℤ half z -ℤ pos 1 ≡ z) × (lt_z z (pos 0) ≡ true))

-- "k = 0 for n 1-2, 1 for 3-7, 2 for 8 and more".
pub record DiscardedExactly : Type 0 where
  pub none : (n : ℕ) → n ≤ 2 → discarded n ≡ 0
  pub one : (n : ℕ) → 3 ≤ n → n ≤ 7 → discarded n ≡ 1
  pub two : (n : ℕ) → 8 ≤ n → discarded n ≡ 2

-- Sorting gives the same numbers, in order.
abbrev pub SortedExactly : Type 0
SortedExactly = (l : List ℤ) → Permuted (sort l) l × InOrder (sort l)

-- "halve the sum of the smallest and largest left", whichever way the values are discarded.
abbrev pub MidpointExactly : Type 0
MidpointExactly =
    (l low left high : List ℤ) (smallest largest : ℤ)
    → Discarding l low left high → Outermost left smallest largest
    → midpoint l ≡ half (smallest +ℤ largest)

-- And of one value or more there is such a way.
abbrev pub CanBeDiscarded : Type 0
CanBeDiscarded =
    (l : List ℤ) → 0 < length l
    → (low : List ℤ) × (left : List ℤ) × (high : List ℤ) × (smallest : ℤ) × (largest : ℤ)
    × Discarding l low left high × Outermost left smallest largest
