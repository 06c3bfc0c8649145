-- Which refusal an entry gives: the first, in document 01's order, whose condition holds.
use Rattle.std.specs.Prelude.{ℕ, zero, suc, ◌≡◌, Bool, true, false, ◌⊎◌}
use mathlib.Core.List.{List, [], ◌∷◌, ◌++◌, Memᴰ}

infix 70 ◌when◌
-- A line of an entry's list: a number of 01's table, and whether its condition holds ("given exactly when").
pub data Line : Type 0 where
  ◌when◌ : ℕ → Bool → Line

-- What comes back beside a number: one thing where nothing is refused, another where something is. (What three refusals tell besides their
-- number, docs/RULES.md says under "Refusal numbers".)
module _ {ℓ} {A : Type ℓ} where
  abbrev pub if_accepted : ℕ → A → A → A
  if_accepted zero this other = this
  if_accepted (suc n) this other = other

-- The number of the first line whose condition holds. 0, which is no refusal, where none does.
unfoldable pub first : List Line → ℕ
first [] = 0
first (n when true ∷ l) = n
first (n when false ∷ l) = first l

-- ---- the claim that each entry's number meets

-- No line's condition holds.
unfoldable pub none_holds : List Line → Bool
none_holds [] = true
none_holds (n when true ∷ l) = false
none_holds (n when false ∷ l) = none_holds l

-- The numbers of a list, in their order.
unfoldable pub numbers : List Line → List ℕ
numbers [] = []
numbers (n when c ∷ l) = n ∷ numbers l

-- No line has the number 0, which would say that nothing is refused.
unfoldable pub numbered : List Line → Bool
numbered [] = true
numbered (zero when c ∷ l) = false
numbered (suc n when c ∷ l) = numbered l

-- A line of the list has the number n, its condition holds, and no condition before it does.
pub record FirstAt (l : List Line) (n : ℕ) : Type 0 where
  pub before : List Line
  pub after : List Line
  pub parts : l ≡ before ++ (n when true ∷ after)
  pub earlier : none_holds before ≡ true

-- The number n is told by the order: it is 0 or the list's own, 0 only where no condition holds, and any other only where its
-- condition is the first that holds.
pub record InOrder (l : List Line) (n : ℕ) : Type 0 where
  pub listed : (n ≡ 0) ⊎ Memᴰ n (numbers l)
  pub accepted : n ≡ 0 → none_holds l ≡ true
  pub refused : (n ≡ 0 → ⊥) → FirstAt l n
