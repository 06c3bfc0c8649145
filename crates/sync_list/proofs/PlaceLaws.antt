-- Where an ID stands, and whether it stands there.
use Prim.Native.Nat.{ℕ, suc, ◌+◌, ◌≤◌}
use mathlib.Core.Path.{◌≡◌, refl, ap, ◌∙◌}
use mathlib.Core.Bool.{Bool, true, false, cond}
use mathlib.Core.List.{List, [], ◌∷◌}
use native.Mathlib.Omega.{arith}
use borrow.Author.Tests.{ltb-true, ltb-false, lt-ltb, le-ltb}
use lib.Dec.{eqb, ltb}
use lib.ListN.{length, length-map}
use Rattle.std.specs.Prelude.{position, find, unwrap_or, Some, None}
use Rattle.std.specs.List.{position_or_len}
use Rattle.std.proofs.lemmas.List.Recursion.{is_position_or_len}
use Rattle.numbers.proofs.Walk.{cases}
use Rattle.base_types.specs.declared.id.Slot.{Slot}
use Rattle.sync_list.specs.declared.row.Row.{Row}
use Rattle.sync_list.specs.Rows.{blank}
use Rattle.sync_list.specs.Lists.{id_of, ids_of, place_among, is_among, row_in}

module _ (id : ℕ) where
  pub place_none : place_among id [] ≡ 0
  unfolding place_among
  place_none = refl

  pub place_here : (x : ℕ) (xs : List ℕ) → eqb x id ≡ true → place_among id (x ∷ xs) ≡ 0
  unfolding place_among
  place_here x xs e = ap (λ (b : Bool). cond b 0 (suc (place_among id xs))) e

  pub place_later : (x : ℕ) (xs : List ℕ) → eqb x id ≡ false → place_among id (x ∷ xs) ≡ suc (place_among id xs)
  unfolding place_among
  place_later x xs e = ap (λ (b : Bool). cond b 0 (suc (place_among id xs))) e

  pub place_most : (xs : List ℕ) → place_among id xs ≤ length xs
  place_most [] = rw place_none (omega arith)
  place_most (x ∷ xs) =
      let rest : place_among id xs ≤ length xs = place_most xs in
      cases (eqb x id)
      (λ e. rw (place_here x xs e) (omega arith))
      (λ e. rw (place_later x xs e) (omega arith))

  -- it is among them where it has a place
  pub among_place : (xs : List ℕ) → ltb (place_among id xs) (length xs) ≡ is_among id xs
  unfolding place_among is_among
  among_place [] = refl
  among_place (x ∷ xs) =
      let rest : ltb (place_among id xs) (length xs) ≡ is_among id xs = among_place xs in
      cases (eqb x id)
      (λ e. rw (place_here x xs e, e) (lt-ltb 0 (length (x ∷ xs)) (omega arith)))
      (λ e. rw (place_later x xs e, e) (later (place_among id xs) (length xs) ∙ rest))
    where
      later : (a b : ℕ) → ltb (suc a) (suc b) ≡ ltb a b
      later a b =
          cases (ltb a b)
          (λ t. rw t (lt-ltb (suc a) (suc b) (omega (arith, ltb-true a b t))))
          (λ t. rw t (le-ltb (suc a) (suc b) (omega (arith, ltb-false a b t))))

-- ---- the row of an ID

module _ (id : Slot) where
  -- whether a row is that of the ID
  abbrev pub is_of : Row → Bool
  is_of row = eqb row.id.0 id.0

  pub in_here : (row : Row) (rows : List Row) → eqb (id_of row) id.0 ≡ true → row_in id (row ∷ rows) ≡ row
  in_here row rows e = rw (place_here id.0 (id_of row) (ids_of rows) e)

  pub in_later : (row : Row) (rows : List Row) → eqb (id_of row) id.0 ≡ false → row_in id (row ∷ rows) ≡ row_in id rows
  in_later row rows e = rw (place_later id.0 (id_of row) (ids_of rows) e)

  -- found, or blank
  pub found_in : (rows : List Row) → unwrap_or (find is_of rows) (blank id) ≡ row_in id rows
  found_in [] = refl
  found_in (row ∷ rows) =
      let rest : unwrap_or (find is_of rows) (blank id) ≡ row_in id rows = found_in rows in
      cases (eqb (id_of row) id.0)
      (λ e. rw (in_here row rows e, e))
      (λ e. rw (in_later row rows e, e) rest)

  -- its place, where it is among the rows
  pub position_in : (rows : List Row) → position is_of rows ≡ cond (is_among id.0 (ids_of rows)) (Some (place_among id.0 (ids_of rows))) None
  position_in rows =
      let place : (rows : List Row) → place_among id.0 (ids_of rows) ≡ position_or_len is_of rows = is_position_or_len (λ (rows : List Row). place_among id.0 (ids_of rows)) is_of (place_none id.0) first in
      let among = among_place id.0 (ids_of rows) in
      rw (← place rows, ← length-map rows id_of, among)
    where
      first : (row : Row) (rows : List Row) → place_among id.0 (ids_of (row ∷ rows)) ≡ cond (is_of row) 0 (1 + place_among id.0 (ids_of rows))
      first row rows =
          cases (eqb (id_of row) id.0)
          (λ e. rw (place_here id.0 (id_of row) (ids_of rows) e, e))
          (λ e. rw (place_later id.0 (id_of row) (ids_of rows) e, e) (omega arith))
