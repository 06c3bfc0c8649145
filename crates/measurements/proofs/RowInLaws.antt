-- The row of an ID among rows.
use mathlib.Core.Path.{◌≡◌, refl, ap, ◌∙◌}
use mathlib.Core.Bool.{true, false}
use mathlib.Core.List.{List, [], ◌∷◌, map}
use Prim.Native.Nat.{ℕ}
use lib.Dec.{eqb}
use borrow.Author.Tests.{eqb-true, eq-eqb}
use Rattle.numbers.proofs.Walk.{cases}
use Rattle.base_types.specs.declared.id.Slot.{Slot}
use Rattle.sync_list.specs.declared.row.Row.{Row}
use Rattle.sync_list.specs.Lists.{id_of, ids_of, is_among, none_twice, row_in}
use Rattle.sync_list.proofs.PlaceLaws.{in_here, in_later}
use Rattle.sync_list.proofs.AmongLaws.{not_among, none_twice_lem, unequal_sym}

module _ (id : Slot) where
  -- it has that ID, also where it is blank
  pub in_id : (rows : List Row) → id_of (row_in id rows) ≡ id.0
  in_id [] = refl
  in_id (row ∷ rows) =
      let ih : id_of (row_in id rows) ≡ id.0 = in_id rows in
      cases (eqb (id_of row) id.0)
      (λ e. ap id_of (in_here id row rows e) ∙ eqb-true (id_of row) id.0 e)
      (λ e. ap id_of (in_later id row rows e) ∙ ih)

-- what is said of the row of each ID is said of each row
module _ {X : Type 0} (said : Row → X) where
  in_rest : (row : Row) (rows : List Row) (ids : List ℕ) → is_among (id_of row) ids ≡ false
      → map (λ id. said (row_in (record { 0 = id }) (row ∷ rows))) ids ≡ map (λ id. said (row_in (record { 0 = id }) rows)) ids
  in_rest row rows [] e = refl
  in_rest row rows (id ∷ ids) e =
      let h = not_among (id_of row) id ids e in
      let first = ap said (in_later (record { 0 = id }) row rows (unequal_sym id (id_of row) h.0)) in
      let rest = in_rest row rows ids h.1 in
      λ i. first i ∷ rest i

  pub in_each : (rows : List Row) → none_twice (ids_of rows) ≡ true → map (λ id. said (row_in (record { 0 = id }) rows)) (ids_of rows) ≡ map said rows
  in_each [] n = refl
  in_each (row ∷ rows) n =
      let h = none_twice_lem (id_of row) (ids_of rows) n in
      let first = ap said (in_here row.id row rows (eq-eqb (id_of row) (id_of row) refl)) in
      let rest = in_rest row rows (ids_of rows) h.0 ∙ in_each rows h.1 in
      λ i. first i ∷ rest i
