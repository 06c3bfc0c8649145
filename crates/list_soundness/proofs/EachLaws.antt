-- Rows that are each as asked.
use Prim.Native.Nat.{ℕ, zero, suc}
use mathlib.Core.Path.{◌≡◌, refl, ap, ◌∙◌}
use mathlib.Core.Bool.{Bool, true}
use mathlib.Core.List.Memᴰ
use mathlib.Core.List.{List, [], ◌∷◌, ◌++◌, Memᴰ}
use lib.ListN.{get_or, set}
use Rattle.std.proofs.lemmas.List.Elements.{All-set}
use Rattle.std.proofs.lemmas.List.Folds.{list_all-append}
use Rattle.std.proofs.lemmas.List.Sums.{AllPass-from_list_all, list_all-from_AllPass}
use Rattle.numbers.proofs.Truth.{both_true, true_both}
use Rattle.numbers.proofs.Walk.{came}
use Rattle.base_types.specs.declared.id.Slot.{Slot}
use Rattle.sync_list.specs.declared.row.Row.{Row}
use Rattle.sync_list.specs.Rows.{blank}
use Rattle.sync_list.specs.Lists.{ids_of, place_among, row_in}
use Rattle.list_soundness.specs.Sound.{each_row}

module _ (asked : Row → Bool) where
  -- a row put after the others, or in the place of one
  pub each_end : (rows : List Row) (row : Row) → each_row asked rows ≡ true → asked row ≡ true → each_row asked (rows ++ (row ∷ [])) ≡ true
  unfolding each_row
  each_end rows row s e = rw (list_all-append asked rows (row ∷ []), s, e)

  pub each_set : (rows : List Row) (p : ℕ) (row : Row) → each_row asked rows ≡ true → asked row ≡ true → each_row asked (set rows p row) ≡ true
  unfolding each_row
  each_set rows p row s e =
      list_all-from_AllPass asked (set rows p row) (All-set (λ r. asked r ≡ true) rows p row e (AllPass-from_list_all asked rows s))

  -- each row that is among them, and back
  pub each_member : (rows : List Row) (row : Row) → each_row asked rows ≡ true → Memᴰ row rows → asked row ≡ true
  unfolding each_row
  each_member [] row s mem = absurd (Memᴰ.not-nil mem)
  each_member (first ∷ rows) row s mem =
      let h = both_true (asked first) (each_row asked rows) s in
      came (Memᴰ.cases_cons mem) (λ q. ap asked q ∙ h.0) (each_member rows row h.1)

  pub each_by : (rows : List Row) → ((row : Row) → Memᴰ row rows → asked row ≡ true) → each_row asked rows ≡ true
  unfolding each_row
  each_by [] all = refl
  each_by (row ∷ rows) all =
      true_both (asked row) (each_row asked rows) (all row (Memᴰ.head refl)) (each_by rows (λ r mem. all r (Memᴰ.tail mem)))

  -- what follows of each holds of the row of an ID, if it holds of a blank one
  module _ (P : Row → Type 0) (follows : (row : Row) → asked row ≡ true → P row) where
    each-get : (rows : List Row) (i : ℕ) (d : Row) → each_row asked rows ≡ true → P d → P (get_or rows i d)
    unfolding each_row
    each-get [] i d e p = p
    each-get (row ∷ rows) zero d e p = follows row (both_true (asked row) (each_row asked rows) e).0
    each-get (row ∷ rows) (suc i) d e p = each-get rows i d (both_true (asked row) (each_row asked rows) e).1 p

    pub each_in : (rows : List Row) (id : Slot) → each_row asked rows ≡ true → P (blank id) → P (row_in id rows)
    each_in rows id = each-get rows (place_among id.0 (ids_of rows)) (blank id)
