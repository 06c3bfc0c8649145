-- Rows and the measurements that they stand for: the same IDs, and the same values for both terms.
use mathlib.Core.Path.{◌≡◌, refl, sym, ap, ◌∙◌}
use mathlib.Core.Bool.{Bool, true, false, false≢true, not, ◌&&◌, ◌||◌, and-false, cond}
use mathlib.Core.List.{List, [], ◌∷◌, ◌++◌, map}
use Prim.Native.Nat.{ℕ}
use lib.Dec.{eqb}
use lib.IntN.{ℤ}
use borrow.Author.Tests.{eqb-true, eq-eqb}
use Rattle.numbers.proofs.Truth.{both_true}
use Rattle.numbers.proofs.Walk.{cases}
use Rattle.base_types.specs.declared.channel.Channel.{Channel}
use Rattle.base_types.specs.declared.channel.Channel.TheVariants.{A, B}
use Rattle.base_types.specs.declared.id.Slot.{Slot}
use Rattle.base_types.specs.Slot.{not_an_id}
use Rattle.correction.specs.Values.{Value, smaller, offset_value, rate_value}
use Rattle.sync_list.specs.declared.row.Measurement.{Measurement}
use Rattle.sync_list.specs.declared.row.Row.{Row}
use Rattle.sync_list.specs.Rows.{Measured, is_measured, value_of, deviations_of}
use Rattle.sync_list.specs.Lists.{id_of, ids_of, is_among, none_twice, row_in}
use Rattle.list_soundness.specs.Sound.{row_sound, each_row, rows_sound}
use Rattle.list_values.specs.Values.{present, offset_values, rate_values}
use Rattle.measurements.specs.Measurements.{Taken, taken, stands_for, without, different, different_ids, same_channel}
use Rattle.measurements.specs.Terms.{deviations_if, smallest, deviation_on, deviations_on, offset_of, offset_values_of, rate_of, rate_values_of}
use Rattle.sync_list.proofs.AmongLaws.{not_among, none_twice_lem}
use Rattle.measurements.proofs.DifferentLaws.{without_met, without_absent, without_twice}
use Rattle.measurements.proofs.RowInLaws.{in_id, in_each}
use Rattle.sync_list.proofs.PlaceLaws.{in_here, in_later}
use Rattle.std.specs.Prelude.{None, Some}

-- ---- the IDs

row_ids : (id : ℕ) (a b : Measured) (ms : List Taken) → is_measured a || is_measured b ≡ true
    → different_ids (taken id A a ++ (taken id B b ++ ms)) ≡ id ∷ without id (different_ids ms)
unfolding different
row_ids id None None ms e = absurd (false≢true e)
row_ids id None (Some m) ms e = refl
row_ids id (Some m) None ms e = refl
row_ids id (Some m) (Some n) ms e =
    ap (◌∷◌ id) (without_met id id (without id (different_ids ms)) (eq-eqb id id refl) ∙ without_twice id (different_ids ms))

pub row_measured : (row : Row) → row_sound row ≡ true → is_measured row.on_a || is_measured row.on_b ≡ true
row_measured row e =
    (both_true (is_measured row.on_a || is_measured row.on_b) _ (both_true (not (not_an_id (id_of row))) _ e).1).0

pub rows_ids : (rows : List Row) → rows_sound rows ≡ true → none_twice (ids_of rows) ≡ true → different_ids (stands_for rows) ≡ ids_of rows
unfolding stands_for each_row different
rows_ids [] s n = refl
rows_ids (row ∷ rows) s n =
    let h = both_true (row_sound row) (rows_sound rows) s in
    let g = none_twice_lem (id_of row) (ids_of rows) n in
    let ih : different_ids (stands_for rows) ≡ ids_of rows = rows_ids rows h.1 g.1 in
    row_ids (id_of row) row.on_a row.on_b (stands_for rows) (row_measured row h.0)
    ∙ ap (λ (ids : List ℕ). id_of row ∷ without (id_of row) ids) ih
    ∙ ap (◌∷◌ (id_of row)) (without_absent (id_of row) (ids_of rows) g.0)

-- ---- the deviations of an ID are those of its row

-- what was measured on a channel before others, where it is meant, and where it is not
module _ (meant : Taken → Bool) (id : ℕ) (channel : Channel) where
  first_meant : ((m : Measurement) → meant (record { id = id; channel = channel; measurement = m }) ≡ true) → (x : Measured) (ms : List Taken)
      → smallest (deviations_if meant (taken id channel x ++ ms)) ≡ smaller (value_of x) (smallest (deviations_if meant ms))
  unfolding smallest deviations_if
  first_meant e None ms = refl
  first_meant e (Some m) ms = rw (e m)

  first_other : ((m : Measurement) → meant (record { id = id; channel = channel; measurement = m }) ≡ false) → (x : Measured) (ms : List Taken)
      → deviations_if meant (taken id channel x ++ ms) ≡ deviations_if meant ms
  unfolding deviations_if
  first_other e None ms = refl
  first_other e (Some m) ms = rw (e m)

front_same : (meant : Taken → Bool) (l ms ns : List Taken) → deviations_if meant ms ≡ deviations_if meant ns
    → deviations_if meant (l ++ ms) ≡ deviations_if meant (l ++ ns)
unfolding deviations_if
front_same meant [] ms ns e = e
front_same meant (m ∷ l) ms ns e = ap (λ (ds : List ℤ). cond (meant m) (m.measurement.deviation.0 ∷ ds) ds) (front_same meant l ms ns e)

-- all that was measured of an ID
abbrev measured_of : ℕ → Row → List Taken → List Taken
measured_of id row ms = taken id A row.on_a ++ (taken id B row.on_b ++ ms)

-- where nothing of another ID is meant
module _ (id : Slot) (meant : Taken → Bool) (own : (m : Taken) → eqb m.id id.0 ≡ false → meant m ≡ false) where
  other_row : (row : Row) (rows : List Row) → eqb (id_of row) id.0 ≡ false
      → deviations_if meant (stands_for (row ∷ rows)) ≡ deviations_if meant (stands_for rows)
  unfolding stands_for
  other_row row rows e =
      first_other meant (id_of row) A (λ m. own _ e) row.on_a (taken (id_of row) B row.on_b ++ stands_for rows)
      ∙ first_other meant (id_of row) B (λ m. own _ e) row.on_b (stands_for rows)

  other_rows : (rows : List Row) → is_among id.0 (ids_of rows) ≡ false → deviations_if meant (stands_for rows) ≡ []
  unfolding stands_for deviations_if
  other_rows [] e = refl
  other_rows (row ∷ rows) e =
      let h = not_among id.0 (id_of row) (ids_of rows) e in
      other_row row rows h.0 ∙ other_rows rows h.1

  -- the row has the ID where it stands, and what stands behind it is of other IDs
  own_row : (row : Row) (rows : List Row) → is_among (id_of row) (ids_of rows) ≡ false → id_of row ≡ id.0
      → deviations_if meant (stands_for (row ∷ rows)) ≡ deviations_if meant (measured_of id.0 row [])
  unfolding stands_for deviations_if
  own_row row rows n e =
      let a = taken (id_of row) A row.on_a in
      let b = taken (id_of row) B row.on_b in
      let none : deviations_if meant (stands_for rows) ≡ [] = other_rows rows (rw (← e) n) in
      front_same meant a (b ++ stands_for rows) (b ++ []) (front_same meant b (stands_for rows) [] none)
      ∙ ap (λ (x : ℕ). deviations_if meant (measured_of x row [])) e

  of_row : (rows : List Row) → none_twice (ids_of rows) ≡ true → deviations_if meant (stands_for rows) ≡ deviations_if meant (measured_of id.0 (row_in id rows) [])
  unfolding stands_for deviations_if
  of_row [] n = refl
  of_row (row ∷ rows) n =
      let h = none_twice_lem (id_of row) (ids_of rows) n in
      let ih : deviations_if meant (stands_for rows) ≡ deviations_if meant (measured_of id.0 (row_in id rows) []) = of_row rows h.1 in
      cases (eqb (id_of row) id.0)
      (λ e. rw (in_here id row rows e) (own_row row rows h.0 (eqb-true (id_of row) id.0 e)))
      (λ e. rw (in_later id row rows e) (other_row row rows e ∙ ih))

-- ---- the smallest of them

none_smallest : (meant : Taken → Bool) (v : Value) → smaller v (smallest (deviations_if meant [])) ≡ v
unfolding smallest deviations_if
none_smallest meant None = refl
none_smallest meant (Some x) = refl

module _ (rows : List Row) (n : none_twice (ids_of rows) ≡ true) (id : Slot) where
  same_id : eqb id.0 id.0 ≡ true
  same_id = eq-eqb id.0 id.0 refl

  row_offset : offset_of (stands_for rows) id.0 ≡ offset_value (deviations_of (row_in id rows))
  row_offset =
      let row = row_in id rows in
      let meant : Taken → Bool = λ m. eqb m.id id.0 in
      ap smallest (of_row id meant (λ m e. e) rows n)
      ∙ first_meant meant id.0 A (λ m. same_id) row.on_a (taken id.0 B row.on_b ++ [])
      ∙ ap (smaller (value_of row.on_a)) (first_meant meant id.0 B (λ m. same_id) row.on_b [] ∙ none_smallest meant (value_of row.on_b))

  abbrev meant_on : Channel → Taken → Bool
  meant_on channel m = eqb m.id id.0 && same_channel m.channel channel

  row_on : (channel : Channel) → deviation_on channel (stands_for rows) id.0 ≡ deviation_on channel (measured_of id.0 (row_in id rows) []) id.0
  row_on channel = ap smallest (of_row id (meant_on channel) (λ m e. ap (λ (t : Bool). t && same_channel m.channel channel) e) rows n)

  pub row_deviations : deviations_on (stands_for rows) id.0 ≡ deviations_of (row_in id rows)
  row_deviations =
      let row = row_in id rows in
      let same : eqb id.0 id.0 && true ≡ true = ap (λ (t : Bool). t && true) same_id in
      let other : eqb id.0 id.0 && false ≡ false = and-false (eqb id.0 id.0) in
      let a =
      row_on A
      ∙ first_meant (meant_on A) id.0 A (λ m. same) row.on_a (taken id.0 B row.on_b ++ [])
      ∙ ap (smaller (value_of row.on_a)) (ap smallest (first_other (meant_on A) id.0 B (λ m. other) row.on_b []))
      ∙ none_smallest (meant_on A) (value_of row.on_a) in
      let b =
      row_on B
      ∙ ap smallest (first_other (meant_on B) id.0 A (λ m. other) row.on_a (taken id.0 B row.on_b ++ []))
      ∙ first_meant (meant_on B) id.0 B (λ m. same) row.on_b []
      ∙ none_smallest (meant_on B) (value_of row.on_b) in
      λ i. record { on_a = a i; on_b = b i }

-- ---- the values

pub rows_offset : (rows : List Row) → rows_sound rows ≡ true → none_twice (ids_of rows) ≡ true → offset_values_of (stands_for rows) ≡ offset_values rows
rows_offset rows s n =
    let value : Row → Value = λ row. offset_value (deviations_of row) in
    ap present
    (ap (map (offset_of (stands_for rows))) (rows_ids rows s n)
    ∙ (λ i. map (λ id. row_offset rows n (record { 0 = id }) i) (ids_of rows))
    ∙ in_each value rows n)

pub rows_rate : (odd even : List Row) → rows_sound odd ≡ true → none_twice (ids_of odd) ≡ true → none_twice (ids_of even) ≡ true
    → rate_values_of (stands_for odd) (stands_for even) ≡ rate_values odd even
rows_rate odd even s n n' =
    let value : Row → Value = λ row. rate_value (deviations_of row) (deviations_of (row_in row.id even)) in
    let same : (id : ℕ) → rate_of (stands_for odd) (stands_for even) id ≡ value (row_in (record { 0 = id }) odd) =
    λ id.
    (λ i. rate_value (row_deviations odd n (record { 0 = id }) i) (row_deviations even n' (record { 0 = id }) i))
    ∙ (λ i. rate_value (deviations_of (row_in (record { 0 = id }) odd)) (deviations_of (row_in (record { 0 = sym (in_id (record { 0 = id }) odd) i }) even))) in
    ap present
    (ap (map (rate_of (stands_for odd) (stands_for even))) (rows_ids odd s n)
    ∙ (λ i. map (λ id. same id i) (ids_of odd))
    ∙ in_each value odd n)
