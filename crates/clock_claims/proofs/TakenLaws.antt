-- Whether an ID is measured, and how many are: by the rows, by the list that they stand for, and by any other order of it.
use Rattle.std.specs.Prelude.{None, Some}
use Prim.Native.Nat.{ℕ, ◌≤◌}
use mathlib.Core.Path.{◌≡◌, refl, sym, ap, ap₂, ◌∙◌}
use mathlib.Core.Bool.{Bool, true, false, not, ◌&&◌, ◌||◌, cond, or_assoc, or_comm}
use mathlib.Core.List.{List, [], ◌∷◌}
use native.Mathlib.Omega.{arith}
use lib.Dec.{eqb, leb}
use lib.ListN.{length, length-map}
use lib.IntN.{ℤ}
use lib.Seq.{length-take-le}
use lib.Signed.{lt_z}
use Rattle.numbers.proofs.Walk.{cases_in}
use Rattle.midpoint.specs.Order.{Permuted}
use Rattle.midpoint.proofs.OrderLaws.{permuted_length}
use Rattle.base_types.specs.declared.channel.Channel.{Channel}
use Rattle.base_types.specs.declared.channel.Channel.TheVariants.{A, B}
use Rattle.base_types.specs.declared.id.Slot.{Slot}
use Rattle.settings.specs.declared.Mark.{Mark}
use Rattle.settings.specs.declared.Settings.{Settings}
use Rattle.settings.specs.Sheet.{sync_id_limit}
use Rattle.correction.specs.Values.{Value}
use Rattle.correction.specs.declared.value.Deviations.{Deviations}
use Rattle.correction.specs.Values.{is, smaller}
use Rattle.sync_list.specs.Rows.{Measured}
use Rattle.sync_list.specs.declared.row.Row.{Row}
use Rattle.sync_list.specs.declared.list.SyncList.{SyncList}
use Rattle.sync_list.specs.Rows.{on, is_measured, value_of}
use Rattle.sync_list.specs.Lists.{row_count, listed, id_of, ids_of, is_among, none_twice, row_in, is_measured_on, is_full_for}
use Rattle.list_soundness.specs.Sound.{list_sound}
use Rattle.measurements.specs.Measurements.{Taken, stands_for, different_ids, same_channel}
use Rattle.measurements.specs.Terms.{deviations_if, smallest, deviation_on}
use Rattle.measurements.proofs.OrderLaws.{ids_permuted, on_permuted}
use Rattle.measurements.proofs.PermutedLaws.{fold_permuted}
use Rattle.measurements.proofs.RowLaws.{rows_ids, row_deviations}
use Rattle.clock.proofs.SoundLaws.{ListClauses, list_clauses}
use Rattle.clock_claims.specs.Typed.{TypedList}
use Rattle.clock_claims.specs.History.{is_taken, is_full}

-- ---- it is taken where its deviation is there

is_present : Value → Bool
is_present None = false
is_present (Some x) = true

present_smaller : (x : ℤ) (v : Value) → is_present (smaller (is x) v) ≡ true
unfolding is_present
present_smaller x None = refl
present_smaller x (Some y) = cases_in (λ b. is_present (cond b (Some y) (is x)) ≡ true) (lt_z y.0 x) (λ t. refl) (λ t. refl)

taken_there : (id : ℕ) (channel : Channel) (ms : List Taken) → is_taken id channel ms ≡ is_present (deviation_on channel ms id)
unfolding is_taken deviations_if smallest is_present
taken_there id channel [] = refl
taken_there id channel (m ∷ ms) =
    let rest = deviations_if (λ (n : Taken). eqb n.id id && same_channel n.channel channel) ms in
    cases_in (λ b. b || is_taken id channel ms ≡ is_present (smallest (cond b (m.measurement.deviation.0 ∷ rest) rest))) (eqb m.id id && same_channel m.channel channel)
    (λ t. sym (present_smaller m.measurement.deviation.0 (smallest rest)))
    (λ t. taken_there id channel ms)

-- ---- in any order

pub taken_permuted : (id : ℕ) (channel : Channel) {ms ns : List Taken} → Permuted ms ns → is_taken id channel ms ≡ is_taken id channel ns
taken_permuted id channel {ms} {ns} p = taken_there id channel ms ∙ ap is_present (on_permuted channel id p) ∙ sym (taken_there id channel ns)

among_permuted : (id : ℕ) {l m : List ℕ} → Permuted l m → is_among id l ≡ is_among id m
unfolding is_among
among_permuted id =
    fold_permuted (is_among id) (λ x r. eqb x id || r) (λ x xs. refl)
    (λ x y r. sym (or_assoc (eqb x id) (eqb y id) r) ∙ ap (λ (b : Bool). b || r) (or_comm (eqb x id) (eqb y id)) ∙ or_assoc (eqb y id) (eqb x id) r)

pub full_permuted : (settings : Settings) (id : ℕ) {ms ns : List Taken} → Permuted ms ns → is_full settings id ms ≡ is_full settings id ns
full_permuted settings id {ms} {ns} p =
    let ids = ids_permuted p in
    ap₂ (λ (n : ℕ) (b : Bool). leb (sync_id_limit settings) n && not b) (permuted_length ids) (among_permuted id ids)

-- ---- by the rows

measured_there : (x : Measured) → is_measured x ≡ is_present (value_of x)
unfolding is_present
measured_there None = refl
measured_there (Some d) = refl

in_taken : (id : Slot) (channel : Channel) (rows : List Row) → none_twice (ids_of rows) ≡ true
    → is_measured (on channel (row_in id rows)) ≡ is_taken id.0 channel (stands_for rows)
in_taken id channel rows n =
    measured_there (on channel (row_in id rows))
    ∙ ap is_present (sym (by channel))
    ∙ sym (taken_there id.0 channel (stands_for rows))
  where
    by : (channel : Channel) → deviation_on channel (stands_for rows) id.0 ≡ value_of (on channel (row_in id rows))
    by A = ap (λ (d : Deviations). d.on_a) (row_deviations rows n id)
    by B = ap (λ (d : Deviations). d.on_b) (row_deviations rows n id)

-- ---- of a sound list

module _ (limit : ℕ) (mark : Mark) (l : SyncList) (typed : TypedList l) (small : limit ≤ row_count) (good : list_sound limit mark l ≡ true) where
  abbrev k : ListClauses limit mark l
  k = list_clauses limit mark l good

  pub list_taken : (id : Slot) (channel : Channel) → is_measured_on id channel l ≡ is_taken id.0 channel (stands_for (listed l))
  list_taken id channel = in_taken id channel (listed l) k.ids

  -- the count is the number of different IDs
  pub list_count : l.count ≡ length (different_ids (stands_for (listed l)))
  list_count =
      let few = k.few in
      sym (length-take-le l.count l.rows (omega arith))
      ∙ sym (length-map (listed l) id_of)
      ∙ sym (ap length (rows_ids (listed l) k.rows k.ids))

  pub list_full_lem : (settings : Settings) → sync_id_limit settings ≡ limit → (id : Slot) → is_full_for limit id l ≡ is_full settings id.0 (stands_for (listed l))
  list_full_lem settings e id =
      ap₂ (λ (n : ℕ) (ids : List ℕ). leb limit n && not (is_among id.0 ids)) list_count
      (sym (rows_ids (listed l) k.rows k.ids))
      ∙ ap (λ (n : ℕ). leb n (length (different_ids (stands_for (listed l)))) && not (is_among id.0 (different_ids (stands_for (listed l))))) (sym e)
