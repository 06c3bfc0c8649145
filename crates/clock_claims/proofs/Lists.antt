-- A list is sound exactly when the measurements that it stands for, and its rows, are as they should be.
use Rattle.std.specs.Prelude.{None, Some}
use Prim.Native.Nat.{ℕ, ◌≤◌}
use mathlib.Core.Path.{◌≡◌, refl, sym, ap, subst, ◌∙◌}
use mathlib.Core.Bool.{Bool, true, false, false≢true, not, ◌&&◌, ◌||◌}
use mathlib.Core.List.Memᴰ
use mathlib.Core.List.{List, [], ◌∷◌, ◌++◌, Memᴰ}
use native.Mathlib.Omega.{arith}
use borrow.Author.Tests.{eq-eqb, eqb-true, not-true}
use lib.ListN.{length, length-map}
use lib.Seq.{length-take-le}
use lib.Signed.{le_z}
use Rattle.numbers.proofs.Truth.{both_true, true_both}
use Rattle.numbers.proofs.Walk.{cases, came}
use Rattle.base_types.specs.declared.channel.Channel.{Channel}
use Rattle.base_types.specs.declared.channel.Channel.TheVariants.{A, B}
use Rattle.base_types.specs.Slot.{not_an_id}
use Rattle.settings.specs.declared.Mark.{Mark}
use Rattle.base_types.specs.Microtick.{lowest_deviation, highest_deviation}
use Rattle.sync_list.specs.declared.row.Measurement.{Measurement}
use Rattle.sync_list.specs.Rows.{Measured}
use Rattle.sync_list.specs.declared.row.Row.{Row}
use Rattle.sync_list.specs.declared.list.SyncList.{SyncList}
use Rattle.sync_list.specs.Rows.{is_measured, on}
use Rattle.sync_list.specs.Lists.{row_count, listed, id_of, ids_of, is_among, none_twice}
use Rattle.list_soundness.specs.Sound.{is_in_range, row_sound, rows_sound, carries, row_marked, all_marked, list_sound}
use Rattle.measurements.specs.Measurements.{Taken, taken, stands_for, same_channel}
use Rattle.base_types.proofs.SlotLaws.{id_range}
use Rattle.list_soundness.proofs.EachLaws.{each_member, each_by}
use Rattle.list_soundness.proofs.RangedLaws.{Ranged, row_ranged}
use Rattle.sync_list.proofs.AmongLaws.{none_twice_lem}
use Rattle.measurements.proofs.RowLaws.{row_measured, rows_ids}
use Rattle.clock.proofs.SoundLaws.{list_clauses, list_sound_by}
use Rattle.clock_claims.specs.Typed.{TypedList}
use Rattle.clock_claims.specs.Sound.{IsId, IsDeviation, OncePerChannel, GoodList, DifferentRows, GoodRows}
use Rattle.clock_claims.proofs.TakenLaws.{list_count}
use Rattle.clock_claims.proofs.Members.{Has, members, has_member, among_member, member_among}

-- ---- from the rows to what they stand for

on_ranged : (row : Row) (channel : Channel) → Ranged row → is_in_range (on channel row) ≡ true
on_ranged row A r = r.on_a
on_ranged row B r = r.on_b

has_ranged : (row : Row) (m : Taken) → row_sound row ≡ true → Has row m → IsDeviation m.measurement.deviation.0
has_ranged row m e h =
    both_true (le_z lowest_deviation m.measurement.deviation.0) (le_z m.measurement.deviation.0 highest_deviation)
    (sym (ap is_in_range h.there) ∙ on_ranged row m.channel (row_ranged row e))

module _ (rows : List Row) (s : rows_sound rows ≡ true) where
  row_good : (row : Row) → Memᴰ row rows → row_sound row ≡ true
  row_good row = each_member row_sound rows row s

  taken_ids : (m : Taken) → Memᴰ m (stands_for rows) → IsId m.id
  taken_ids m mem =
      let h = members rows m mem in
      let id = id_of h.row in
      let range = (id_range id).0 (not-true _ (both_true (not (not_an_id id)) _ (row_good h.row h.among)).0) in
      subst IsId (sym h.has.id) (omega (arith, range.0), omega (arith, range.1))

  taken_ranged : (m : Taken) → Memᴰ m (stands_for rows) → IsDeviation m.measurement.deviation.0
  taken_ranged m mem =
      let h = members rows m mem in
      has_ranged h.row m (row_good h.row h.among) h.has

  all_measured : (row : Row) → Memᴰ row rows → row.on_a ≡ None → row.on_b ≡ None → ⊥
  all_measured row mem ea eb =
      let there = row_measured row (row_good row mem) in
      false≢true (sym (ap (λ (x : Measured). is_measured x || is_measured row.on_b) ea ∙ ap is_measured eb) ∙ there)

-- what a row has on a channel carries the mark
module _ (mark : Mark) where
  on_marked : (row : Row) (channel : Channel) → row_marked mark row ≡ true → carries mark (on channel row) ≡ true
  on_marked row A e = (both_true (carries mark row.on_a) _ e).0
  on_marked row B e = (both_true (carries mark row.on_a) _ e).1

  pub taken_marked : (rows : List Row) → all_marked mark rows ≡ true → (m : Taken) → Memᴰ m (stands_for rows) → m.measurement.mark ≡ mark
  taken_marked rows s m mem =
      let h = members rows m mem in
      let there = on_marked h.row m.channel (each_member (row_marked mark) rows h.row s h.among) in
      ap (λ (n : ℕ). record { 0 = n }) (eqb-true m.measurement.mark.0 mark.0 (sym (ap (carries mark) h.has.there) ∙ there))

-- no later measurement has the ID of a row that does not stand again
once_row : (row : Row) (rows : List Row) → is_among (id_of row) (ids_of rows) ≡ false → OncePerChannel (stands_for rows)
    → OncePerChannel (taken (id_of row) A row.on_a ++ (taken (id_of row) B row.on_b ++ stands_for rows))
once_row row rows new once = by row.on_a row.on_b
  where
    other : (n : Taken) → Memᴰ n (stands_for rows) → n.id ≡ id_of row → ⊥
    other n mem e =
        let h = members rows n mem in
        let there : is_among (id_of row) (ids_of rows) ≡ true =
        subst (λ (id : ℕ). is_among id (ids_of rows) ≡ true) (sym h.has.id ∙ e) (member_among rows h.row h.among) in
        false≢true (sym new ∙ there)

    b-first : (d : Measured) → OncePerChannel (taken (id_of row) B d ++ stands_for rows)
    b-first None = once
    b-first (Some d) = (λ n mem e c. other n mem e, once)

    a-before : (d : Measured) (n : Taken) → Memᴰ n (taken (id_of row) B d ++ stands_for rows) → n.id ≡ id_of row → n.channel ≡ A → ⊥
    a-before None n mem e c = other n mem e
    a-before (Some d) n mem e c =
        came (Memᴰ.cases_cons mem) (λ q. false≢true (ap (same_channel A) (sym (ap (λ (m : Taken). m.channel) q) ∙ c))) (λ m. other n m e)

    by : (a b : Measured) → OncePerChannel (taken (id_of row) A a ++ (taken (id_of row) B b ++ stands_for rows))
    by None b = b-first b
    by (Some d) b = (λ n mem e c. a-before b n mem e c, b-first b)

taken_once : (rows : List Row) → none_twice (ids_of rows) ≡ true → OncePerChannel (stands_for rows)
unfolding stands_for
taken_once [] n = tt
taken_once (row ∷ rows) n =
    let h = none_twice_lem (id_of row) (ids_of rows) n in
    once_row row rows h.0 (taken_once rows h.1)

rows_different : (rows : List Row) → none_twice (ids_of rows) ≡ true → DifferentRows rows
rows_different [] n = tt
rows_different (row ∷ rows) n =
    let h = none_twice_lem (id_of row) (ids_of rows) n in (
      λ later mem e.
          false≢true (sym h.0 ∙ subst (λ (id : ℕ). is_among id (ids_of rows) ≡ true) e (member_among rows later mem)),
      rows_different rows h.1,
    )

-- ---- and back

different_none_twice : (rows : List Row) → DifferentRows rows → none_twice (ids_of rows) ≡ true
unfolding none_twice
different_none_twice [] d = refl
different_none_twice (row ∷ rows) (here, later) =
    true_both (not (is_among (id_of row) (ids_of rows))) (none_twice (ids_of rows))
    (cases (is_among (id_of row) (ids_of rows))
    (λ t. let found = among_member rows (id_of row) t in absurd (here found.0 found.1 found.2))
    (λ t. ap not t))
    (different_none_twice rows later)

-- what holds of every measurement of a row is asked of a channel, and nothing where nothing was measured
module _ (P : Measurement → Type 0) (asked : Measured → Bool) (none : asked None ≡ true) (one : (m : Measurement) → P m → asked (Some m) ≡ true) (row : Row) (all : (m : Taken) → Has row m → P m.measurement) where
  holds_on : (channel : Channel) (x : Measured) → on channel row ≡ x → asked x ≡ true
  holds_on channel None e = none
  holds_on channel (Some d) e = one d (all (record { id = id_of row; channel = channel; measurement = d }) (record { id = refl; there = e }))

  holds_on_both : asked row.on_a && asked row.on_b ≡ true
  holds_on_both = true_both (asked row.on_a) (asked row.on_b) (holds_on A row.on_a refl) (holds_on B row.on_b refl)

ranged_by : (row : Row) → ((m : Taken) → Has row m → IsDeviation m.measurement.deviation.0) → is_in_range row.on_a && is_in_range row.on_b ≡ true
ranged_by =
    holds_on_both (λ m. IsDeviation m.deviation.0) is_in_range refl
    (λ m h. true_both (le_z lowest_deviation m.deviation.0) (le_z m.deviation.0 highest_deviation) h.0 h.1)

marked_by : (mark : Mark) (row : Row) → ((m : Taken) → Has row m → m.measurement.mark ≡ mark) → row_marked mark row ≡ true
marked_by mark = holds_on_both (λ m. m.mark ≡ mark) (carries mark) refl (λ m e. eq-eqb m.mark.0 mark.0 (ap (λ (x : Mark). x.0) e))

measured_one : (a b : Measured) → (a ≡ None → b ≡ None → ⊥) → is_measured a || is_measured b ≡ true
measured_one None None h = absurd (h refl refl)
measured_one None (Some d) h = refl
measured_one (Some d) b h = refl

-- a row that is measured stands for a measurement, which has its ID
id_by_one : (row : Row) (a b : Measured) → on A row ≡ a → on B row ≡ b → is_measured a || is_measured b ≡ true
    → ((m : Taken) → Has row m → IsId m.id) → IsId (id_of row)
id_by_one row (Some d) b ea eb h all = all (record { id = id_of row; channel = A; measurement = d }) (record { id = refl; there = ea })
id_by_one row None (Some d) ea eb h all = all (record { id = id_of row; channel = B; measurement = d }) (record { id = refl; there = eb })
id_by_one row None None ea eb h all = absurd (false≢true h)

row_sound_by : (row : Row) → (row.on_a ≡ None → row.on_b ≡ None → ⊥) → ((m : Taken) → Has row m → IsId m.id)
    → ((m : Taken) → Has row m → IsDeviation m.measurement.deviation.0) → row_sound row ≡ true
row_sound_by row measured ids ranged =
    let one = measured_one row.on_a row.on_b measured in
    let id = id_by_one row row.on_a row.on_b refl refl one ids in
    true_both (not (not_an_id (id_of row))) _ (ap not ((id_range (id_of row)).1 (omega (arith, id.0), omega (arith, id.1))))
    (true_both (is_measured row.on_a || is_measured row.on_b) _ one (ranged_by row ranged))

-- ---- the list

module _ (limit : ℕ) (mark : Mark) (l : SyncList) (typed : TypedList l) where
  pub list_good : limit ≤ row_count → list_sound limit mark l ≡ true → GoodList limit mark (stands_for (listed l)) × GoodRows l
  list_good small e =
      let k = list_clauses limit mark l e in
      let few = k.few in (
        record {
          few = subst (λ (n : ℕ). n ≤ limit) (list_count limit mark l typed small e) few;
          ids = taken_ids (listed l) k.rows;
          once = taken_once (listed l) k.ids;
          ranged = taken_ranged (listed l) k.rows;
          marked = taken_marked mark (listed l) k.marks;
        },
        record { counted = omega arith; measured = all_measured (listed l) k.rows; different = rows_different (listed l) k.ids },
      )

  pub good_list : GoodList limit mark (stands_for (listed l)) → GoodRows l → list_sound limit mark l ≡ true
  good_list g r =
      let rows = listed l in
      let s : rows_sound rows ≡ true =
      each_by row_sound rows
      (λ row mem.
      row_sound_by row (r.measured row mem) (λ m h. g.ids m (has_member rows row m mem h)) (λ m h. g.ranged m (has_member rows row m mem h))) in
      let n : none_twice (ids_of rows) ≡ true = different_none_twice rows r.different in
      let long : length rows ≡ l.count = length-take-le l.count l.rows (subst (λ (k : ℕ). l.count ≤ k) (sym typed) r.counted) in
      list_sound_by limit mark l
      (record {
        few = subst (λ (k : ℕ). k ≤ limit) (length-map rows id_of ∙ long) (subst (λ (ids : List ℕ). length ids ≤ limit) (rows_ids rows s n) g.few);
        rows = s;
        ids = n;
        marks = each_by (row_marked mark) rows (λ row mem. marked_by mark row (λ m h. g.marked m (has_member rows row m mem h)));
      })
