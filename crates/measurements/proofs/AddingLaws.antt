-- A measurement that is recorded is one measurement more, and leaves rows that are sound and carry its mark.
use mathlib.Core.Path.{◌≡◌, refl, sym, ap, ◌∙◌}
use mathlib.Core.Bool.{Bool, true, false, false≢true, not, ◌||◌, or-true}
use mathlib.Core.List.Permᴰ
use mathlib.Core.List.{List, [], ◌∷◌, ◌++◌, map-append}
use Prim.Native.Nat.{ℕ, zero, suc, ◌≤◌, ◌<◌}
use native.Mathlib.Omega.{arith}
use borrow.Author.Tests.{eq-eqb}
use lib.Dec.{eqb}
use lib.ListN.{get_or-eq_default, get_or, length, set, take}
use lib.Seq.{length-take-le, take-set-lt, take-suc-set}
use Rattle.numbers.proofs.Truth.{both_true, true_both}
use Rattle.numbers.proofs.Walk.{cases}
use Rattle.midpoint.specs.Order.{Permuted}
use Rattle.midpoint.proofs.OrderLaws.{permuted_refl}
use Rattle.base_types.specs.declared.channel.Channel.{Channel}
use Rattle.base_types.specs.declared.channel.Channel.TheVariants.{A, B}
use Rattle.base_types.specs.declared.id.Slot.{Slot}
use Rattle.base_types.specs.Slot.{not_an_id}
use Rattle.base_types.specs.Microtick.{is_deviation}
use Rattle.sync_list.specs.declared.row.Measurement.{Measurement}
use Rattle.sync_list.specs.declared.row.Row.{Row}
use Rattle.sync_list.specs.declared.list.SyncList.{SyncList}
use Rattle.sync_list.specs.Rows.{Measured, blank, is_measured, on, with_measured}
use Rattle.sync_list.specs.Lists.{row_count, listed, id_of, ids_of, is_among, none_twice, place_of, row_in, is_measured_on, recorded}
use Rattle.list_soundness.specs.Sound.{is_in_range, row_sound, each_row, rows_sound, carries, row_marked, all_marked}
use Rattle.sync_list.proofs.ListLaws.{known_place, new_place, added, recorded_known, recorded-new}
use Rattle.list_soundness.proofs.RangedLaws.{Ranged, in_ranged}
use Rattle.list_soundness.proofs.EachLaws.{each_end, each_set, each_in}
use Rattle.measurements.specs.Measurements.{Taken, taken, stands_for}
use Rattle.sync_list.proofs.AmongLaws.{none_twice_end}
use Rattle.measurements.proofs.RowInLaws.{in_id}
use Rattle.std.specs.Prelude.{None, Some}

-- ---- one measurement more

-- behind a row as in front of it
behind_row : (row : Row) (n : Taken) (rows more : List Row) → Permuted (stands_for more) (n ∷ stands_for rows)
    → Permuted (stands_for (row ∷ more)) (n ∷ stands_for (row ∷ rows))
unfolding stands_for
behind_row row n rows more p =
    let a = taken (id_of row) A row.on_a in
    let b = taken (id_of row) B row.on_b in
    Permᴰ.trans
    (Permᴰ.append_left a (Permᴰ.trans (Permᴰ.append_left b p) (Permᴰ.middle n b (stands_for rows))))
    (Permᴰ.middle n a (b ++ stands_for rows))

unmeasured : (x : Measured) → is_measured x ≡ false → x ≡ None
unmeasured None e = refl
unmeasured (Some m) e = absurd (false≢true (sym e))

blank_on : (channel : Channel) (id : Slot) → is_measured (on channel (blank id)) ≡ false
blank_on A id = refl
blank_on B id = refl

module _ (m : Measurement) where
  abbrev one : ℕ → Channel → Taken
  one id channel = record { id = id; channel = channel; measurement = m }

  -- in the first row
  row_more : (channel : Channel) (row : Row) (rows : List Row) → is_measured (on channel row) ≡ false
      → Permuted (stands_for (with_measured channel m row ∷ rows)) (one (id_of row) channel ∷ stands_for (row ∷ rows))
  unfolding stands_for
  row_more A row rows e =
      rw (unmeasured row.on_a e) (permuted_refl (one (id_of row) A ∷ (taken (id_of row) B row.on_b ++ stands_for rows)))
  row_more B row rows e =
      rw (unmeasured row.on_b e) (Permᴰ.middle (one (id_of row) B) (taken (id_of row) A row.on_a) (stands_for rows))

  module _ (channel : Channel) where
    -- in a row that is there
    set_more : (rows : List Row) (p : ℕ) (d : Row) → p < length rows → is_measured (on channel (get_or rows p d)) ≡ false
        → Permuted (stands_for (set rows p (with_measured channel m (get_or rows p d)))) (one (id_of (get_or rows p d)) channel ∷ stands_for rows)
    set_more [] p d h e = absurd (omega arith)
    set_more (row ∷ rows) zero d h e = row_more channel row rows e
    set_more (row ∷ rows) (suc p) d h e =
        behind_row row (one (id_of (get_or rows p d)) channel) rows (set rows p (with_measured channel m (get_or rows p d))) (set_more rows p d (omega arith) e)

    -- in a new row
    end_more : (id : Slot) (rows : List Row)
        → Permuted (stands_for (rows ++ (with_measured channel m (blank id) ∷ []))) (one id.0 channel ∷ stands_for rows)
    unfolding stands_for
    end_more id [] = row_more channel (blank id) [] (blank_on channel id)
    end_more id (row ∷ rows) =
        behind_row row (one id.0 channel) rows (rows ++ (with_measured channel m (blank id) ∷ [])) (end_more id rows)

-- ---- a row that is measured

ids_set : (rows : List Row) (p : ℕ) (row d : Row) → id_of row ≡ id_of (get_or rows p d) → ids_of (set rows p row) ≡ ids_of rows
ids_set [] p row d e = refl
ids_set (first ∷ rows) zero row d e = ap (λ (id : ℕ). id ∷ ids_of rows) e
ids_set (first ∷ rows) (suc p) row d e = ap (◌∷◌ (id_of first)) (ids_set rows p row d e)

measured_id : (channel : Channel) (m : Measurement) (row : Row) → id_of (with_measured channel m row) ≡ id_of row
measured_id A m row = refl
measured_id B m row = refl

measured_sound : (channel : Channel) (m : Measurement) (row : Row) → not_an_id (id_of row) ≡ false → Ranged row → is_deviation m.deviation.0 ≡ true
    → row_sound (with_measured channel m row) ≡ true
measured_sound A m row i r e =
    true_both (not (not_an_id (id_of row))) _ (ap not i) (true_both (is_deviation m.deviation.0) (is_in_range row.on_b) e r.on_b)
measured_sound B m row i r e =
    true_both (not (not_an_id (id_of row))) _ (ap not i)
    (true_both (is_measured row.on_a || true) _ (or-true (is_measured row.on_a))
    (true_both (is_in_range row.on_a) (is_deviation m.deviation.0) r.on_a e))

measured_marked : (channel : Channel) (m : Measurement) (row : Row) → row_marked m.mark row ≡ true → row_marked m.mark (with_measured channel m row) ≡ true
measured_marked A m row e =
    true_both (eqb m.mark.0 m.mark.0) _ (eq-eqb m.mark.0 m.mark.0 refl) (both_true (carries m.mark row.on_a) _ e).1
measured_marked B m row e =
    true_both (carries m.mark row.on_a) _ (both_true (carries m.mark row.on_a) _ e).0 (eq-eqb m.mark.0 m.mark.0 refl)

-- ---- the list

module _ (l : SyncList) (id : Slot) (channel : Channel) (m : Measurement) (long : length l.rows ≡ row_count) (few : l.count ≤ row_count) where
  rows_count : length (listed l) ≡ l.count
  rows_count = length-take-le l.count l.rows (omega arith)

  -- a new ID has its place behind all others
  behind : is_among id.0 (ids_of (listed l)) ≡ false → place_of id l ≡ l.count
  behind new = new_place l id new ∙ rows_count

  abbrev row : Row
  row = added l id channel m

  module _ (room : place_of id l < row_count) where
    pub recorded-count-known : is_among id.0 (ids_of (listed l)) ≡ true → (recorded id channel m l).count ≡ l.count
    recorded-count-known known = ap (λ (r : SyncList). r.count) (recorded_known l id channel m room known)

    pub recorded-count-new : is_among id.0 (ids_of (listed l)) ≡ false → (recorded id channel m l).count ≡ suc l.count
    recorded-count-new new = ap (λ (r : SyncList). r.count) (recorded-new l id channel m room new) ∙ ap suc (behind new)

    listed-known : is_among id.0 (ids_of (listed l)) ≡ true → listed (recorded id channel m l) ≡ set (listed l) (place_of id l) row
    listed-known known =
        let place : place_of id l < l.count = omega (arith, known_place l id known, rows_count) in
        ap listed (recorded_known l id channel m room known) ∙ take-set-lt l.count l.rows (place_of id l) row place

    listed-new : is_among id.0 (ids_of (listed l)) ≡ false → listed (recorded id channel m l) ≡ listed l ++ (row ∷ [])
    listed-new new = ap listed (recorded-new l id channel m room new) ∙ at (place_of id l) (behind new)
      where
        at : (p : ℕ) → p ≡ l.count → take (suc p) (set l.rows p row) ≡ listed l ++ (row ∷ [])
        at p e = rw e (take-suc-set l.rows l.count row (omega (arith, behind new)))

    pub recorded-once : none_twice (ids_of (listed l)) ≡ true → none_twice (ids_of (listed (recorded id channel m l))) ≡ true
    recorded-once n =
        cases (is_among id.0 (ids_of (listed l)))
        (λ known. rw (listed-known known, ids_set (listed l) (place_of id l) row (blank id) (measured_id channel m (row_in id (listed l)))) n)
        (λ new.
        let e : id_of row ≡ id.0 = measured_id channel m (row_in id (listed l)) ∙ in_id id (listed l) in
        rw (listed-new new, map-append id_of (listed l) (row ∷ []), e) (none_twice_end id.0 (ids_of (listed l)) n new))

    -- what is asked of each row holds of each again if it holds of the row one
    recorded-each : (asked : Row → Bool) → each_row asked (listed l) ≡ true → asked row ≡ true → each_row asked (listed (recorded id channel m l)) ≡ true
    recorded-each asked s e =
        cases (is_among id.0 (ids_of (listed l)))
        (λ known. rw (listed-known known) (each_set asked (listed l) (place_of id l) row s e))
        (λ new. rw (listed-new new) (each_end asked (listed l) row s e))

    pub recorded-sound : rows_sound (listed l) ≡ true → not_an_id id.0 ≡ false → is_deviation m.deviation.0 ≡ true
        → rows_sound (listed (recorded id channel m l)) ≡ true
    recorded-sound s i d =
        recorded-each row_sound s
        (measured_sound channel m (row_in id (listed l)) (ap not_an_id (in_id id (listed l)) ∙ i) (in_ranged (listed l) id s) d)

    pub recorded_marked : all_marked m.mark (listed l) ≡ true → all_marked m.mark (listed (recorded id channel m l)) ≡ true
    recorded_marked s =
        recorded-each (row_marked m.mark) s
        (measured_marked channel m (row_in id (listed l))
        (each_in (row_marked m.mark) (λ r. row_marked m.mark r ≡ true) (λ r e. e) (listed l) id s refl))

  pub recorded_permuted : is_measured_on id channel l ≡ false → place_of id l < row_count
      → Permuted (stands_for (listed (recorded id channel m l))) (record { id = id.0; channel = channel; measurement = m } ∷ stands_for (listed l))
  recorded_permuted e room =
      cases (is_among id.0 (ids_of (listed l)))
      (λ known.
      let h : place_of id l < length (listed l) = known_place l id known in
      rw (listed-known room known)
      (Permᴰ.trans
      (set_more m channel (listed l) (place_of id l) (blank id) h e)
      (Permᴰ.cons (ap (λ (x : ℕ). one m x channel) (in_id id (listed l))) (permuted_refl (stands_for (listed l))))))
      (λ new.
      let b : row_in id (listed l) ≡ blank id = get_or-eq_default (listed l) (blank id) {n = place_of id l} (omega (arith, new_place l id new)) in
      rw (listed-new room new, b) (end_more m channel id (listed l)))
