-- The listed rows of a list, and what a measurement leaves of them.
use Prim.Native.Nat.{ℕ, suc, ◌+◌, ◌≤◌, ◌<◌, max}
use mathlib.Core.Path.{◌≡◌, ◌∙◌}
use mathlib.Core.Bool.{true, false}
use native.Mathlib.Omega.{arith}
use borrow.Author.Tests.{ltb-true, ltb-false, lt-leb, le-leb}
use lib.Dec.{leb}
use lib.ListN.{length, length-map, length-take, set}
use Rattle.std.specs.Prelude.{unwrap_or}
use Rattle.numbers.proofs.Walk.{cases}
use Rattle.base_types.specs.declared.channel.Channel.{Channel}
use Rattle.base_types.specs.declared.id.Slot.{Slot}
use Rattle.sync_list.specs.declared.list.SyncList.{SyncList}
use Rattle.sync_list.specs.declared.row.Measurement.{Measurement}
use Rattle.sync_list.specs.declared.row.Row.{Row}
use Rattle.sync_list.specs.Rows.{with_measured}
use Rattle.sync_list.specs.Lists.{row_count, listed, id_of, ids_of, is_among, place_of, place_in, row_in, recorded}
use Rattle.sync_list.proofs.PlaceLaws.{among_place, place_most}

module _ (l : SyncList) (id : Slot) where
  -- a listed ID has its place among the listed rows, another one the place behind them
  pub known_place : is_among id.0 (ids_of (listed l)) ≡ true → place_of id l < length (listed l)
  known_place known =
      let h : place_of id l < length (ids_of (listed l)) = ltb-true _ _ (among_place id.0 (ids_of (listed l)) ∙ known) in
      omega (arith, length-map (listed l) id_of)

  pub new_place : is_among id.0 (ids_of (listed l)) ≡ false → place_of id l ≡ length (listed l)
  new_place new =
      let h : length (ids_of (listed l)) ≤ place_of id l = ltb-false _ _ (among_place id.0 (ids_of (listed l)) ∙ new) in
      omega (arith, length-map (listed l) id_of, place_most id.0 (ids_of (listed l)))

  -- what a measurement leaves
  module _ (channel : Channel) (m : Measurement) where
    abbrev pub added : Row
    added = with_measured channel m (row_in id (listed l))

    -- its row in its place, and one row more where the ID is new
    module _ (room : place_of id l < row_count) where
      in-room : leb row_count (place_of id l) ≡ false
      in-room = lt-leb row_count (place_of id l) room

      pub recorded_known : is_among id.0 (ids_of (listed l)) ≡ true → recorded id channel m l ≡ record { rows = set l.rows (place_of id l) added; count = l.count }
      recorded_known known = rw (in-room, known)

      pub recorded-new : is_among id.0 (ids_of (listed l)) ≡ false → recorded id channel m l ≡ record { rows = set l.rows (place_of id l) added; count = suc (place_of id l) }
      recorded-new new = rw (in-room, new)

    -- at the place of the ID, or behind all that are counted
    module _ (long : length l.rows ≡ row_count) (p : ℕ) (e : p ≡ unwrap_or (place_in id l) l.count) where
      pub full_kept : row_count ≤ p → l ≡ recorded id channel m l
      full_kept over =
          cases (is_among id.0 (ids_of (listed l)))
          (λ known. let q : p ≡ place_of id l = rw known at e in rw (le-leb row_count (place_of id l) (omega arith)))
          (λ new. let q : p ≡ l.count = rw new at e in
          rw (le-leb row_count (place_of id l) (omega (arith, new_place new, length-take l.count l.rows))))

      pub laid : p < row_count → record { rows = set l.rows p added; count = max l.count (p + 1) } ≡ recorded id channel m l
      laid room =
          cases (is_among id.0 (ids_of (listed l)))
          (λ known. let q : p ≡ place_of id l = rw known at e in
          let counted : max l.count (place_of id l + 1) ≡ l.count = omega (arith, known_place known, length-take l.count l.rows) in
          rw (q, recorded_known (omega arith) known, counted))
          (λ new. let q : p ≡ l.count = rw new at e in
          let here : place_of id l ≡ l.count = omega (arith, new_place new, length-take l.count l.rows) in
          let counted : max l.count (l.count + 1) ≡ suc l.count = omega arith in
          rw (q, recorded-new (omega arith) new, here, counted))
