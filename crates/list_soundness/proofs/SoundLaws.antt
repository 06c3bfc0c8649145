-- Rows are walked one by one: what is known of the IDs passed, and which rows make them unsound.
use Prim.Native.Nat.{ℕ, zero, suc, ◌+◌, ◌<◌, max}
use mathlib.Core.Path.{◌≡◌, refl, sym, ap, ◌∙◌}
use mathlib.Core.Bool.{true, false, false≢true, ◌||◌, and-false, or-true}
use mathlib.Core.List.{List, [], ◌∷◌, ◌++◌, map-append, Memᴰ}
use native.Mathlib.Numerals.{add-one}
use native.Mathlib.Omega.{arith}
use borrow.Author.Tests.{eq-eqb, ne_eqb, eqb-true}
use lib.Dec.{eqb, leb}
use lib.ListN.{length, get_or, take}
use lib.Seq.{take-suc}
use Rattle.std.specs.List.{list_any}
use Rattle.numbers.proofs.Walk.{cases}
use Rattle.base_types.specs.declared.id.Slot.{Slot}
use Rattle.settings.specs.declared.Mark.{Mark}
use Rattle.sync_list.specs.declared.row.Row.{Row}
use Rattle.sync_list.specs.declared.list.SyncList.{SyncList}
use Rattle.sync_list.specs.Lists.{listed, id_of, ids_of, is_among, none_twice}
use Rattle.sync_list.proofs.AmongLaws.{among_end, none_twice_end}
use Rattle.list_soundness.specs.Sound.{rows_sound, row_marked, all_marked, list_sound}
use Rattle.list_soundness.proofs.EachLaws.{each_member}

-- an ID that is looked for among rows
pub among_any : (id : Slot) (rows : List Row) → list_any (λ (row : Row). eqb row.id.0 id.0) rows ≡ is_among id.0 (ids_of rows)
unfolding is_among
among_any id [] = refl
among_any id (row ∷ rows) = ap (◌||◌ (eqb row.id.0 id.0)) (among_any id rows)

-- ---- IDs of which none stands twice so far

-- nor is one above the highest among them
pub record OnceSoFar (highest : ℕ) (rows : List Row) : Type 0 where
  pub once : none_twice (ids_of rows) ≡ true
  pub above : (id : ℕ) → highest < id → is_among id (ids_of rows) ≡ false

pub none_passed : OnceSoFar 0 []
unfolding none_twice is_among
none_passed = record { once = refl; above = λ id h. refl }

pub one_more : {highest : ℕ} (rows : List Row) (i : ℕ) (d : Row) → i < length rows → OnceSoFar highest (take i rows)
    → is_among (get_or rows i d).id.0 (ids_of (take i rows)) ≡ false → OnceSoFar (max highest (get_or rows i d).id.0) (take (i + 1) rows)
one_more rows i d h f new =
    let id = (get_or rows i d).id.0 in
    let ids : ids_of (take (i + 1) rows) ≡ ids_of (take i rows) ++ (id ∷ []) =
    rw (add-one, take-suc rows i d h) (map-append id_of (take i rows) (get_or rows i d ∷ [])) in
    record {
      once = rw ids (none_twice_end id (ids_of (take i rows)) f.once new);
      above =
          λ x more. rw ids (among_end x id (ids_of (take i rows)) (f.above x (omega arith)) (ne_eqb id x (λ e. omega arith)));
    }

-- ---- an ID that stands twice

there : (rows : List Row) (i : ℕ) (d : Row) → i < length rows → is_among (id_of (get_or rows i d)) (ids_of rows) ≡ true
unfolding is_among
there [] i d h = absurd (omega arith)
there (row ∷ rows) zero d h = rw (eq-eqb (id_of row) (id_of row) refl)
there (row ∷ rows) (suc i) d h = rw (there rows i d (omega arith)) (or-true _)

pub id_twice : (rows : List Row) (i : ℕ) (d : Row) → i < length rows → is_among (id_of (get_or rows i d)) (ids_of (take i rows)) ≡ true
    → none_twice (ids_of rows) ≡ false
unfolding none_twice is_among
id_twice [] i d h e = absurd (omega arith)
id_twice (row ∷ rows) zero d h e = absurd (false≢true e)
id_twice (row ∷ rows) (suc i) d h e =
    let id = id_of (get_or rows i d) in
    cases (eqb (id_of row) id)
    (λ q. rw (eqb-true (id_of row) id q, there rows i d (omega arith)))
    (λ q. let rest : none_twice (ids_of rows) ≡ false = id_twice rows i d (omega arith) (rw q at e) in rw rest (and-false _))

-- ---- a row without the mark

pub unmarked-at : (limit : ℕ) (mark : Mark) (l : SyncList) (row : Row) → Memᴰ row (listed l) → row_marked mark row ≡ false
    → list_sound limit mark l ≡ false
unmarked-at limit mark l row mem e =
    cases (all_marked mark (listed l))
    (λ p. absurd (false≢true (sym e ∙ each_member (row_marked mark) (listed l) row p mem)))
    (λ q. rw (q, and-false (none_twice (ids_of (listed l))), and-false (rows_sound (listed l))) (and-false (leb l.count limit)))
