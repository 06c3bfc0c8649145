-- A measurement that is taken leaves a sound list: there is room for it, its ID is one, and its deviation is in range.
use Rattle.std.specs.Prelude.{Option, None, Some, is_some, is_none, min, unwrap_or}
use Prim.Native.Nat.{ℕ, suc, ◌≤◌, ◌<◌}
use mathlib.Core.Path.{◌≡◌, sym, ap, subst, ◌∙◌}
use mathlib.Core.Bool.{true, false, false≢true, not, cond}
use native.Mathlib.Omega.{arith}
use borrow.Author.Tests.{leb-false, ltb-true, ltb-false, not-true}
use lib.Dec.{leb, ltb}
use lib.ListN.{length, length-map, length-set, length-take, set}
use Rattle.numbers.proofs.Truth.{both_true, true_both}
use Rattle.numbers.proofs.Walk.{cases, cases_in}
use Rattle.base_types.specs.declared.channel.Channel.{Channel}
use Rattle.base_types.specs.declared.cycle.Cycle.{Cycle}
use Rattle.base_types.specs.declared.id.Slot.{Slot}
use Rattle.base_types.specs.Slot.{not_an_id}
use Rattle.header.specs.declared.Header.{Header}
use Rattle.header.specs.Layout.{no_header}
use Rattle.slot.specs.declared.status.Status.{Status}
use Rattle.slot.specs.Judging.{Place, place_of, first_miss}
use Rattle.slot.specs.Sound.{could_be_read, keeps_well}
use Rattle.slot.specs.Sound as slot
use Rattle.slot.proofs.SoundLaws.{clauses as status-clauses}
use Rattle.settings.specs.declared.Mark.{Mark}
use Rattle.settings.specs.Sheet.{sync_id_limit}
use Rattle.base_types.specs.Microtick.{is_deviation}
use Rattle.sync_list.specs.declared.row.Measurement.{Measurement}
use Rattle.sync_list.specs.declared.list.SyncList.{SyncList}
use Rattle.sync_list.specs.Rows.{with_measured}
use Rattle.sync_list.specs.Lists.{row_count, empty, listed, id_of, ids_of, is_among, place_of as list_place, is_full_for, recorded, row_in}
use Rattle.list_soundness.specs.Sound.{list_sound, all_marked}
use Rattle.sync_list.proofs.PlaceLaws.{among_place, place_most}
use Rattle.measurements.proofs.AddingLaws.{recorded-count-known, recorded-count-new, recorded-once, recorded-sound, recorded_marked}
use Rattle.clock.specs.declared.state.Clock.{Clock}
use Rattle.base_types.specs.Cycle.{is_odd}
use Rattle.clock.specs.State.{list_of, with_list}
use Rattle.clock.specs.Opening.{keeps_even, even_after}
use Rattle.clock.specs.Sound.{sound}
use Rattle.clock.proofs.SoundLaws.{clauses, sound_by, list_clauses, list_sound_by}
use Rattle.measuring.specs.Measuring.{frame_of}
use Rattle.clock_claims.specs.Typed.{TypedList}

-- ---- the ID of a frame that a sound status keeps

kept_id : (p : Place) (k : Option Header) → keeps_well p k ≡ true → is_some k ≡ true → not_an_id (unwrap_or k no_header).id.0 ≡ false
kept_id p None e f = absurd (false≢true f)
kept_id p (Some h) e f =
    not-true (not_an_id h.id.0) (both_true (not (not_an_id h.id.0)) _ (both_true (could_be_read h) (is_none (first_miss p h)) e).0).0

pub frame_id : (s : Status) → slot.sound s ≡ true → is_some s.kept ≡ true → not_an_id (frame_of s).id.0 ≡ false
frame_id s e f = kept_id (place_of s) s.kept (status-clauses s e).keeps f

-- ---- room

module _ (limit : ℕ) (mark : Mark) (l : SyncList) (id : Slot) (typed : TypedList l) (small : limit ≤ row_count) (good : list_sound limit mark l ≡ true) (room : is_full_for limit id l ≡ false) where
  -- the ID is listed, or one more is within the limit
  new_within : is_among id.0 (ids_of (listed l)) ≡ false → l.count < limit
  new_within new =
      leb-false limit l.count
      (cases (leb limit l.count)
      (λ t. absurd (false≢true (sym room ∙ true_both (leb limit l.count) (not (is_among id.0 (ids_of (listed l)))) t (ap not new))))
      (λ t. t))

  ids_long : length (ids_of (listed l)) ≡ min l.count row_count
  ids_long = length-map (listed l) id_of ∙ length-take l.count l.rows ∙ ap (min l.count) typed

  pub has_place : list_place id l < row_count
  has_place =
      let place = among_place id.0 (ids_of (listed l)) in
      let long = ids_long in
      let most = place_most id.0 (ids_of (listed l)) in
      cases (is_among id.0 (ids_of (listed l)))
      (λ t. omega (arith, ltb-true (list_place id l) (length (ids_of (listed l))) (place ∙ t)))
      (λ t. let h = new_within t in omega arith)

  pub recorded_good : (channel : Channel) (m : Measurement) → m.mark ≡ mark → not_an_id id.0 ≡ false → is_deviation m.deviation.0 ≡ true
      → list_sound limit mark (recorded id channel m l) ≡ true
  recorded_good channel m own is-id ranged =
      let k = list_clauses limit mark l good in
      let few = k.few in
      let c : l.count ≤ row_count = omega arith in
      list_sound_by limit mark (recorded id channel m l)
      (record {
        few =
            cases (is_among id.0 (ids_of (listed l)))
            (λ t. subst (λ (n : ℕ). n ≤ limit) (sym (recorded-count-known l id channel m typed c has_place t)) few)
            (λ t. subst (λ (n : ℕ). n ≤ limit) (sym (recorded-count-new l id channel m typed c has_place t)) (new_within t));
        rows = recorded-sound l id channel m typed c has_place k.rows is-id ranged;
        ids = recorded-once l id channel m typed c has_place k.ids;
        marks =
            subst (λ (x : Mark). all_marked x (listed l) ≡ true → all_marked x (listed (recorded id channel m l)) ≡ true) own
            (recorded_marked l id channel m typed c has_place) k.marks;
      })

-- ---- the clock

-- what holds of both lists holds of a cycle's, and of both with another list for it
module _ (P : SyncList → Type 0) (c : Clock) (cycle : Cycle) (even : P c.even) (odd : P c.odd) where
  pub of_list : P (list_of cycle c)
  of_list = cases_in (λ b. P (cond b c.odd c.even)) (is_odd cycle) (λ t. odd) (λ t. even)

  module _ {l : SyncList} (new : P l) where
    pub of-even : P (with_list cycle l c).even
    of-even = cases_in (λ b. P (cond b c.even l)) (is_odd cycle) (λ t. even) (λ t. new)

    pub of-odd : P (with_list cycle l c).odd
    of-odd = cases_in (λ b. P (cond b l c.odd)) (is_odd cycle) (λ t. new) (λ t. odd)

-- and of the even list, where it is kept or emptied
pub of_even_after : (P : SyncList → Type 0) (c : Clock) (cycle : Cycle) → P c.even → P empty → P (even_after c cycle)
of_even_after P c cycle kept none = cases_in (λ b. P (cond b c.even empty)) (keeps_even c cycle) (λ t. kept) (λ t. none)

module _ (c : Clock) (cycle : Cycle) (e : sound c ≡ true) where
  abbrev Good : SyncList → Type 0
  Good l = list_sound (sync_id_limit c.settings) c.settings.mark l ≡ true

  pub list_of_sound : Good (list_of cycle c)
  list_of_sound = of_list Good c cycle (clauses c e).even (clauses c e).odd

  pub with_list_sound : (l : SyncList) → Good l → sound (with_list cycle l c) ≡ true
  with_list_sound l good =
      let k = clauses c e in
      sound_by (with_list cycle l c)
      (record {
        settings = k.settings;
        opened = k.opened;
        last_closed = k.last_closed;
        even = of-even Good c cycle k.even k.odd good;
        odd = of-odd Good c cycle k.even k.odd good;
        rate = k.rate;
      })

-- ---- no row is lost or added

pub recorded_typed : (id : Slot) (channel : Channel) (m : Measurement) (l : SyncList) → TypedList l → TypedList (recorded id channel m l)
recorded_typed id channel m l typed =
    let row = with_measured channel m (row_in id (listed l)) in
    let count = cond (is_among id.0 (ids_of (listed l))) l.count (suc (list_place id l)) in
    cases_in (λ b. TypedList (cond b l (record { rows = set l.rows (list_place id l) row; count = count }))) (leb row_count (list_place id l))
    (λ t. typed)
    (λ t. length-set l.rows (list_place id l) row ∙ typed)
