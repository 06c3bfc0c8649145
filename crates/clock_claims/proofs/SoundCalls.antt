-- Every accepted call returns a sound state.
use Rattle.std.specs.Prelude.{Option, None, Some, is_some, unwrap_or}
use Prim.Native.Nat.{ℕ}
use mathlib.Core.Path.{◌≡◌, refl, sym, ap, ◌∙◌}
use mathlib.Core.Bool.{true, false, false≢true, not, ◌&&◌}
use native.Mathlib.Omega.{arith}
use borrow.Author.Tests.{le-leb, not-false}
use lib.Dec.{leb, lit<}
use lib.IntN.{pos}
use Rattle.numbers.proofs.Truth.{both_true, true_both, neither}
use Rattle.refusal.specs.Refusal.{first, numbered}
use Rattle.refusal.proofs.FirstLaws.{first_zero, if_accepted_lem, not_refused}
use Rattle.base_types.specs.declared.cycle.Cycle.{Cycle}
use Rattle.base_types.specs.Cycle.{cycle_too_high}
use Rattle.settings.specs.declared.Mark.{Mark}
use Rattle.settings.specs.declared.Settings.{Settings}
use Rattle.settings.specs.Sheet.{out_of_range, sync_id_limit, rate_limit}
use Rattle.slot.specs.declared.status.Status.{Status}
use Rattle.slot.specs.Sound as slot
use Rattle.base_types.specs.declared.microtick.Microtick.{Microtick}
use Rattle.base_types.specs.Microtick.{above_time_limit}
use Rattle.sync_list.specs.Lists.{empty, none_twice, recorded}
use Rattle.list_soundness.specs.Sound.{each_row, list_sound}
use Rattle.clock.specs.declared.state.Clock.{Clock}
use Rattle.clock.specs.State.{fresh, current_cycle, list_of}
use Rattle.clock.specs.Sound.{cycle_sound, sound}
use Rattle.clock.specs.Loading as loading
use Rattle.clock.specs.Opening.{opening_refusals, opened_on}
use Rattle.clock.proofs.SoundLaws.{clauses, sound_by, near_inside, at_most}
use Rattle.measuring.specs.Measuring as measuring
use Rattle.measuring.specs.Measuring.{frame_of, no_sync_frame, measurement_by, measure_refusals, measured_on}
use Rattle.measuring.proofs.DeviationLaws.{deviation_ranged}
use Rattle.closing.specs.Closing as closing
use Rattle.closing.specs.Closing.{closing_refusals, rate_found, closed_on}
use Rattle.closing.proofs.RangeLaws.{zero_near, found_near}
use Rattle.clock_claims.specs.Typed.{TypedList}
use Rattle.clock_claims.proofs.Recorded.{frame_id, recorded_good, of_list, of_even_after, with_list_sound, list_of_sound}
use Rattle.clock_claims.specs.Sound.{LoadedSound, OpenedSound, MeasuredSound, ClosedSound}

-- ---- loading

empty_sound : (limit : ℕ) (mark : Mark) → list_sound limit mark empty ≡ true
unfolding each_row none_twice
empty_sound limit mark = true_both (leb 0 limit) true (le-leb 0 limit (omega arith)) refl

pub fresh_sound : (s : Settings) → out_of_range s ≡ false → sound (fresh s) ≡ true
fresh_sound s e =
    sound_by (fresh s)
    (record {
      settings = e;
      opened = refl;
      last_closed = refl;
      even = empty_sound (sync_id_limit s) s.mark;
      odd = empty_sound (sync_id_limit s) s.mark;
      rate = ap not (near_inside (rate_limit s) (pos 0) (zero_near (rate_limit s)));
    })

pub loaded_sound : LoadedSound
loaded_sound settings r h e =
    let zero : first (loading.load_refusals settings) ≡ 0 = sym (ap (λ (t : loading.Told). t.number) h.answers) ∙ e in
    ap sound (h.leaves ∙ if_accepted_lem _ (fresh settings) _ zero) ∙ fresh_sound settings (first_zero 16 (out_of_range settings) _ zero).0

-- ---- opening

pub opened_on_sound : (c : Clock) (cycle : Cycle) → sound c ≡ true → cycle_too_high cycle.0 ≡ false → sound (opened_on c cycle) ≡ true
opened_on_sound c cycle e low =
    let k = clauses c e in
    sound_by (opened_on c cycle)
    (record {
      settings = k.settings;
      opened = ap not low;
      last_closed = k.last_closed;
      even =
          of_even_after (λ l. list_sound (sync_id_limit c.settings) c.settings.mark l ≡ true) c cycle k.even
          (empty_sound (sync_id_limit c.settings) c.settings.mark);
      odd = empty_sound (sync_id_limit c.settings) c.settings.mark;
      rate = k.rate;
    })

pub opened_sound : OpenedSound
unfolding numbered
opened_sound clock cycle r h e =
    let zero : first (opening_refusals clock cycle) ≡ 0 = sym h.answers ∙ e in
    let passed = not_refused (opening_refusals clock cycle) refl zero in
    ap sound (h.leaves ∙ if_accepted_lem _ (opened_on clock cycle) clock zero) ∙ opened_on_sound clock cycle (not-false (sound clock) (passed 23)) (passed 11)

-- ---- measuring

has_frame : (s : Status) → no_sync_frame s ≡ false → is_some s.kept ≡ true
has_frame s e = not-false (is_some s.kept) (neither (not (is_some s.kept)) _ e).0

module _ (c : Clock) (status : Status) (observed action_point : Microtick) (even : TypedList c.even) (odd : TypedList c.odd) where
  pub measured_on_sound : first (measure_refusals c status observed action_point) ≡ 0 → sound (measured_on c status (measurement_by c status observed action_point)) ≡ true
  unfolding numbered
  measured_on_sound zero =
      let passed = not_refused (measure_refusals c status observed action_point) refl zero in
      let both = both_true (sound c) (slot.sound status) (not-false (sound c && slot.sound status) (passed 23)) in
      let times = neither (above_time_limit observed.0) (above_time_limit action_point.0) (passed 14) in
      let k = clauses c both.0 in
      let l = list_of (current_cycle c) c in
      let m = measurement_by c status observed action_point in
      with_list_sound c (current_cycle c) both.0 (recorded (frame_of status).id status.channel m l)
      (recorded_good (sync_id_limit c.settings) c.settings.mark l (frame_of status).id (of_list TypedList c (current_cycle c) even odd) (at_most c.settings k.settings 4 (lit< tt))
      (list_of_sound c (current_cycle c) both.0) (passed 15) status.channel m refl
      (frame_id status both.1 (has_frame status (passed 20)))
      (deviation_ranged c status observed action_point k.settings times.0 times.1))

pub measured_sound : MeasuredSound
measured_sound clock status observed action_point r typed h e =
    let zero : first (measure_refusals clock status observed action_point) ≡ 0 = sym (ap (λ (t : measuring.Told). t.number) h.answers) ∙ e in
    ap sound (h.leaves ∙ if_accepted_lem _ (measured_on clock status (measurement_by clock status observed action_point)) clock zero)
    ∙ measured_on_sound clock status observed action_point typed.even typed.odd zero

-- ---- closing

open_cycle_sound : (c : Option Cycle) → cycle_sound c ≡ true → is_some c ≡ true → cycle_sound (Some (unwrap_or c (record { 0 = 0 }))) ≡ true
open_cycle_sound None e there = absurd (false≢true there)
open_cycle_sound (Some cycle) e there = e

pub closed_on_sound : (c : Clock) → sound c ≡ true → is_some c.opened ≡ true → sound (closed_on c) ≡ true
closed_on_sound c e there =
    let k = clauses c e in
    sound_by (closed_on c)
    (record {
      settings = k.settings;
      opened = refl;
      last_closed = open_cycle_sound c.opened k.opened there;
      even = k.even;
      odd = k.odd;
      rate = ap not (near_inside (rate_limit c.settings) (rate_found c).value.0 (found_near c e));
    })

pub closed_sound : ClosedSound
unfolding numbered
closed_sound clock offset_control rate_control r h e =
    let zero : first (closing_refusals clock offset_control rate_control) ≡ 0 = sym (ap (λ (t : closing.Told). t.number) h.answers) ∙ e in
    let passed = not_refused (closing_refusals clock offset_control rate_control) refl zero in
    ap sound (h.leaves ∙ if_accepted_lem _ (closed_on clock) clock zero)
    ∙ closed_on_sound clock (not-false (sound clock) (passed 23)) (not-false (is_some clock.opened) (passed 18))
