-- The refusals of measuring in 01's order, from what the tests give.
use mathlib.Core.Path.{◌≡◌, refl, sym, ap, ◌∙◌}
use mathlib.Core.Bool.{Bool, true, false, not, ◌||◌, cond}
use mathlib.Core.List.{List}
use lib.Dec.{eqb}
use lib.ListN.{drop}
use Rattle.std.specs.Prelude.{Option, None, Some, is_some, unwrap_or}
use Rattle.numbers.proofs.Truth.{true_both}
use Rattle.refusal.specs.Refusal.{Line, first}
use Rattle.refusal.proofs.FirstLaws.{Past, ◌then◌, passed, first_at, first_none_left}
use Rattle.header.specs.declared.Header.{Header}
use Rattle.base_types.specs.declared.cycle.Cycle.{Cycle}
use Rattle.base_types.specs.declared.microtick.Microtick.{Microtick}
use Rattle.base_types.specs.Microtick.{above_time_limit}
use Rattle.settings.specs.Sheet.{sync_id_limit}
use Rattle.slot.specs.declared.status.Status.{Status}
use Rattle.slot.specs.Sound as slot
use Rattle.sync_list.specs.Lists.{is_measured_on, is_full_for}
use Rattle.clock.specs.declared.state.Clock.{Clock}
use Rattle.clock.specs.State.{current_cycle, list_of}
use Rattle.clock.specs.Sound.{sound}
use Rattle.measuring.specs.Measuring.{frame_of, no_sync_frame, sync_frame, other_cycle, measured_already, list_full, measure_refusals}

-- ---- a frame, where it is not refused

some_if : {A : Type 0} (b : Bool) (x y : A) → cond b None (Some x) ≡ Some y → (b ≡ false) × (x ≡ y)
some_if true x y e = absurd (cc)
some_if false x y e = (refl, cc)

none_if : {A : Type 0} (b : Bool) (x : A) → cond b None (Some x) ≡ None → b ≡ true
none_if true x e = refl
none_if false x e = absurd (cc)

-- ---- what was tested before the frame, and with it

-- Both states are sound, a cycle is open, and both times are accepted.
pub record InTime (clock : Clock) (status : Status) (observed action_point : Microtick) (cycle : Cycle) : Type 0 where
  pub clock_sound : sound clock ≡ true
  pub status_sound : slot.sound status ≡ true
  pub opened : clock.opened ≡ Some cycle
  pub observed_low : above_time_limit observed.0 ≡ false
  pub action_point_low : above_time_limit action_point.0 ≡ false

module _ {clock : Clock} {status : Status} {observed action_point : Microtick} {cycle : Cycle} (t : InTime clock status observed action_point cycle) where
  abbrev order : List Line
  order = measure_refusals clock status observed action_point

  past14 : Past order (drop 3 order)
  past14 =
      passed (ap not (true_both _ _ t.clock_sound t.status_sound))
      then ap (λ (o : Option Cycle). not (is_some o)) t.opened
      then ap (λ (b : Bool). b || above_time_limit action_point.0) t.observed_low ∙ t.action_point_low

  pub told20 : sync_frame status ≡ None → 20 ≡ first order
  told20 e = sym (first_at past14 (none_if (no_sync_frame status) (frame_of status) e))

  module _ {frame : Header} (found : sync_frame status ≡ Some frame) where
    pub frame_is : frame_of status ≡ frame
    frame_is = (some_if (no_sync_frame status) (frame_of status) frame found).1

    pub cycle_is : current_cycle clock ≡ cycle
    cycle_is = ap (λ (o : Option Cycle). unwrap_or o (record { 0 = 0 })) t.opened

    other_is : other_cycle clock status ≡ not (eqb frame.cycle.0 cycle.0)
    other_is = λ i. not (eqb (frame_is i).cycle.0 (cycle_is i).0)

    measured_is : measured_already clock status ≡ is_measured_on frame.id status.channel (list_of cycle clock)
    measured_is = λ i. is_measured_on (frame_is i).id status.channel (list_of (cycle_is i) clock)

    full_is : list_full clock status ≡ is_full_for (sync_id_limit clock.settings) frame.id (list_of cycle clock)
    full_is = λ i. is_full_for (sync_id_limit clock.settings) (frame_is i).id (list_of (cycle_is i) clock)

    past20 : Past order (drop 4 order)
    past20 = past14 then (some_if (no_sync_frame status) (frame_of status) frame found).0

    pub told22 : not (eqb frame.cycle.0 cycle.0) ≡ true → 22 ≡ first order
    told22 e = sym (first_at past20 (other_is ∙ e))

    module _ (same : not (eqb frame.cycle.0 cycle.0) ≡ false) where
      past22 : Past order (drop 5 order)
      past22 = past20 then other_is ∙ same

      pub told16 : is_measured_on frame.id status.channel (list_of cycle clock) ≡ true → 16 ≡ first order
      told16 e = sym (first_at past22 (measured_is ∙ e))

      module _ (new : is_measured_on frame.id status.channel (list_of cycle clock) ≡ false) where
        past16 : Past order (drop 6 order)
        past16 = past22 then measured_is ∙ new

        pub told15 : is_full_for (sync_id_limit clock.settings) frame.id (list_of cycle clock) ≡ true → 15 ≡ first order
        told15 e = sym (first_at past16 (full_is ∙ e))

        pub none_told : is_full_for (sync_id_limit clock.settings) frame.id (list_of cycle clock) ≡ false → first order ≡ 0
        none_told e = first_none_left (past16 then full_is ∙ e)
