-- `frame_to_measure` meets its contract: the refusals in 01's order, each by an early return.
use borrow.Author.Rules.{rules}
use mathlib.Core.Path.{◌≡◌, sym, ◌∙◌}
use mathlib.Core.Bool.{false, not}
use lib.Dec.{eqb}
use Rattle.std.specs.Prelude.{None, Some}
use Rattle.settings.specs.Sheet.{sync_id_limit}
use Rattle.sync_list.specs.Lists.{is_measured_on, is_full_for}
use Rattle.clock.specs.State.{list_of}
use Rattle.measuring.specs.Measuring.{sync_frame}
use Rattle.measuring.proofs.RefusalLaws.{InTime, told20, told22, told16, told15, none_told, frame_is}
use Rattle.measuring.proofs.frame_to_measure.Goals as goal
use Rattle.measuring.proofs.frame_to_measure.Goals.{After-sync_frame, After-has-is_measured, Else-is_other}

in_time : (c : After-sync_frame) → InTime c.args.clock c.args.status c.args.observed c.args.action_point c.in_ok-cycle.cycle
in_time c =
    record {
      clock_sound = sym c.is_sound.ensures ∙ c.if-not-is_sound.false;
      status_sound = sym c.is_sound-else-not-is_sound.ensures ∙ c.if-not-is_sound-2.false;
      opened = c.in_ok-cycle.ensures.ok_part;
      observed_low = sym c.is_above_limit.ensures ∙ c.if-is_above_limit.false;
      action_point_low = sym c.is_above_limit-else-is_above_limit.ensures ∙ c.if-is_above_limit-2.false;
    }

found : (c : After-has-is_measured) → sync_frame c.args.status ≡ Some c.in_ok-frame.frame
found c = sym c.sync_frame.ensures ∙ c.in_ok-frame.ensures.ok_part

other : (c : After-has-is_measured) → c.ne-is_other.result ≡ not (eqb c.in_ok-frame.frame.cycle.0 c.in_ok-cycle.cycle.0)
other c = search rules

same : (c : Else-is_other) → not (eqb c.in_ok-frame.frame.cycle.0 c.in_ok-cycle.cycle.0) ≡ false
same c = sym (other (search rules)) ∙ c.if-is_other.false

measured : (c : After-has-is_measured)
    → c.has-is_measured.result ≡ is_measured_on c.in_ok-frame.frame.id c.args.status.channel (list_of c.in_ok-cycle.cycle c.args.clock)
measured c = rw c.list_of-list.ensures at c.has-is_measured.ensures

pub returns-in_err-frame : goal.returns-in_err-frame
returns-in_err-frame c =
    let at = goal.at.returns-in_err-frame c in
    let none : sync_frame c.args.status ≡ None = search rules in
    let told = told20 (in_time at.After-sync_frame) none in
    search rules

pub returns-then-is_other : goal.returns-then-is_other
returns-then-is_other c =
    let at = goal.at.returns-then-is_other c in
    told22 (in_time at.After-sync_frame) (found at.After-has-is_measured) (sym (other at.After-has-is_measured) ∙ c.if-is_other.true)

pub returns-then-is_measured : goal.returns-then-is_measured
returns-then-is_measured c =
    let at = goal.at.returns-then-is_measured c in
    told16 (in_time at.After-sync_frame) (found at.After-has-is_measured) (same (search rules))
    (sym (measured at.After-has-is_measured) ∙ c.if-is_measured.true)

pub returns-then-is_full_for : goal.returns-then-is_full_for
returns-then-is_full_for c =
    let at = goal.at.returns-then-is_full_for c in
    let full : c.is_full_for.result ≡ is_full_for (sync_id_limit c.args.clock.settings) c.in_ok-frame.frame.id (list_of c.in_ok-cycle.cycle c.args.clock) =
    rw (c.get.ensures, c.list_of-list.ensures) at c.is_full_for.ensures in
    told15 (in_time at.After-sync_frame) (found at.After-has-is_measured) (same (search rules))
    (sym (measured at.After-has-is_measured) ∙ c.if-is_measured.false) (sym full ∙ c.if-is_full_for.true)

pub returns : goal.returns
returns c =
    let at = goal.at.returns c in
    let full : c.is_full_for.result ≡ is_full_for (sync_id_limit c.args.clock.settings) c.in_ok-frame.frame.id (list_of c.in_ok-cycle.cycle c.args.clock) =
    rw (c.get.ensures, c.list_of-list.ensures) at c.is_full_for.ensures in
    let t = in_time at.After-sync_frame in (
      t.clock_sound,
      t.observed_low,
      t.action_point_low,
      none_told t (found at.After-has-is_measured) (same (search rules))
          (sym (measured at.After-has-is_measured) ∙ c.if-is_measured.false) (sym full ∙ c.if-is_full_for.false),
      sym (frame_is t (found at.After-has-is_measured)),
    )
