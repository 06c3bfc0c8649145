-- The claims about the answers, from the statements alone.
use Prim.Native.Nat.{ℕ}
use mathlib.Core.Path.{◌≡◌, refl, sym, ap, ap₂, ◌∙◌, subst}
use mathlib.Core.Bool.{cond}
use Rattle.std.specs.Prelude.{Ok, Err}
use lib.Dec.{eqb}
use lib.IntN.{pos}
use Rattle.refusal.specs.Refusal.{first, numbered}
use Rattle.refusal.proofs.FirstLaws.{told_in_order, if_refused}
use Rattle.settings_claims.specs.Sheet.{FieldTold}
use Rattle.settings_claims.proofs.Sheet.{sheets}
use Rattle.refusal.proofs.AnswerLaws.{one_answer}
use Rattle.clock.specs.declared.state.Clock.{Clock}
use Rattle.clock.specs.declared.opening.CycleRefusal.TheVariants as opening
use Rattle.clock.specs.State.{fresh, no_clock}
use Rattle.clock.specs.Loading.{Loading}
use Rattle.clock.specs.Loading as load
use Rattle.clock.specs.Opening.{CycleOpening}
use Rattle.clock.specs.Opening as open_rule
use Rattle.measuring.specs.declared.MeasureRefusal.TheVariants as measuring
use Rattle.measuring.specs.Measuring.{Measuring}
use Rattle.measuring.specs.Measuring as measure
use Rattle.closing.specs.declared.CloseRefusal.TheVariants as closing
use Rattle.closing.specs.Closing.{Closing}
use Rattle.closing.specs.Closing as close
use Rattle.clock_claims.specs.Answers.{LoadOne, OpenOne, MeasureOne, CloseOne, LoadInOrder, OpenInOrder, MeasureInOrder, CloseInOrder, LoadField, LoadRefused, OpenRefused, MeasureRefused, CloseRefused}

-- ---- one result: a number names one case, so answers that say the same in 01's numbers are one answer

unfoldable pub loading_by : load.Told → Loading
loading_by t = cond (eqb t.number 0) (Ok tt) (Err (record { 0 = t.field }))

loading_by_lem : (r : Loading) → loading_by (load.told r) ≡ r
unfolding loading_by
loading_by_lem (Ok done) = refl
loading_by_lem (Err refusal) = refl

pub load_one : LoadOne
load_one settings r s hr hs =
    ap₂ (λ (a : Loading) (c : Clock). record { answer = a; state = c })
    (one_answer load.told loading_by loading_by_lem r.answer s.answer hr.answers hs.answers) (hr.leaves ∙ sym hs.leaves)

unfoldable pub opening_by : ℕ → CycleOpening
opening_by n = cond (eqb n 0) (Ok tt) (Err (cond (eqb n 23) opening.NotSound (cond (eqb n 11) opening.CycleTooHigh opening.OpenAlready)))

opening_by_lem : (r : CycleOpening) → opening_by (open_rule.told r) ≡ r
unfolding opening_by
opening_by_lem (Ok done) = refl
opening_by_lem (Err opening.NotSound) = refl
opening_by_lem (Err opening.CycleTooHigh) = refl
opening_by_lem (Err opening.OpenAlready) = refl

pub open_one : OpenOne
open_one clock cycle r s hr hs =
    ap₂ (λ (a : CycleOpening) (c : Clock). record { answer = a; state = c })
    (one_answer open_rule.told opening_by opening_by_lem r.answer s.answer hr.answers hs.answers) (hr.leaves ∙ sym hs.leaves)

unfoldable pub measuring_by : measure.Told → Measuring
measuring_by t =
    cond (eqb t.number 0) (Ok (record { 0 = t.deviation }))
    (Err (cond (eqb t.number 23) measuring.NotSound
    (cond (eqb t.number 18) measuring.NoCycleOpen
    (cond (eqb t.number 14) measuring.TimeTooHigh
    (cond (eqb t.number 20) measuring.NoSyncFrame
    (cond (eqb t.number 22) measuring.OtherCycle (cond (eqb t.number 16) measuring.MeasuredAlready measuring.ListFull)))))))

measuring_by_lem : (r : Measuring) → measuring_by (measure.told r) ≡ r
unfolding measuring_by
measuring_by_lem (Ok d) = refl
measuring_by_lem (Err measuring.NotSound) = refl
measuring_by_lem (Err measuring.NoCycleOpen) = refl
measuring_by_lem (Err measuring.TimeTooHigh) = refl
measuring_by_lem (Err measuring.NoSyncFrame) = refl
measuring_by_lem (Err measuring.OtherCycle) = refl
measuring_by_lem (Err measuring.MeasuredAlready) = refl
measuring_by_lem (Err measuring.ListFull) = refl

pub measure_one : MeasureOne
measure_one clock status observed action_point r s hr hs =
    ap₂ (λ (a : Measuring) (c : Clock). record { answer = a; state = c })
    (one_answer measure.told measuring_by measuring_by_lem r.answer s.answer hr.answers hs.answers) (hr.leaves ∙ sym hs.leaves)

unfoldable pub closing_by : close.Told → Closing
closing_by t =
    cond (eqb t.number 0) (Ok t.report)
    (Err (cond (eqb t.number 23) closing.NotSound (cond (eqb t.number 18) closing.NoCycleOpen closing.NotAControl)))

closing_by_lem : (r : Closing) → closing_by (close.told r) ≡ r
unfolding closing_by
closing_by_lem (Ok report) = refl
closing_by_lem (Err closing.NotSound) = refl
closing_by_lem (Err closing.NoCycleOpen) = refl
closing_by_lem (Err closing.NotAControl) = refl

pub close_one : CloseOne
close_one clock offset_control rate_control r s hr hs =
    ap₂ (λ (a : Closing) (c : Clock). record { answer = a; state = c })
    (one_answer close.told closing_by closing_by_lem r.answer s.answer hr.answers hs.answers) (hr.leaves ∙ sym hs.leaves)

-- ---- in order

pub load_in_order : LoadInOrder
unfolding numbered
load_in_order settings r h = told_in_order _ refl (ap (λ (t : load.Told). t.number) h.answers)

pub open_in_order : OpenInOrder
unfolding numbered
open_in_order clock cycle r h = told_in_order _ refl h.answers

pub measure_in_order : MeasureInOrder
unfolding numbered
measure_in_order clock status observed action_point r h = told_in_order _ refl (ap (λ (t : measure.Told). t.number) h.answers)

pub close_in_order : CloseInOrder
unfolding numbered
close_in_order clock offset_control rate_control r h = told_in_order _ refl (ap (λ (t : close.Told). t.number) h.answers)

-- ---- the field

pub load_field : LoadField
load_field settings r typed h = subst (FieldTold settings) (sym (ap (λ (t : load.Told). t.field) h.answers)) (sheets settings typed)

-- ---- a refusal

pub load_refused : LoadRefused
load_refused settings r h refused =
    h.leaves ∙ if_refused _ (fresh settings) no_clock (λ e. refused (ap (λ (t : load.Told). t.number) h.answers ∙ e))

pub open_refused : OpenRefused
open_refused clock cycle r h refused = h.leaves ∙ if_refused _ (open_rule.opened_on clock cycle) clock (λ e. refused (h.answers ∙ e))

pub measure_refused : MeasureRefused
measure_refused clock status observed action_point r h refused =
    let d = measure.deviation_by clock status observed action_point in
    let m = measure.measurement_by clock status observed action_point in
    let no : first (measure.measure_refusals clock status observed action_point) ≡ 0 → ⊥ =
    λ e. refused (ap (λ (t : measure.Told). t.number) h.answers ∙ e) in (
      ap (λ (t : measure.Told). t.deviation) h.answers ∙ if_refused _ d (pos 0) no,
      h.leaves ∙ if_refused _ (measure.measured_on clock status m) clock no,
    )

pub close_refused : CloseRefused
close_refused clock offset_control rate_control r h refused =
    let no : first (close.closing_refusals clock offset_control rate_control) ≡ 0 → ⊥ =
    λ e. refused (ap (λ (t : close.Told). t.number) h.answers ∙ e) in (
      ap (λ (t : close.Told). t.report) h.answers ∙ if_refused _ (close.report_of clock offset_control rate_control) close.no_report no,
      h.leaves ∙ if_refused _ (close.closed_on clock) clock no,
    )
