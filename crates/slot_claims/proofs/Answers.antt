-- The claims about the answers, from the statements alone.
use Prim.Native.Nat.{ℕ}
use mathlib.Core.Path.{◌≡◌, refl, sym, ap, ap₂, ◌∙◌}
use mathlib.Core.Bool.{cond}
use lib.Dec.{eqb}
use Rattle.refusal.specs.Refusal.{numbered}
use Rattle.refusal.proofs.FirstLaws.{told_in_order, if_refused}
use Rattle.refusal.proofs.AnswerLaws.{one_answer}
use Rattle.std.specs.Prelude.{Result, Ok, Err}
use Rattle.slot.specs.declared.status.Status.{Status}
use Rattle.slot.specs.declared.opening.OpenRefusal.{OpenRefusal}
use Rattle.slot.specs.declared.opening.OpenRefusal.TheVariants.{SettingOutOfRange, NotAChannel, NotASlot, CycleTooHigh}
use Rattle.slot.specs.Judging.{place_by, fresh, no_status}
use Rattle.slot.specs.Opening.{Told, told}
use Rattle.slot_events.specs.Effect.{after}
use Rattle.slot_events.specs.Events as event
use Rattle.slot_events.specs.Events.{Recording}
use Rattle.slot_claims.specs.Answers.{OpenOne, EventOne, OpenInOrder, EventInOrder, OpenRefused, EventRefused}

-- ---- one result

-- a number names one case, so answers that say the same in 01's numbers are one answer
opening_by : Told → Result Unit OpenRefusal
opening_by t =
    cond (eqb t.number 0) (Ok tt)
    (cond (eqb t.number 17) (Err (SettingOutOfRange t.field))
    (cond (eqb t.number 1) (Err NotAChannel) (cond (eqb t.number 9) (Err NotASlot) (Err CycleTooHigh))))

opening_by_lem : (answer : Result Unit OpenRefusal) → opening_by (told answer) ≡ answer
unfolding opening_by
opening_by_lem (Ok done) = refl
opening_by_lem (Err (SettingOutOfRange field)) = refl
opening_by_lem (Err NotAChannel) = refl
opening_by_lem (Err NotASlot) = refl
opening_by_lem (Err CycleTooHigh) = refl

pub open_one : OpenOne
open_one settings channel slot cycle r s hr hs =
    ap₂ (λ (a : Result Unit OpenRefusal) (t : Status). record { answer = a; state = t })
    (one_answer told opening_by opening_by_lem r.answer s.answer hr.answers hs.answers) (hr.leaves ∙ sym hs.leaves)

recording_by : ℕ → Recording
recording_by n = cond (eqb n 0) (Ok tt) (Err (record {}))

recording_by_lem : (answer : Recording) → recording_by (event.told answer) ≡ answer
unfolding recording_by
recording_by_lem (Ok done) = refl
recording_by_lem (Err refusal) = refl

pub event_one : EventOne
event_one status e r s hr hs =
    ap₂ (λ (a : Recording) (t : Status). record { answer = a; state = t })
    (one_answer event.told recording_by recording_by_lem r.answer s.answer hr.answers hs.answers) (hr.leaves ∙ sym hs.leaves)

-- ---- in order

pub open_in_order : OpenInOrder
unfolding numbered
open_in_order settings channel slot cycle r h = told_in_order _ refl (ap (λ (t : Told). t.number) h.answers)

pub event_in_order : EventInOrder
unfolding numbered
event_in_order status e r h = told_in_order _ refl h.answers

-- ---- a refusal

pub open_refused : OpenRefused
open_refused settings channel slot cycle r h refused =
    h.leaves
    ∙ if_refused _ (fresh (place_by settings channel slot cycle)) no_status
    (λ e. refused (ap (λ (t : Told). t.number) h.answers ∙ e))

pub event_refused : EventRefused
event_refused status e r h refused = h.leaves ∙ if_refused _ (after status e) status (λ z. refused (h.answers ∙ z))
