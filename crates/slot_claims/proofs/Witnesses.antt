-- What each witness shows, from the statements of the entries that it calls.
use Prim.Native.Nat.{ℕ}
use mathlib.Core.Path.{◌≡◌, refl, sym, ap, ◌∙◌, subst}
use mathlib.Core.Bool.{false}
use mathlib.Core.List.{List, [], ◌∷◌}
use Rattle.numbers.proofs.Walk.{cases}
use Rattle.refusal.specs.Refusal.{first}
use Rattle.refusal.proofs.FirstLaws.{if_accepted_lem}
use Rattle.base_types.specs.declared.id.Slot.{Slot}
use Rattle.base_types.specs.declared.cycle.Cycle.{Cycle}
use Rattle.settings.specs.declared.Settings.{Settings}
use Rattle.slot.specs.declared.status.Status.{Status}
use Rattle.slot.specs.Judging.{place_by, fresh, no_status}
use Rattle.slot.specs.Opening.{opening_refusals, Told, told, Opened, OpenSays}
use Rattle.slot.specs.Sound.{sound}
use Rattle.slot_events.specs.Effect.{Event, after}
use Rattle.slot_events.specs.Events.{event_refusals, left_by, Judged, EventSays}
use Rattle.slot_events.proofs.EventLaws as laws
use Rattle.settings_claims.specs.Sheet.{TypedSettings, FieldTold}
use Rattle.slot_claims.specs.Histories.{Calls}
use Rattle.slot_claims.specs.Witnesses.{OpenedWell, JudgedWell, Played}
use Rattle.slot_claims.proofs.Answers.{open_in_order, open_refused, event_in_order, event_refused}
use Rattle.settings_claims.proofs.Sheet.{sheets}
use Rattle.slot_claims.proofs.SoundCalls.{no_status_unsound, opened_sound, event_sound}
use Rattle.slot_claims.proofs.Histories.{histories}

-- ---- one call

pub opened_well : (settings : Settings) (channel : ℕ) (slot : Slot) (cycle : Cycle) (r : Opened) → TypedSettings settings
    → OpenSays settings channel slot cycle r → OpenedWell settings channel slot cycle r
opened_well settings channel slot cycle r typed says =
    record {
      in_order = open_in_order settings channel slot cycle r says;
      field = subst (FieldTold settings) (sym (ap (λ (t : Told). t.field) says.answers)) (sheets settings typed);
      accepted =
          λ e.
          let none : first (opening_refusals settings channel slot cycle) ≡ 0 = sym (ap (λ (t : Told). t.number) says.answers) ∙ e in (
            says.leaves ∙ if_accepted_lem _ (fresh (place_by settings channel slot cycle)) no_status none,
            opened_sound settings channel slot cycle r says e,
          );
      refused = open_refused settings channel slot cycle r says;
    }

pub judged_well : (s : Status) (e : Event) (r : Judged) → EventSays s e r → JudgedWell s e r
judged_well s e r says =
    record {
      in_order = event_in_order s e r says;
      accepted = λ z. (says.leaves ∙ if_accepted_lem (first (event_refusals s)) (after s e) s (sym says.answers ∙ z), event_sound s e r says z);
      refused = event_refused s e r says;
    }

-- ---- many calls

-- the status that comes back from one event after the other
unfoldable pub left : Status → List Event → Status
left s [] = s
left s (e ∷ events) = left (left_by s e) events

-- there is a result that the statement allows
judged : (s : Status) (e : Event) → (r : Judged) × EventSays s e r
judged s e = cases (sound s) (λ good. (_, laws.event_recorded s e good)) (λ bad. (_, laws.event_refused s e bad))

left_calls : (s : Status) (events : List Event) → Calls s events (left s events)
unfolding left
left_calls s [] = refl
left_calls s (e ∷ events) =
    let j = judged s e in
    (j.0, j.1, subst (λ (x : Status). Calls x events (left (left_by s e) events)) (sym j.1.leaves) (left_calls (left_by s e) events))

-- an unsound status stays as it is
left_unsound : (s : Status) (events : List Event) → sound s ≡ false → left s events ≡ s
unfolding left
left_unsound s [] bad = refl
left_unsound s (e ∷ events) bad =
    let same : left_by s e ≡ s = sym (laws.event_refused s e bad).leaves in
    ap (λ (x : Status). left x events) same ∙ left_unsound s events bad

pub was_played : (settings : Settings) (channel : ℕ) (slot : Slot) (cycle : Cycle) (r : Opened) (events : List Event) (s : Status)
    → OpenSays settings channel slot cycle r → left r.state events ≡ s → Played settings channel slot cycle events s
was_played settings channel slot cycle r events s says end =
    let number : (told r.answer).number ≡ first (opening_refusals settings channel slot cycle) = ap (λ (t : Told). t.number) says.answers in
    record {
      opened =
          λ none.
          (histories settings channel slot cycle r says (number ∙ none) events s
          (subst (Calls r.state events) end (left_calls r.state events))
          ).1;
      refused =
          λ some.
          let none : r.state ≡ no_status = open_refused settings channel slot cycle r says (λ e. some (sym number ∙ e)) in
          sym end ∙ left_unsound r.state events (ap sound none ∙ no_status_unsound) ∙ none;
    }
