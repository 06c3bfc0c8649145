-- A slot that keeps a frame is measured as before: each event leaves it sound, where it was opened, and with the same frame.
use mathlib.Core.Path.{◌≡◌, refl, sym, ap, ◌∙◌, subst}
use mathlib.Core.Bool.{true}
use mathlib.Core.List.{List, [], ◌∷◌}
use mathlib.Core.Logic.Iff
use Rattle.numbers.proofs.Walk.{cases}
use Rattle.std.specs.Prelude.{Option, Some, None, is_some, unwrap_or}
use Rattle.std.specs.Option.{option_or}
use Rattle.header.specs.declared.Header.{Header}
use Rattle.header.specs.Layout.{no_header}
use Rattle.refusal.specs.Refusal.{first}
use Rattle.base_types.specs.declared.microtick.Microtick.{Microtick}
use Rattle.slot.specs.declared.status.Status.{Status}
use Rattle.slot.specs.Judging.{place_of}
use Rattle.slot.specs.Sound.{sound}
use Rattle.slot_events.specs.Effect.{Event, brings, after}
use Rattle.slot_events.specs.Events.{Judged, EventSays}
use Rattle.slot_events.proofs.EventLaws.{event_recorded, event_refused}
use Rattle.clock.specs.declared.state.Clock.{Clock}
use Rattle.measuring.specs.Measuring.{measure_refusals, frame_of, FrameMeasured, MeasureSays}
use Rattle.slot_claims.specs.Histories.{Calls}
use Rattle.slot_claims.proofs.SoundCalls.{after_sound}
use Rattle.kept_frame.specs.Measured.{MeasuredAs, MeasuredAsBefore}

-- the statement by all that it takes of a status
same_says : (s t : Status) (clock : Clock) (observed action_point : Microtick) (r : FrameMeasured)
    → first (measure_refusals clock s observed action_point) ≡ first (measure_refusals clock t observed action_point)
    → frame_of s ≡ frame_of t → s.channel ≡ t.channel → MeasureSays clock s observed action_point r → MeasureSays clock t observed action_point r
same_says s t clock observed action_point r number frame channel says =
    record { answers = says.answers ∙ rw (number, channel); leaves = says.leaves ∙ rw (number, frame, channel) }

-- one status is measured as another, and keeps the same
pub record Alike (s t : Status) : Type 0 where
  pub kept : t.kept ≡ s.kept
  pub measured : MeasuredAs s t

alike_itself : (s : Status) → Alike s s
alike_itself s = record { kept = refl; measured = λ clock observed action_point r. ((λ x. x), (λ x. x)) }

-- what is there stays
first_stays : (old new : Option Header) → is_some old ≡ true → option_or old new ≡ old
first_stays None new e = cc
first_stays (Some h) new e = refl

-- a sound one, after an event
module _ (s : Status) (e : Event) (good : sound s ≡ true) (there : is_some s.kept ≡ true) where
  stays : (after s e).kept ≡ s.kept
  stays = first_stays s.kept (brings (place_of s) e).kept there

  same_number : (clock : Clock) (observed action_point : Microtick)
      → first (measure_refusals clock (after s e) observed action_point) ≡ first (measure_refusals clock s observed action_point)
  same_number clock observed action_point = rw (after_sound s e good ∙ sym good, stays)

  same_frame : frame_of (after s e) ≡ frame_of s
  same_frame = ap (λ (k : Option Header). unwrap_or k no_header) stays

  after_alike : Alike s (after s e)
  after_alike =
      record {
        kept = stays;
        measured =
            λ clock observed action_point r.
            let number = same_number clock observed action_point in (
              same_says (after s e) s clock observed action_point r number same_frame refl,
              same_says s (after s e) clock observed action_point r (sym number) (sym same_frame) refl,
            );
      }

-- after the calls of one event, and of many
event_alike : (s : Status) (e : Event) (judged : Judged) → EventSays s e judged → is_some s.kept ≡ true → Alike s judged.state
event_alike s e judged says there =
    cases (sound s)
    (λ good.
    let recorded = event_recorded s e good in
    subst (Alike s) (recorded.leaves ∙ sym says.leaves) (after_alike s e good there))
    (λ bad.
    let refused = event_refused s e bad in
    subst (Alike s) (refused.leaves ∙ sym says.leaves) (alike_itself s))

calls_alike : (s : Status) (events : List Event) (t : Status) → Calls s events t → is_some s.kept ≡ true → Alike s t
calls_alike s [] t calls there = subst (Alike s) calls (alike_itself s)
calls_alike s (e ∷ events) t calls there =
    let one = event_alike s e calls.0 calls.1 there in
    let others = calls_alike calls.0.state events t calls.2 (ap is_some one.kept ∙ there) in
    record {
      kept = others.kept ∙ one.kept;
      measured = λ clock observed action_point r. Iff.trans (others.measured clock observed action_point r) (one.measured clock observed action_point r);
    }

pub measured_as_before : MeasuredAsBefore
measured_as_before s events t calls there = (calls_alike s events t calls there).measured
