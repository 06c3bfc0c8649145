-- What the statements of the two entries give.
use mathlib.Core.Path.{refl, subst}
use mathlib.Core.List.{[], ◌∷◌}
use Rattle.slot.specs.declared.status.Status.{Status}
use Rattle.slot_events.specs.Effect.{arrival}
use Rattle.measuring.specs.Measuring.{MeasureSays}
use Rattle.kept_frame.proofs.Measured.{measured_as_before}
use Rattle.kept_frame.proofs.measured_later.Goals as goal

pub returns : goal.returns
returns c =
    let a = c.args in
    let judged = c.arrived-judged.result in
    let says = c.arrived-judged.ensures in
    let r = c.measure.result in
    record {
      later = subst (λ (t : Status). MeasureSays a.state t a.observed a.action_point r) says.leaves c.measure.ensures;
      as_before =
          λ there.
          (measured_as_before a.status (arrival a.bytes.now ∷ []) judged.state (judged, says, refl) there a.state a.observed a.action_point r).0
          c.measure.ensures;
    }
