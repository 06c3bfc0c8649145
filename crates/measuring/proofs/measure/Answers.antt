-- `measure` meets its contract: where nothing is refused, the deviation is held whole, and the state has the measurement.
use Prim.Native.Nat.{ℕ}
use mathlib.Core.Path.{◌≡◌, sym, ap, ◌∙◌}
use lib.IntN.{pos}
use Rattle.refusal.specs.Refusal.{if_accepted}
use Rattle.sync_list.specs.declared.list.SyncList.{SyncList}
use Rattle.sync_list.specs.Lists.{recorded}
use Rattle.clock.specs.declared.state.Clock.{Clock}
use Rattle.clock.specs.State.{list_of, with_list}
use Rattle.clock.proofs.SoundLaws.{clauses}
use Rattle.measuring.specs.Measuring.{Told, deviation_by, measurement_by, measured_on}
use Rattle.measuring.proofs.DeviationLaws.{measurement_held}
use Rattle.measuring.proofs.RecordedLaws.{recorded_by}
use Rattle.measuring.proofs.measure.Goals as goal

pub returns-in-Ok : goal.returns-in-Ok
returns-in-Ok c =
    let a = c.args in
    let found = c.in-Ok.ensures in
    let m : c.measurement_by-measurement.result ≡ measurement_by a.clock a.status a.observed a.action_point =
    c.measurement_by-measurement.ensures
    ∙ measurement_held a.clock a.status a.observed a.action_point (clauses a.clock found.0).settings found.1 found.2 in
    let next : c.with-next.result
    ≡ recorded c.in-Ok.frame.id a.status.channel c.measurement_by-measurement.result (list_of c.current_cycle-cycle.result a.clock) =
    rw c.list_of-list.ensures at c.with-next.ensures in
    let state : c.with_list.result ≡ measured_on a.clock a.status (measurement_by a.clock a.status a.observed a.action_point) =
    c.with_list.ensures
    ∙ ap (λ (l : SyncList). with_list c.current_cycle-cycle.result l a.clock) next
    ∙ recorded_by a.clock a.status (sym found.4) (sym c.current_cycle-cycle.ensures) c.measurement_by-measurement.result
    ∙ ap (measured_on a.clock a.status) m in
    let tell : ℕ → Told = λ (n : ℕ). record { number = n; deviation = if_accepted n (deviation_by a.clock a.status a.observed a.action_point) (pos 0) } in
    let leave : ℕ → Clock =
    λ (n : ℕ). if_accepted n (measured_on a.clock a.status (measurement_by a.clock a.status a.observed a.action_point)) a.clock in
    rw c.accepted.ensures
    (record {
      answers = (λ i. record { number = 0; deviation = (m i).deviation.0 }) ∙ ap tell (sym found.3);
      leaves = state ∙ ap leave (sym found.3);
    })
