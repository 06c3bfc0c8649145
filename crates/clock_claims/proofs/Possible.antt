-- Every call can be made on every state: each statement has a result.
use Prim.Native.Nat.{ℕ}
use mathlib.Core.Path.{◌≡◌, refl, sym, ap, ◌∙◌}
use mathlib.Core.Bool.{true, false}
use Rattle.std.specs.Prelude.{Option, None, Some, is_some, unwrap_or}
use mathlib.Core.List.{List, [], ◌∷◌}
use lib.IntN.{ℤ, pos}
use Rattle.refusal.specs.Refusal.{Line, ◌when◌, first, if_accepted}
use Rattle.base_types.specs.declared.cycle.Cycle.{Cycle}
use Rattle.settings.specs.declared.Settings.{Settings}
use Rattle.settings.specs.Sheet.{first_out_of_range}
use Rattle.slot.specs.declared.status.Status.{Status}
use Rattle.base_types.specs.declared.microtick.Microtick.{Microtick}
use Rattle.clock.specs.declared.state.Clock.{Clock}
use Rattle.clock.specs.Loading.{Loaded}
use Rattle.clock.specs.Opening.{CycleOpened}
use Rattle.clock.specs.State.{fresh, no_clock}
use Rattle.clock.specs.Loading as load
use Rattle.clock.specs.Opening as open_rule
use Rattle.measuring.specs.Measuring.{FrameMeasured}
use Rattle.measuring.specs.Measuring as measure
use Rattle.closing.specs.Closing.{CycleClosed}
use Rattle.closing.specs.Closing as close
use Rattle.clock_claims.specs.History.{Call, loaded, opened, measured, closed}
use Rattle.clock_claims.specs.Histories.{Leaves, Possible}
use Rattle.clock_claims.specs.History as call
use Rattle.clock_claims.proofs.Answers.{loading_by, opening_by, measuring_by, closing_by}

-- what holds of 0 and of every number of a list holds of the first
abbrev EveryNumber : (ℕ → Type 0) → List Line → Type 0
EveryNumber P [] = Unit
EveryNumber P (n when c ∷ l) = P n × EveryNumber P l

first_case : (P : ℕ → Type 0) (l : List Line) → P 0 → EveryNumber P l → P (first l)
unfolding first
first_case P [] none all = none
first_case P (n when true ∷ l) none (here, rest) = here
first_case P (n when false ∷ l) none (here, rest) = first_case P l none rest

-- ---- one call

-- with 17 the field is told, and with no other number
said_of : Option ℕ → load.Told
said_of field = record { number = first (17 when is_some field ∷ []); field = unwrap_or field 0 }

said_again : (field : Option ℕ) → load.told (loading_by (said_of field)) ≡ said_of field
unfolding loading_by said_of first
said_again None = refl
said_again (Some field) = refl

loads : (settings : Settings) → (r : Loaded) × load.LoadSays settings r
unfolding said_of
loads settings = (
  record { answer = loading_by (said_of (first_out_of_range settings)); state = if_accepted (first (load.load_refusals settings)) (fresh settings) no_clock },
  record { answers = said_again (first_out_of_range settings); leaves = refl },
)

opens : (c : Clock) (cycle : Cycle) → (r : CycleOpened) × open_rule.OpenCycleSays c cycle r
unfolding opening_by
opens c cycle =
    let l = open_rule.opening_refusals c cycle in (
      record { answer = opening_by (first l); state = if_accepted (first l) (open_rule.opened_on c cycle) c },
      record { answers = first_case (λ (n : ℕ). open_rule.told (opening_by n) ≡ n) l refl (refl, (refl, (refl, tt))); leaves = refl },
    )

measures : (c : Clock) (status : Status) (observed action_point : Microtick) → (r : FrameMeasured) × measure.MeasureSays c status observed action_point r
unfolding measuring_by
measures c status observed action_point =
    let l = measure.measure_refusals c status observed action_point in
    let d = measure.deviation_by c status observed action_point in
    let m = measure.measurement_by c status observed action_point in
    let said : ℕ → measure.Told = λ (n : ℕ). record { number = n; deviation = if_accepted n d (pos 0) } in (
      record { answer = measuring_by (said (first l)); state = if_accepted (first l) (measure.measured_on c status m) c },
      record {
        answers = first_case (λ (n : ℕ). measure.told (measuring_by (said n)) ≡ said n) l refl (refl, (refl, (refl, (refl, (refl, (refl, (refl, tt)))))));
        leaves = refl;
      },
    )

closes : (c : Clock) (offset_control rate_control : ℤ) → (r : CycleClosed) × close.CloseSays c offset_control rate_control r
unfolding closing_by
closes c offset_control rate_control =
    let l = close.closing_refusals c offset_control rate_control in
    let said : ℕ → close.Told = λ (n : ℕ). record { number = n; report = if_accepted n (close.report_of c offset_control rate_control) close.no_report } in (
      record { answer = closing_by (said (first l)); state = if_accepted (first l) (close.closed_on c) c },
      record { answers = first_case (λ (n : ℕ). close.told (closing_by (said n)) ≡ said n) l refl (refl, (refl, (refl, tt))); leaves = refl },
    )

one_possible : (c : Clock) (k : Call) → (d : Clock) × Leaves c k d
one_possible c (call.load settings) = let x = loads settings in (x.0.state, (loaded (load.told x.0.answer), (x.0, x.1, refl, refl)))
one_possible c (call.open_cycle cycle) = let x = opens c cycle in (x.0.state, (opened (open_rule.told x.0.answer), (x.0, x.1, refl, refl)))
one_possible c (call.measure status observed action_point) =
    let x = measures c status observed action_point in
    (x.0.state, (measured (measure.told x.0.answer), (x.0, x.1, refl, refl)))
one_possible c (call.close_cycle offset_control rate_control) =
    let x = closes c offset_control rate_control in
    (x.0.state, (closed (close.told x.0.answer), (x.0, x.1, refl, refl)))

-- ---- any sequence

pub possible : Possible
possible c [] = ([], c, (refl, refl))
possible c (k ∷ calls) =
    let x = one_possible c k in
    let y = possible x.0 calls in
    (x.1.0 ∷ y.0, y.1, (x.0, x.1.1, y.2))
