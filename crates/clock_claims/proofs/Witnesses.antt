-- The witnesses' statements, from the statements of the entries.
use Prim.Native.Nat.{◌+◌, ◌*◌}
use mathlib.Core.Path.{◌≡◌, refl, sym, ap, subst, ◌∙◌}
use mathlib.Core.List.{List, [], ◌∷◌, ◌++◌, cons-ne-nil}
use native.Mathlib.Omega.{arith}
use lib.IntN.{ℤ, pos}
use Rattle.refusal.specs.Refusal.{first}
use Rattle.refusal.proofs.FirstLaws.{if_accepted_lem}
use Rattle.base_types.specs.declared.cycle.Cycle.{Cycle}
use Rattle.settings.specs.declared.Settings.{Settings}
use Rattle.slot.specs.declared.status.Status.{Status}
use Rattle.settings_claims.specs.Sheet.{TypedSettings}
use Rattle.base_types.specs.declared.microtick.Microtick.{Microtick}
use Rattle.clock.specs.declared.state.Clock.{Clock}
use Rattle.clock.specs.Loading.{Loaded}
use Rattle.clock.specs.Opening.{CycleOpened}
use Rattle.clock.specs.State.{fresh, no_clock}
use Rattle.clock.specs.Loading as loading
use Rattle.clock.specs.Loading.{LoadSays}
use Rattle.clock.specs.Opening as opening
use Rattle.clock.specs.Opening.{OpenCycleSays}
use Rattle.measuring.specs.Measuring.{FrameMeasured}
use Rattle.measuring.specs.Measuring as measuring
use Rattle.measuring.specs.Measuring.{MeasureSays}
use Rattle.closing.specs.Closing.{CycleClosed}
use Rattle.closing.specs.Closing as closing
use Rattle.closing.specs.Closing.{CloseSays}
use Rattle.clock_claims.specs.Typed.{TypedClock}
use Rattle.clock_claims.specs.History.{Call, close_cycle, Answer, closed, nothing, next, answer, past_of, answers_of, Past}
use Rattle.clock_claims.specs.Histories.{Makes, MakesAll, Holds}
use Rattle.clock_claims.specs.Witnesses.{LoadedWell, OpenedWell, MeasuredWell, ClosedWell, span, EveryCall, MadeBy, Played, ClosedAfter}
use Rattle.clock_claims.proofs.Answers.{load_in_order, open_in_order, measure_in_order, close_in_order, load_field, load_refused, open_refused, measure_refused, close_refused}
use Rattle.clock_claims.proofs.Histories.{histories, load_fresh}
use Rattle.clock_claims.proofs.Reports.{reported_over}
use Rattle.clock_claims.proofs.SoundCalls.{loaded_sound, opened_sound, measured_sound, closed_sound}

-- ---- one call

pub loaded_well : (settings : Settings) (r : Loaded) → TypedSettings settings → LoadSays settings r → LoadedWell settings r
loaded_well settings r typed h =
    record {
      in_order = load_in_order settings r h;
      field = load_field settings r typed h;
      accepted =
          λ e. (
            h.leaves ∙ if_accepted_lem _ (fresh settings) no_clock (sym (ap (λ (t : loading.Told). t.number) h.answers) ∙ e),
            load_fresh settings r h e,
            loaded_sound settings r h e,
          );
      refused = load_refused settings r h;
    }

pub opened_well : (c : Clock) (cycle : Cycle) (r : CycleOpened) → OpenCycleSays c cycle r → OpenedWell c cycle r
opened_well c cycle r h =
    record {
      in_order = open_in_order c cycle r h;
      accepted = λ e. (h.leaves ∙ if_accepted_lem _ (opening.opened_on c cycle) c (sym h.answers ∙ e), opened_sound c cycle r h e);
      refused = open_refused c cycle r h;
    }

pub measured_well : (c : Clock) (status : Status) (observed action_point : Microtick) (r : FrameMeasured) → TypedClock c
    → MeasureSays c status observed action_point r → MeasuredWell c status observed action_point r
measured_well c status observed action_point r typed h =
    let d = measuring.deviation_by c status observed action_point in
    let number : (measuring.told r.answer).number ≡ 0 → first (measuring.measure_refusals c status observed action_point) ≡ 0 =
    λ e. sym (ap (λ (t : measuring.Told). t.number) h.answers) ∙ e in
    record {
      in_order = measure_in_order c status observed action_point r h;
      accepted =
          λ e. (
            ap (λ (t : measuring.Told). t.deviation) h.answers ∙ if_accepted_lem _ d (pos 0) (number e),
            h.leaves ∙ if_accepted_lem _ (measuring.measured_on c status (measuring.measurement_by c status observed action_point)) c (number e),
            measured_sound c status observed action_point r typed h e,
          );
      refused = measure_refused c status observed action_point r h;
    }

pub closed_well : (c : Clock) (offset_control rate_control : ℤ) (r : CycleClosed) → TypedClock c → CloseSays c offset_control rate_control r
    → ClosedWell c offset_control rate_control r
closed_well c offset_control rate_control r typed h =
    let number : (closing.told r.answer).number ≡ 0 → first (closing.closing_refusals c offset_control rate_control) ≡ 0 =
    λ e. sym (ap (λ (t : closing.Told). t.number) h.answers) ∙ e in
    record {
      in_order = close_in_order c offset_control rate_control r h;
      accepted =
          λ e. (
            ap (λ (t : closing.Told). t.report) h.answers ∙ if_accepted_lem _ (closing.report_of c offset_control rate_control) closing.no_report (number e),
            h.leaves ∙ if_accepted_lem _ (closing.closed_on c) c (number e),
            closed_sound c offset_control rate_control r h e,
          );
      over = reported_over c offset_control rate_control r typed h;
      refused = close_refused c offset_control rate_control r h;
    }

-- ---- sequences

pub every_call : EveryCall
every_call kind first second k f s = (kind + 8 * first + 8 * span * second, omega arith, omega arith, omega arith, omega arith)

-- one call more, at the end
makes_more : (c : Clock) (calls : List Call) (answers : List Answer) (m : Clock) (call : Call) (a : Answer) (d : Clock)
    → MakesAll c calls answers m → Makes m call a d → MakesAll c (calls ++ (call ∷ [])) (answers ++ (a ∷ [])) d
makes_more c [] [] m call a d (ea, ed) one = (d, subst (λ (k : Clock). Makes k call a d) (sym ed) one, (refl, refl))
makes_more c [] (b ∷ answers) m call a d (ea, ed) one = absurd (cons-ne-nil b answers ea)
makes_more c (k ∷ calls) [] m call a d makes one = absurd makes
makes_more c (k ∷ calls) (b ∷ answers) m call a d (n, now, rest) one = (n, now, makes_more n calls answers m call a d rest one)

pub made_more : (calls : List Call) (m : Clock) (call : Call) (a : Answer) (d : Clock) → MadeBy calls m → Makes m call a d → MadeBy (calls ++ (call ∷ [])) d
made_more calls m call a d (answers, makes) one = (answers ++ (a ∷ []), makes_more no_clock calls answers m call a d makes one)

pub played_well : (calls : List Call) (c : Clock) → MadeBy calls c → Played calls c
played_well calls c (answers, makes) = record { made = (answers, makes); holds = (histories calls answers c makes).1 }

past_more : (past : Past) (calls : List Call) (call : Call) → past_of past (calls ++ (call ∷ [])) ≡ next (past_of past calls) call
unfolding past_of
past_more past [] call = refl
past_more past (k ∷ calls) call = past_more (next past k) calls call

-- the last of the answers
last_of : Answer → List Answer → Answer
last_of a [] = a
last_of a (b ∷ answers) = last_of b answers

last_more : (d a : Answer) (answers : List Answer) → last_of d (answers ++ (a ∷ [])) ≡ a
unfolding last_of
last_more d a [] = refl
last_more d a (b ∷ answers) = last_more b a answers

last_answer : (d : Answer) (past : Past) (calls : List Call) (call : Call) → last_of d (answers_of past (calls ++ (call ∷ []))) ≡ answer (past_of past calls) call
unfolding last_of answers_of past_of
last_answer d past [] call = refl
last_answer d past (k ∷ calls) call = last_answer (answer past k) (next past k) calls call

pub closed_after_well : (calls : List Call) (m : Clock) (offset_control rate_control : ℤ) (r : CycleClosed) → MadeBy calls m → CloseSays m offset_control rate_control r
    → ClosedAfter calls offset_control rate_control r
closed_after_well calls m offset_control rate_control r (answers, makes) h =
    let call = close_cycle offset_control rate_control in
    let a = closed (closing.told r.answer) in
    let all = makes_more no_clock calls answers m call a r.state makes (r, h, refl, refl) in
    let x = histories (calls ++ (call ∷ [])) (answers ++ (a ∷ [])) r.state all in
    record {
      answers = sym (last_more a a answers) ∙ ap (last_of a) x.0 ∙ last_answer a nothing calls call;
      holds = subst (λ (p : Past). Holds p r.state) (past_more nothing calls call) x.1;
    }
