-- Claims about the marks of settings (02, C-17): "It must hold in every reachable state that all listed measurements carry the mark of the
-- loaded settings", "each closing report" carries it, and "Two loads with the same mark are still two loads: the second empties the lists
-- like any other". Which mark is loaded is told by the calls alone.
use Rattle.std.specs.Prelude.{◌≡◌, false, cond, ◌↔◌, ℤ}
use mathlib.Core.List.{List, [], ◌∷◌, ◌++◌, Memᴰ}
use Rattle.base_types.specs.declared.microtick.Microtick.{Microtick}
use Rattle.settings.specs.declared.Mark.{Mark}
use Rattle.settings.specs.declared.Settings.{Settings}
use Rattle.settings.specs.Sheet.{out_of_range, no_mark}
use Rattle.settings_claims.specs.Sheet.{with_mark}
use Rattle.slot.specs.declared.status.Status.{Status}
use Rattle.sync_list.specs.Lists.{listed}
use Rattle.measurements.specs.Measurements.{Taken, stands_for}
use Rattle.clock.specs.declared.state.Clock.{Clock}
use Rattle.clock.specs.State.{no_clock}
use Rattle.measuring.specs.Measuring.{FrameMeasured}
use Rattle.measuring.specs.Measuring.{MeasureSays}
use Rattle.closing.specs.Closing.{CycleClosed}
use Rattle.closing.specs.Closing as closing
use Rattle.closing.specs.Closing.{CloseSays}
use Rattle.clock_claims.specs.History.{Call, load, open_cycle, measure, close_cycle, Answer, closed, nothing, answer, past_of}
use Rattle.clock_claims.specs.Histories.{Makes, MakesAll}

-- ---- which mark is loaded

-- That of the last load. Before the first one, and after one that is refused, nothing is loaded: then it is 0.
unfoldable pub loaded_mark : Mark → List Call → Mark
loaded_mark mark [] = mark
loaded_mark mark (load settings ∷ calls) = loaded_mark (cond (out_of_range settings) no_mark settings.mark) calls
loaded_mark mark (open_cycle cycle ∷ calls) = loaded_mark mark calls
loaded_mark mark (measure status observed action_point ∷ calls) = loaded_mark mark calls
loaded_mark mark (close_cycle offset_control rate_control ∷ calls) = loaded_mark mark calls

abbrev pub loaded_by : List Call → Mark
loaded_by calls = loaded_mark no_mark calls

-- No load is among the calls.
abbrev pub NoLoad : List Call → Type 0
NoLoad [] = Unit
NoLoad (load settings ∷ calls) = ⊥
NoLoad (open_cycle cycle ∷ calls) = NoLoad calls
NoLoad (measure status observed action_point ∷ calls) = NoLoad calls
NoLoad (close_cycle offset_control rate_control ∷ calls) = NoLoad calls

-- The same in words: a load behind which there is no other decides it, whatever came before.
abbrev pub LastDecides : Type 0
LastDecides =
    (before later : List Call) (settings : Settings) → NoLoad later
    → loaded_by (before ++ (load settings ∷ later)) ≡ cond (out_of_range settings) no_mark settings.mark

-- ---- what is listed

-- The settings of a state, and every measurement in both its lists, carry the mark that some calls have loaded.
pub record Marked (calls : List Call) (c : Clock) : Type 0 where
  pub settings : c.settings.mark ≡ loaded_by calls
  pub even : (m : Taken) → Memᴰ m (stands_for (listed c.even)) → m.measurement.mark ≡ loaded_by calls
  pub odd : (m : Taken) → Memᴰ m (stands_for (listed c.odd)) → m.measurement.mark ≡ loaded_by calls

-- So it is in every state that calls lead to.
abbrev pub ListedMarked : Type 0
ListedMarked = (calls : List Call) (answers : List Answer) (d : Clock) → MakesAll no_clock calls answers d → Marked calls d

-- ---- what is reported

-- A report carries the mark that the calls before it have loaded; beside a refusal it is 0. In words: where a cycle is closed, the last load
-- was accepted, and the report carries its mark.
pub record Carries (calls : List Call) (r : CycleClosed) : Type 0 where
  pub accepted : (closing.told r.answer).number ≡ 0 → (closing.told r.answer).report.mark ≡ loaded_by calls
  pub refused : ((closing.told r.answer).number ≡ 0 → ⊥) → (closing.told r.answer).report.mark ≡ no_mark
  pub last : (before later : List Call) (settings : Settings) → calls ≡ before ++ (load settings ∷ later) → NoLoad later
      → (closing.told r.answer).number ≡ 0 → (out_of_range settings ≡ false) × ((closing.told r.answer).report.mark ≡ settings.mark)

abbrev pub ReportMarked : Type 0
ReportMarked =
    (calls : List Call) (answers : List Answer) (d : Clock) (offset_control rate_control : ℤ) (r : CycleClosed) → MakesAll no_clock calls answers d
    → CloseSays d offset_control rate_control r → Carries calls r

-- ---- two loads

-- Whatever was measured between two loads with one mark: the second, where it is accepted, leaves both lists empty.
abbrev pub SecondEmpties : Type 0
SecondEmpties =
    (c m d : Clock) (sheet again : Settings) (between : List Call) (earlier : List Answer) (a : Answer) → sheet.mark ≡ again.mark
    → out_of_range again ≡ false → MakesAll c (load sheet ∷ between) earlier m → Makes m (load again) a d
    → (listed d.even ≡ []) × (listed d.odd ≡ [])

-- And from it on all answers, reports and states are those of a clock on which it is the first call of all.
abbrev pub TwoLoads : Type 0
TwoLoads =
    (c m d d' : Clock) (sheet again : Settings) (between later : List Call) (earlier answers answers' : List Answer) → sheet.mark ≡ again.mark
    → MakesAll c (load sheet ∷ between) earlier m → MakesAll m (load again ∷ later) answers d → MakesAll no_clock (load again ∷ later) answers' d'
    → (answers ≡ answers') × (d ≡ d')

-- So closing tells of what was called since a load, wherever in the sequence it stands, and of nothing before it.
abbrev pub SinceItsLoads : List Call → ℤ → ℤ → CycleClosed → Type 0
SinceItsLoads calls offset_control rate_control r =
    (before later : List Call) (settings : Settings) → calls ≡ before ++ (load settings ∷ later)
    → closed (closing.told r.answer) ≡ answer (past_of nothing (load settings ∷ later)) (close_cycle offset_control rate_control)

-- `reported`.
pub record ReportedWell (calls : List Call) (offset_control rate_control : ℤ) (r : CycleClosed) : Type 0 where
  pub carries : Carries calls r
  pub since : SinceItsLoads calls offset_control rate_control r

-- ---- the mark of a status

-- A status as it would be, had its slot been opened under another mark.
abbrev pub under_mark : Mark → Status → Status
under_mark mark status =
    record {
      settings = with_mark mark status.settings;
      channel = status.channel;
      slot = status.slot;
      cycle = status.cycle;
      syntax_error = status.syntax_error;
      content_error = status.content_error;
      boundary_violation = status.boundary_violation;
      conflict = status.conflict;
      valid = status.valid;
      own_sending = status.own_sending;
      reason = status.reason;
      kept = status.kept;
      checksums = status.checksums;
    }

-- It plays no part: what the statement of measuring allows is the same, in number, deviation and whole state.
abbrev pub StatusMarkFree : Type 0
StatusMarkFree =
    (mark : Mark) (clock : Clock) (status : Status) (observed action_point : Microtick) (r : FrameMeasured)
    → MeasureSays clock (under_mark mark status) observed action_point r ↔ MeasureSays clock status observed action_point r
