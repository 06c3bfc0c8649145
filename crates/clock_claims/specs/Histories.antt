-- Claims about whole sequences of calls, loads and refused calls among them. The customer's second condition asks that deviations and both
-- corrections are those of 01's rules, and that loading settings leaves no earlier measurement in use. So each claim is by the rule of a
-- history, which names no clock state.
use Rattle.std.specs.Prelude.{None}
use Rattle.std.specs.Prelude.{ℕ, ◌%◌, ◌≡◌, Bool, true, not, List, [], ◌∷◌, eqb, pos}
use Rattle.midpoint.specs.Order.{Permuted}
use Rattle.settings.specs.declared.Settings.{Settings}
use Rattle.sync_list.specs.Lists.{listed, empty}
use Rattle.measurements.specs.Measurements.{stands_for}
use Rattle.clock.specs.declared.state.Clock.{Clock}
use Rattle.clock.specs.Loading.{Loaded}
use Rattle.clock.specs.Opening.{CycleOpened}
use Rattle.clock.specs.State.{no_clock}
use Rattle.clock.specs.Sound.{sound}
use Rattle.clock.specs.Loading as loading
use Rattle.clock.specs.Loading.{LoadSays}
use Rattle.clock.specs.Opening as opening
use Rattle.clock.specs.Opening.{OpenCycleSays}
use Rattle.measuring.specs.Measuring.{FrameMeasured}
use Rattle.measuring.specs.Measuring as measuring
use Rattle.measuring.specs.Measuring.{MeasureSays}
use Rattle.closing.specs.Closing.{CycleClosed}
use Rattle.closing.specs.Closing as closing
use Rattle.closing.specs.Closing.{CloseSays}
use Rattle.clock_claims.specs.History.{Call, load, open_cycle, measure, close_cycle, Answer, loaded, opened, measured, closed, Since, Past, nothing, since, of_cycles, past_of, answers_of}

-- ---- the clock's calls

-- One call on a clock state, with any result that its statement allows: what it answers, and the state that comes back.
abbrev pub Makes : Clock → Call → Answer → Clock → Type 0
Makes c (load settings) a d = (r : Loaded) × LoadSays settings r × (a ≡ loaded (loading.told r.answer)) × (d ≡ r.state)
Makes c (open_cycle cycle) a d = (r : CycleOpened) × OpenCycleSays c cycle r × (a ≡ opened (opening.told r.answer)) × (d ≡ r.state)
Makes c (measure status observed action_point) a d =
    (r : FrameMeasured) × MeasureSays c status observed action_point r × (a ≡ measured (measuring.told r.answer)) × (d ≡ r.state)
Makes c (close_cycle offset_control rate_control) a d =
    (r : CycleClosed) × CloseSays c offset_control rate_control r × (a ≡ closed (closing.told r.answer)) × (d ≡ r.state)

-- A call on a clock state may leave this state.
abbrev pub Leaves : Clock → Call → Clock → Type 0
Leaves c call d = (a : Answer) × Makes c call a d

-- Calls one after the other, each on the state that the one before left.
abbrev pub MakesAll : Clock → List Call → List Answer → Clock → Type 0
MakesAll c [] answers d = (answers ≡ []) × (c ≡ d)
MakesAll c (call ∷ calls) [] d = ⊥
MakesAll c (call ∷ calls) (a ∷ answers) d = (m : Clock) × Makes c call a m × MakesAll m calls answers d

-- ---- the claims

abbrev pub is_even : ℕ → Bool
is_even n = eqb (n % 2) 0

-- A clock state holds what has happened: nothing but zeros where nothing is loaded, and otherwise the settings, the cycles, the stored rate,
-- and in its lists exactly the measurements in use, in some order. It is sound, so that each list counts its different IDs.
pub record HoldsSince (s : Since) (c : Clock) : Type 0 where
  pub good : sound c ≡ true
  pub settings : c.settings ≡ s.settings
  pub opened : c.opened ≡ s.opened
  pub last_closed : c.last_closed ≡ s.last_closed
  pub rate : c.rate.0 ≡ s.rate
  pub even : Permuted (stands_for (listed c.even)) (of_cycles is_even s.in_use)
  pub odd : Permuted (stands_for (listed c.odd)) (of_cycles (λ (n : ℕ). not (is_even n)) s.in_use)

abbrev pub Holds : Past → Clock → Type 0
Holds nothing c = c ≡ no_clock
Holds (since s) c = HoldsSince s c

-- Every call can be made on every state, and so every sequence of calls: none of these claims is about nothing.
abbrev pub Possible : Type 0
Possible = (c : Clock) (calls : List Call) → (answers : List Answer) × (d : Clock) × MakesAll c calls answers d

-- From the all-zero state on, after any sequence of calls: every answer and report is the history's, and the state holds what has happened.
abbrev pub Histories : Type 0
Histories =
    (calls : List Call) (answers : List Answer) (d : Clock) → MakesAll no_clock calls answers d
    → (answers ≡ answers_of nothing calls) × Holds (past_of nothing calls) d

-- "loading settings leaves no earlier measurement in use": whatever was called before, on whatever states, two sequences that agree from
-- their last load on give the same answers and reports from there, and the same state.
abbrev pub SinceLoad : Type 0
SinceLoad =
    (c c' m m' d d' : Clock) (before before' calls : List Call) (earlier earlier' answers answers' : List Answer) (settings : Settings)
    → MakesAll c before earlier m → MakesAll c' before' earlier' m'
    → MakesAll m (load settings ∷ calls) answers d → MakesAll m' (load settings ∷ calls) answers' d'
    → (answers ≡ answers') × (d ≡ d')

-- The state that an accepted load leaves, by the settings alone: "both lists empty, no cycle open, none closed, stored rate 0".
pub record JustLoaded (sheet : Settings) (c : Clock) : Type 0 where
  pub settings : c.settings ≡ sheet
  pub even : c.even ≡ empty
  pub odd : c.odd ≡ empty
  pub opened : c.opened ≡ None
  pub last_closed : c.last_closed ≡ None
  pub rate : c.rate.0 ≡ pos 0

abbrev pub LoadFresh : Type 0
LoadFresh = (settings : Settings) (r : Loaded) → LoadSays settings r → (loading.told r.answer).number ≡ 0 → JustLoaded settings r.state
