-- Opening a cycle: what it answers, and the clock state that comes back (01, "Clock").
use Rattle.std.specs.Prelude.{ℕ, ◌-◌, ◌≡◌, Bool, not, ◌&&◌, cond, is_some, List, [], ◌∷◌, Some, Result}
use Rattle.refusal.specs.Answer.{number_in}
use Rattle.refusal.specs.Refusal.{Line, ◌when◌, first, if_accepted}
use Rattle.refusal.specs.declared.Answered.{Answered}
use Rattle.base_types.specs.declared.cycle.Cycle.{Cycle}
use Rattle.base_types.specs.Cycle.{cycle_too_high, is_odd}
use Rattle.sync_list.specs.declared.list.SyncList.{SyncList}
use Rattle.sync_list.specs.Lists.{empty}
use Rattle.clock.specs.declared.state.Clock.{Clock}
use Rattle.clock.specs.declared.opening.CycleRefusal.{CycleRefusal}
use Rattle.clock.specs.declared.opening.CycleRefusal.TheVariants.{NotSound, CycleTooHigh, OpenAlready}
use Rattle.clock.specs.State.{is_cycle}
use Rattle.clock.specs.Sound.{sound}

-- "Open cycle: 23, 11, 19."
abbrev pub opening_refusals : Clock → Cycle → List Line
opening_refusals clock cycle =
    23 when not (sound clock)
    ∷ 11 when cycle_too_high cycle.0
    ∷ 19 when is_some clock.opened
    ∷ []

-- The number of each refusal.
abbrev pub number_of : CycleRefusal → ℕ
number_of NotSound = 23
number_of CycleTooHigh = 11
number_of OpenAlready = 19

-- An answer is that the cycle is open, or why it is not.
abbrev pub CycleOpening : Type 0
CycleOpening = Result Unit CycleRefusal

-- The answer, and the clock state beside it.
abbrev pub CycleOpened : Type 0
CycleOpened = Answered Unit CycleRefusal Clock

-- The answer in 01's numbers: the refusal number, 0 for none.
abbrev pub told : CycleOpening → ℕ
told answer = number_in number_of answer

-- "Opening an odd cycle c empties .. the even list too unless the last closed cycle was c - 1": then it stays.
abbrev pub keeps_even : Clock → Cycle → Bool
keeps_even clock cycle = is_odd cycle && is_cycle (cycle.0 - 1) clock.last_closed

abbrev pub even_after : Clock → Cycle → SyncList
even_after clock cycle = cond (keeps_even clock cycle) clock.even empty

-- "Opening an even cycle empties both lists. Opening an odd cycle c empties the odd list".
abbrev pub opened_on : Clock → Cycle → Clock
opened_on clock cycle =
    record {
      settings = clock.settings;
      even = even_after clock cycle;
      odd = empty;
      opened = Some cycle;
      last_closed = clock.last_closed;
      rate = clock.rate;
    }

-- The answer's number is the refusal. The clock state has the cycle open, or, with a refusal, is the one handed in.
pub record OpenCycleSays (clock : Clock) (cycle : Cycle) (r : CycleOpened) : Type 0 where
  pub answers : told r.answer ≡ first (opening_refusals clock cycle)
  pub leaves : r.state ≡ if_accepted (first (opening_refusals clock cycle)) (opened_on clock cycle) clock
