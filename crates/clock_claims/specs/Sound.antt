-- Claims about soundness. 01: "A clock state is sound if its settings are in range, its cycles at most 63, each list holds at most field 4
-- different IDs, each 1 to 2047 and once per channel, with deviations in their range, and the stored rate is within field 6", and
-- "Every accepted call returns a sound state." 02, C-17: "all listed measurements carry the mark of the loaded settings; a state that breaks
-- this isn't sound". 01 speaks of a list of measurements; a list of ours has rows, and stands for one.
use Rattle.std.specs.Prelude.{None, Option, Some}
use Rattle.std.specs.Prelude.{ℕ, ◌≤◌, ◌≡◌, true, false, ◌↔◌, ℤ, pos, neg_ℤ, length}
use mathlib.Core.List.{List, [], ◌∷◌, Memᴰ}
use Rattle.std.specs.Int.Signed.{le_z}
use Rattle.base_types.specs.Cycle.{highest_cycle}
use Rattle.base_types.specs.Slot.{highest_id}
use Rattle.base_types.specs.declared.cycle.Cycle.{Cycle}
use Rattle.settings.specs.declared.Mark.{Mark}
use Rattle.settings.specs.declared.Settings.{Settings}
use Rattle.settings.specs.Sheet.{sync_id_limit, rate_limit}
use Rattle.slot.specs.declared.status.Status.{Status}
use Rattle.settings_claims.specs.Sheet.{AllInRange}
use Rattle.base_types.specs.declared.microtick.Microtick.{Microtick}
use Rattle.base_types.specs.Microtick.{lowest_deviation, highest_deviation}
use Rattle.sync_list.specs.declared.row.Row.{Row}
use Rattle.sync_list.specs.declared.list.SyncList.{SyncList}
use Rattle.sync_list.specs.Lists.{row_count, listed, id_of}
use Rattle.measurements.specs.Measurements.{Taken, stands_for, different_ids}
use Rattle.clock.specs.declared.state.Clock.{Clock}
use Rattle.clock.specs.Loading.{Loaded}
use Rattle.clock.specs.Opening.{CycleOpened}
use Rattle.clock.specs.State.{no_clock}
use Rattle.clock.specs.Sound.{sound}
use Rattle.clock.specs.Loading as loading
use Rattle.clock.specs.Loading.{LoadSays}
use Rattle.clock.specs.Opening as opening
use Rattle.clock.specs.Opening.{OpenCycleSays}
use Rattle.measuring.specs.Measuring.{FrameMeasured}
use Rattle.measuring.specs.Measuring as measuring
use Rattle.measuring.specs.Measuring.{MeasureSays}
use Rattle.closing.specs.Closing.{CycleClosed}
use Rattle.closing.specs.Closing as closing
use Rattle.closing.specs.Closing.{CloseSays}
use Rattle.clock_claims.specs.Typed.{TypedClock}

-- ---- a list of measurements

-- "each 1 to 2047".
abbrev pub IsId : ℕ → Type 0
IsId id = (1 ≤ id) × (id ≤ highest_id)

-- "with deviations in their range".
abbrev pub IsDeviation : ℤ → Type 0
IsDeviation d = (le_z lowest_deviation d ≡ true) × (le_z d highest_deviation ≡ true)

-- "once per channel": no later measurement has the ID and the channel of an earlier one.
abbrev pub OncePerChannel : List Taken → Type 0
OncePerChannel [] = Unit
OncePerChannel (m ∷ ms) = ((n : Taken) → Memᴰ n ms → n.id ≡ m.id → n.channel ≡ m.channel → ⊥) × OncePerChannel ms

-- What 01 and 02 ask of a list, by the limit of field 4 and the mark of the settings.
pub record GoodList (limit : ℕ) (mark : Mark) (ms : List Taken) : Type 0 where
  pub few : length (different_ids ms) ≤ limit
  pub ids : (m : Taken) → Memᴰ m ms → IsId m.id
  pub once : OncePerChannel ms
  pub ranged : (m : Taken) → Memᴰ m ms → IsDeviation m.measurement.deviation.0
  pub marked : (m : Taken) → Memᴰ m ms → m.measurement.mark ≡ mark

-- ---- the rows that stand for it

-- No later row has the ID of an earlier one.
abbrev pub DifferentRows : List Row → Type 0
DifferentRows [] = Unit
DifferentRows (row ∷ rows) = ((later : Row) → Memᴰ later rows → id_of later ≡ id_of row → ⊥) × DifferentRows rows

-- What the rows themselves ask, beyond 01: there are as many as are counted, each has a measurement, and no ID stands in two. Then the
-- number of rows is the number of different IDs.
pub record GoodRows (l : SyncList) : Type 0 where
  pub counted : l.count ≤ row_count
  pub measured : (row : Row) → Memᴰ row (listed l) → row.on_a ≡ None → row.on_b ≡ None → ⊥
  pub different : DifferentRows (listed l)

-- ---- a clock state

-- "its cycles at most 63", of one that is there.
abbrev pub CycleAtMostHighest : Option Cycle → Type 0
CycleAtMostHighest c = (cycle : Cycle) → c ≡ Some cycle → cycle.0 ≤ highest_cycle

-- 01's sentence in words, with 02's.
pub record SoundClock (c : Clock) : Type 0 where
  pub settings : AllInRange c.settings
  pub opened : CycleAtMostHighest c.opened
  pub last_closed : CycleAtMostHighest c.last_closed
  pub even : GoodList (sync_id_limit c.settings) c.settings.mark (stands_for (listed c.even))
  pub odd : GoodList (sync_id_limit c.settings) c.settings.mark (stands_for (listed c.odd))
  pub rate : (le_z (neg_ℤ (pos (rate_limit c.settings))) c.rate.0 ≡ true) × (le_z c.rate.0 (pos (rate_limit c.settings)) ≡ true)
  pub even_rows : GoodRows c.even
  pub odd_rows : GoodRows c.odd

-- The rule is the sentence: no stronger and no weaker.
abbrev pub SoundExactly : Type 0
SoundExactly = (c : Clock) → TypedClock c → (sound c ≡ true) ↔ SoundClock c

-- "all zeros with clear flags, which isn't sound".
abbrev pub NoClockUnsound : Type 0
NoClockUnsound = sound no_clock ≡ false

-- ---- "Every accepted call returns a sound state."

abbrev pub LoadedSound : Type 0
LoadedSound = (settings : Settings) (r : Loaded) → LoadSays settings r → (loading.told r.answer).number ≡ 0 → sound r.state ≡ true

abbrev pub OpenedSound : Type 0
OpenedSound =
    (clock : Clock) (cycle : Cycle) (r : CycleOpened) → OpenCycleSays clock cycle r → opening.told r.answer ≡ 0 → sound r.state ≡ true

abbrev pub MeasuredSound : Type 0
MeasuredSound =
    (clock : Clock) (status : Status) (observed action_point : Microtick) (r : FrameMeasured) → TypedClock clock
    → MeasureSays clock status observed action_point r → (measuring.told r.answer).number ≡ 0 → sound r.state ≡ true

abbrev pub ClosedSound : Type 0
ClosedSound =
    (clock : Clock) (offset_control rate_control : ℤ) (r : CycleClosed) → CloseSays clock offset_control rate_control r
    → (closing.told r.answer).number ≡ 0 → sound r.state ≡ true
