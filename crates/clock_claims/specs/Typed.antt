-- What the type of a clock state says: how long its arrays are. It is the one hypothesis that claims take.
use Rattle.std.specs.Prelude.{◌≡◌, length}
use Rattle.base_types.specs.declared.cycle.Cycle.{Cycle}
use Rattle.settings.specs.declared.Settings.{Settings}
use Rattle.slot.specs.declared.status.Status.{Status}
use Rattle.settings_claims.specs.Sheet.{TypedSettings}
use Rattle.sync_list.specs.declared.row.Measurement.{Measurement}
use Rattle.sync_list.specs.declared.list.SyncList.{SyncList}
use Rattle.sync_list.specs.Lists.{row_count}
use Rattle.clock.specs.declared.state.Clock.{Clock}
use Rattle.clock.specs.State.{fresh, no_clock}
use Rattle.clock.specs.Opening.{opened_on}
use Rattle.measuring.specs.Measuring.{measured_on}
use Rattle.closing.specs.Closing.{closed_on}

-- A list has all its rows.
abbrev pub TypedList : SyncList → Type 0
TypedList l = length l.rows ≡ row_count

pub record TypedClock (c : Clock) : Type 0 where
  pub settings : TypedSettings c.settings
  pub even : TypedList c.even
  pub odd : TypedList c.odd

-- It holds of every state that a rule gives.
pub record TypedAgain : Type 0 where
  pub loaded : (settings : Settings) → TypedSettings settings → TypedClock (fresh settings)
  pub refused : TypedClock no_clock
  pub opened : (c : Clock) (cycle : Cycle) → TypedClock c → TypedClock (opened_on c cycle)
  pub measured : (c : Clock) (status : Status) (m : Measurement) → TypedClock c → TypedClock (measured_on c status m)
  pub closed : (c : Clock) → TypedClock c → TypedClock (closed_on c)
