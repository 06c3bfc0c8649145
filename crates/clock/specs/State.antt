-- The state of a clock (01, "Clock").
use Rattle.std.specs.Prelude.{ℕ, Bool, false, cond, eqb, unwrap_or, Option, None, Some, pos}
use Rattle.base_types.specs.declared.cycle.Cycle.{Cycle}
use Rattle.base_types.specs.Cycle.{is_odd}
use Rattle.settings.specs.declared.Settings.{Settings}
use Rattle.settings.specs.Sheet.{no_settings}
use Rattle.sync_list.specs.declared.list.SyncList.{SyncList}
use Rattle.sync_list.specs.Lists.{empty}
use Rattle.clock.specs.declared.state.Clock.{Clock}

-- It is the cycle with this number.
abbrev pub is_cycle : ℕ → Option Cycle → Bool
is_cycle number None = false
is_cycle number (Some cycle) = eqb cycle.0 number

-- "a fresh clock state: both lists empty, no cycle open, none closed, stored rate 0".
abbrev pub fresh : Settings → Clock
fresh settings =
    record { settings = settings; even = empty; odd = empty; opened = None; last_closed = None; rate = record { 0 = pos 0 } }

-- "all zeros with clear flags": what comes back beside a refused load.
abbrev pub no_clock : Clock
no_clock = fresh no_settings

-- The open cycle; 0 where none is open.
abbrev pub current_cycle : Clock → Cycle
current_cycle clock = unwrap_or clock.opened (record { 0 = 0 })

-- The list of a cycle's measurements.
abbrev pub list_of : Cycle → Clock → SyncList
list_of cycle clock = cond (is_odd cycle) clock.odd clock.even

-- The clock with another list of a cycle's measurements.
abbrev pub with_list : Cycle → SyncList → Clock → Clock
with_list cycle list clock =
    record {
      settings = clock.settings;
      even = cond (is_odd cycle) clock.even list;
      odd = cond (is_odd cycle) list clock.odd;
      opened = clock.opened;
      last_closed = clock.last_closed;
      rate = clock.rate;
    }
