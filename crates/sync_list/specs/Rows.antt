-- A row: an ID, and what was measured of it on each channel.
use Rattle.std.specs.Prelude.{Bool, is_some, Option, None, Some, option_map}
use Rattle.base_types.specs.declared.channel.Channel.{Channel}
use Rattle.base_types.specs.declared.channel.Channel.TheVariants.{A, B}
use Rattle.base_types.specs.declared.id.Slot.{Slot}
use Rattle.correction.specs.Values.{Value}
use Rattle.correction.specs.declared.value.Deviations.{Deviations}
use Rattle.sync_list.specs.declared.row.Measurement.{Measurement}
use Rattle.sync_list.specs.declared.row.Row.{Row}

-- What was measured on one channel: a measurement, or none.
abbrev pub Measured : Type 0
Measured = Option Measurement

abbrev pub is_measured : Measured → Bool
is_measured measured = is_some measured

-- The deviation of a measurement, where there is one.
abbrev pub value_of : Measured → Value
value_of measured = option_map (λ (m : Measurement). m.deviation) measured

-- The row of an ID that is not measured.
abbrev pub blank : Slot → Row
blank id = record { id = id; on_a = None; on_b = None }

-- What was measured on a channel.
abbrev pub on : Channel → Row → Measured
on A row = row.on_a
on B row = row.on_b

-- The row with a measurement on a channel.
abbrev pub with_measured : Channel → Measurement → Row → Row
with_measured A m row = record { id = row.id; on_a = Some m; on_b = row.on_b }
with_measured B m row = record { id = row.id; on_a = row.on_a; on_b = Some m }

-- The deviations of the row's ID.
abbrev pub deviations_of : Row → Deviations
deviations_of row = record { on_a = value_of row.on_a; on_b = value_of row.on_b }
