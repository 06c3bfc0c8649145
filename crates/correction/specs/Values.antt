-- What an ID adds to a midpoint (01, "Clock").
use Rattle.std.specs.Prelude.{cond, Option, None, Some, ℤ, ◌+ℤ◌, ◌-ℤ◌}
use Rattle.std.specs.Int.Signed.{lt_z}
use Rattle.midpoint.specs.Midpoint.{half}
use Rattle.base_types.specs.Microtick.{whole}
use Rattle.base_types.specs.declared.microtick.SignedMicrotick.{SignedMicrotick}
use Rattle.correction.specs.declared.value.Deviations.{Deviations}

-- A value: a number of signed microticks, or none.
abbrev pub Value : Type 0
Value = Option SignedMicrotick

-- A value of this many signed microticks.
abbrev pub is : ℤ → Value
is z = Some (record { 0 = z })

-- The smaller of two, by sign; where one is absent, the other.
abbrev pub smaller : Value → Value → Value
smaller None other = other
smaller (Some x) None = Some x
smaller (Some x) (Some y) = cond (lt_z y.0 x.0) (Some y) (Some x)

-- "per ID the smaller of its deviations in this cycle, by sign (of -9 and 4, -9)".
abbrev pub offset_value : Deviations → Value
offset_value d = smaller d.on_a d.on_b

-- "per ID and channel with both measurements, odd minus even". `hold` says how the number is held: whole, or as its type holds it.
abbrev pub difference_by : (ℤ → ℤ) → Value → Value → Value
difference_by hold None even = None
difference_by hold (Some x) None = None
difference_by hold (Some x) (Some y) = is (hold (x.0 -ℤ y.0))

-- "two channels: half the sum".
abbrev pub joined : Value → Value → Value
joined None on_b = on_b
joined (Some x) None = Some x
joined (Some x) (Some y) = is (half (x.0 +ℤ y.0))

-- The rate value of an ID, by its deviations in the odd cycle and in the even one.
abbrev pub rate_value_by : (ℤ → ℤ) → Deviations → Deviations → Value
rate_value_by hold odd even = joined (difference_by hold odd.on_a even.on_a) (difference_by hold odd.on_b even.on_b)

abbrev pub rate_value : Deviations → Deviations → Value
rate_value = rate_value_by whole
