-- The settings sheet (01, "Settings sheet"): the fields by their names, the range of each, and the first field out of its range. The mark
-- of a sheet (02, C-17) is no field: it has no range.
use Rattle.std.specs.Prelude.{ℕ, suc, ◌-◌, Bool, false, not, ◌&&◌, cond, List, [], ◌∷◌, leb, get_or, replicate, Option, Some, None, is_some, Result, Ok, Err}
use Rattle.settings.specs.declared.Range.{Range}
use Rattle.settings.specs.declared.Mark.{Mark}
use Rattle.settings.specs.declared.Settings.{Settings}
use Rattle.settings.specs.declared.SettingOutOfRange.{SettingOutOfRange}
use Rattle.settings.specs.declared.Field.{Field}
use Rattle.settings.specs.declared.Field.TheVariants.{DecodingCorrection, DelayA, DelayB, SyncIdLimit, OffsetLimit, RateLimit, DriftDamping, ExternalOffsetUnit, ExternalRateUnit, StaticPayloadWords, StaticSlots}

-- ---- the fields

-- How many fields have a range.
abbrev pub field_count : ℕ
field_count = 11

-- The field with a number, which counts from 1.
abbrev pub field : ℕ → Settings → ℕ
field number s = get_or s.fields (number - 1) 0

-- 01's fields, 1 to 11.
abbrev pub decoding_correction : Settings → ℕ
decoding_correction = field 1

abbrev pub delay_a : Settings → ℕ
delay_a = field 2

abbrev pub delay_b : Settings → ℕ
delay_b = field 3

abbrev pub sync_id_limit : Settings → ℕ
sync_id_limit = field 4

abbrev pub offset_limit : Settings → ℕ
offset_limit = field 5

abbrev pub rate_limit : Settings → ℕ
rate_limit = field 6

abbrev pub drift_damping : Settings → ℕ
drift_damping = field 7

abbrev pub external_offset_unit : Settings → ℕ
external_offset_unit = field 8

abbrev pub external_rate_unit : Settings → ℕ
external_rate_unit = field 9

abbrev pub static_payload_words : Settings → ℕ
static_payload_words = field 10

abbrev pub static_slots : Settings → ℕ
static_slots = field 11

-- The value of the field with a name.
abbrev pub value_of : Field → Settings → ℕ
value_of DecodingCorrection = decoding_correction
value_of DelayA = delay_a
value_of DelayB = delay_b
value_of SyncIdLimit = sync_id_limit
value_of OffsetLimit = offset_limit
value_of RateLimit = rate_limit
value_of DriftDamping = drift_damping
value_of ExternalOffsetUnit = external_offset_unit
value_of ExternalRateUnit = external_rate_unit
value_of StaticPayloadWords = static_payload_words
value_of StaticSlots = static_slots

-- ---- their ranges

infix 70 ◌to◌
-- From a lowest value to a highest.
abbrev pub ◌to◌ : ℕ → ℕ → Range
lowest to highest = record { lowest = lowest; highest = highest }

-- "Ranges stand in one fixed table of lowest and highest values", field 1 first.
abbrev pub ranges : List Range
ranges =
    0 to 255  -- decoding correction
    ∷ 0 to 255  -- delay A
    ∷ 0 to 255  -- delay B
    ∷ 2 to 15  -- sync ID limit
    ∷ 0 to 20000  -- offset limit
    ∷ 0 to 4000  -- rate limit
    ∷ 0 to 20  -- drift damping
    ∷ 0 to 31  -- external offset unit
    ∷ 0 to 31  -- external rate unit
    ∷ 0 to 127  -- static payload words
    ∷ 2 to 1023  -- static slots
    ∷ []

-- Both the lowest and the highest value belong to a range.
abbrev pub within : Range → ℕ → Bool
within range value = leb range.lowest value && leb value range.highest

-- A range with a value out of it.
abbrev pub misfit : Range × ℕ → Bool
misfit p = not (within p.0 p.1)

-- The number of the first value out of its range, where the first has the number given.
unfoldable pub first_outside : ℕ → List Range → List ℕ → Option ℕ
first_outside number [] values = None
first_outside number (range ∷ rest) [] = None
first_outside number (range ∷ rest) (value ∷ values) = cond (within range value) (first_outside (suc number) rest values) (Some number)

-- "the first such field", which 17 returns: fields are counted from 1.
abbrev pub first_out_of_range : Settings → Option ℕ
first_out_of_range s = first_outside 1 ranges s.fields

-- 17: "a setting out of range".
abbrev pub out_of_range : Settings → Bool
out_of_range s = is_some (first_out_of_range s)

-- The number of a refusal that has just one cause.
abbrev pub refusal_number : SettingOutOfRange → ℕ
refusal_number refusal = 17

-- What an entry is told of a sheet: nothing, or the first field out of its range.
abbrev pub refused_where : Option ℕ → Result Unit SettingOutOfRange
refused_where None = Ok tt
refused_where (Some number) = Err (record { 0 = number })

abbrev pub checked : Settings → Result Unit SettingOutOfRange
checked s = refused_where (first_out_of_range s)

-- Mark 0 (C-17: "any 32-bit number"): what stands beside a refusal.
abbrev pub no_mark : Mark
no_mark = record { 0 = 0 }

-- All zeros, the yes or no "no": what comes back beside a refusal.
abbrev pub no_settings : Settings
no_settings = record { fields = replicate field_count 0; sends_sync = false; mark = no_mark }
