-- Claims about the settings sheet: which sheets are refused, and which field is told ("17: a setting out of range; the first such field").
use Rattle.std.specs.Prelude.{ℕ, ◌-◌, ◌<◌, ◌≤◌, ◌≡◌, true, false, ◌↔◌, length, get_or, unwrap_or}
use Rattle.settings.specs.declared.Range.{Range}
use Rattle.settings.specs.declared.Mark.{Mark}
use Rattle.settings.specs.declared.Settings.{Settings}
use Rattle.settings.specs.Sheet.{field_count, field, ◌to◌, ranges, within, first_out_of_range}

-- What the type of the settings says: a sheet has eleven fields.
abbrev pub TypedSettings : Settings → Type 0
TypedSettings s = length s.fields ≡ field_count

-- The range of the field with this number; fields are counted from 1.
abbrev pub range_of : ℕ → Range
range_of number = get_or ranges (number - 1) (0 to 0)

-- A number of a field.
abbrev pub IsField : ℕ → Type 0
IsField number = (1 ≤ number) × (number ≤ field_count)

-- Every field is in its range.
abbrev pub AllInRange : Settings → Type 0
AllInRange s = (number : ℕ) → IsField number → within (range_of number) (field number s) ≡ true

-- This field is out of its range, and no field before it is.
pub record FirstOut (s : Settings) (number : ℕ) : Type 0 where
  pub out : within (range_of number) (field number s) ≡ false
  pub earlier : (before : ℕ) → IsField before → before < number → within (range_of before) (field before s) ≡ true

-- No field is told, which is 0, exactly where all are in range, and a field exactly where it is the first that is not.
pub record FieldTold (s : Settings) (told : ℕ) : Type 0 where
  pub none : (told ≡ 0) ↔ AllInRange s
  pub first : (number : ℕ) → IsField number → (told ≡ number) ↔ FirstOut s number

-- C-17: a mark is "any 32-bit number". The sheet with another one.
abbrev pub with_mark : Mark → Settings → Settings
with_mark mark s = record { fields = s.fields; sends_sync = s.sends_sync; mark = mark }

-- The same is told of it: no mark is a cause for 17.
abbrev pub MarkFree : Type 0
MarkFree = (mark : Mark) (s : Settings) → first_out_of_range (with_mark mark s) ≡ first_out_of_range s

-- What the rule tells of any sheet.
abbrev pub Sheets : Type 0
Sheets = (s : Settings) → TypedSettings s → FieldTold s (unwrap_or (first_out_of_range s) 0)
