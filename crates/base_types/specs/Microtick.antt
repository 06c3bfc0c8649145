-- Times and deviations in microticks (01, "Clock"), and what the signed type holds.
use Rattle.std.specs.Prelude.{ℕ, ◌+◌, ◌-◌, ◌^◌, Bool, ◌&&◌, cond, ltb, ℤ, pos, neg_ℤ}
use Rattle.std.specs.Int.Signed.{le_z}

-- The highest time that is accepted (02, C-12): the counter may run over two cycles.
abbrev pub time_limit : ℕ
time_limit = 2560000

-- 14: "observed time or action point (both unsigned) above" the limit, of one of the two.
abbrev pub above_time_limit : ℕ → Bool
above_time_limit time = ltb time_limit time

-- The most that is taken off a time beside the action point: the highest decoding correction and the highest delay of the sheet.
abbrev pub most_taken_off : ℕ
most_taken_off = 255 + 255

-- Both ends of the "range": they follow from the highest time.
abbrev pub lowest_deviation : ℤ
lowest_deviation = neg_ℤ (pos (time_limit + most_taken_off))

abbrev pub highest_deviation : ℤ
highest_deviation = pos time_limit

abbrev pub is_deviation : ℤ → Bool
is_deviation d = le_z lowest_deviation d && le_z d highest_deviation

-- ---- what a signed number of 32 bits holds

abbrev pub lowest_held : ℤ
lowest_held = neg_ℤ (pos (2 ^ 31))

abbrev pub highest_held : ℤ
highest_held = pos (2 ^ 31 - 1)

-- A number as the signed type holds it: 0 where it does not fit. No sound state and accepted number makes one that does not.
abbrev pub held : ℤ → ℤ
held z = cond (le_z lowest_held z && le_z z highest_held) z (pos 0)

-- A number as it is: what the rules of the clock say of a number that fits.
abbrev pub whole : ℤ → ℤ
whole z = z
