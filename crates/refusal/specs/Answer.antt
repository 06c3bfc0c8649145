-- What an answer says as a number.
use Rattle.std.specs.Prelude.{ℕ, Result, Ok, Err}

module _ {T E : Type 0} where
  -- 0 where nothing is refused, and else the refusal's.
  abbrev pub number_in : (E → ℕ) → Result T E → ℕ
  number_in number_of (Ok value) = 0
  number_in number_of (Err refusal) = number_of refusal
