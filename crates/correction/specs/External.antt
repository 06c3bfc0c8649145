-- The external term (01, "Clock").
use Rattle.std.specs.Prelude.{ℕ, zero, suc, Bool, not, ℤ, pos, negsuc, neg_ℤ, ◌+ℤ◌, ◌*ℤ◌, Result, Ok, Err, is_ok}
use Rattle.correction.specs.declared.external.Control.{Control}
use Rattle.correction.specs.declared.external.Control.TheVariants.{Less, Same, More}
use Rattle.correction.specs.declared.external.NotAControl.{NotAControl}

-- A control as a number.
abbrev pub sign_of : Control → ℤ
sign_of Less = neg_ℤ (pos 1)
sign_of Same = pos 0
sign_of More = pos 1

-- "external control not -1, 0 or 1" has no name; these three have.
abbrev pub control_named : ℤ → Result Control NotAControl
control_named (pos zero) = Ok Same
control_named (pos (suc zero)) = Ok More
control_named (pos (suc (suc n))) = Err (record {})
control_named (negsuc zero) = Ok Less
control_named (negsuc (suc n)) = Err (record {})

-- The number of a refusal that has just one cause.
abbrev pub refusal_number : NotAControl → ℕ
refusal_number refusal = 21

-- 21, of one of the two controls.
abbrev pub not_a_control : ℤ → Bool
not_a_control number = not (is_ok (control_named number))

-- "its control times its external unit".
abbrev pub external_term : ℤ → ℕ → ℤ
external_term control unit = control *ℤ pos unit

-- "is added to each reported term".
abbrev pub with_external : ℤ → ℤ → ℕ → ℤ
with_external term control unit = term +ℤ external_term control unit
