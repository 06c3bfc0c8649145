-- Controls and their numbers.
use Prim.Native.Nat.{ℕ, zero, suc, ◌*◌, ◌≤◌}
use Rattle.std.specs.Prelude.{Result, Ok, Err, is_ok}
use mathlib.Core.Path.{◌≡◌, sym, ap}
use mathlib.Core.Bool.{true, false, not}
use native.Mathlib.Omega.{arith}
use lib.IntN.{ℤ, pos, negsuc}
use Rattle.numbers.proofs.Signed.{up, dn, up_neg, dn_neg}
use Rattle.correction.specs.declared.external.Control.{Control}
use Rattle.correction.specs.declared.external.Control.TheVariants.{Less, Same, More}
use Rattle.correction.specs.declared.external.NotAControl.{NotAControl}
use Rattle.correction.specs.External.{sign_of, control_named, not_a_control, external_term}

-- the external term is at most a unit, up or down
pub external_small : (k : Control) (unit : ℕ) → (up (external_term (sign_of k) unit) ≤ unit) × (dn (external_term (sign_of k) unit) ≤ unit)
external_small Less unit = (omega (arith, up_neg (pos (1 * unit))), omega (arith, dn_neg (pos (1 * unit))))
external_small Same unit = (omega arith, omega arith)
external_small More unit = (omega arith, omega arith)

-- ---- a number and the control that it names

abbrev named_or_same : Result Control NotAControl → Control
named_or_same (Ok k) = k
named_or_same (Err refusal) = Same

pub named_sign : (n : ℤ) (k : Control) → control_named n ≡ Ok k → sign_of k ≡ n
named_sign (pos zero) k e = ap (λ named. sign_of (named_or_same named)) (sym e)
named_sign (pos (suc zero)) k e = ap (λ named. sign_of (named_or_same named)) (sym e)
named_sign (pos (suc (suc n))) k e = cc
named_sign (negsuc zero) k e = ap (λ named. sign_of (named_or_same named)) (sym e)
named_sign (negsuc (suc n)) k e = cc

pub named_control : (n : ℤ) (k : Control) → control_named n ≡ Ok k → not_a_control n ≡ false
named_control n k e = ap (λ (named : Result Control NotAControl). not (is_ok named)) e
