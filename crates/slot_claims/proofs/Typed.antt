-- A status that a rule gives is what its type says.
use mathlib.Core.Path.{refl}
use Rattle.slot_claims.specs.Typed.{TypedAgain}

pub typed_again : TypedAgain
typed_again = record { opened = λ p typed. typed; refused = refl; events = λ s e typed. typed }
