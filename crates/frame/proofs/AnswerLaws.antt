-- The reader's refusals, by their cases: none has the number 0, and none has a number above 8.
use Prim.Native.Nat.{◌≤◌}
use native.Mathlib.Omega.{arith}
use Rattle.std.specs.Prelude.{Ok, Err}
use Rattle.frame.specs.declared.ReadRefusal.{ReadRefusal}
use Rattle.frame.specs.declared.ReadRefusal.TheVariants as refusal
use Rattle.frame.specs.Read.{Reading, number_of, told}

pub refusal_in_range : (e : ReadRefusal) → (1 ≤ number_of e) × (number_of e ≤ 8)
refusal_in_range refusal.NotAChannel = (omega arith, omega arith)
refusal_in_range refusal.TooShort = (omega arith, omega arith)
refusal_in_range refusal.BadSize = (omega arith, omega arith)
refusal_in_range (refusal.HeaderChecksumDiffers checksums) = (omega arith, omega arith)
refusal_in_range refusal.WordsNotSize = (omega arith, omega arith)
refusal_in_range refusal.IdZero = (omega arith, omega arith)
refusal_in_range refusal.StartupWithoutSync = (omega arith, omega arith)
refusal_in_range (refusal.FrameChecksumDiffers checksums) = (omega arith, omega arith)

pub number_at_most : (r : Reading) → (told r).number ≤ 8
number_at_most (Ok h) = omega arith
number_at_most (Err refused) = (refusal_in_range refused).1
