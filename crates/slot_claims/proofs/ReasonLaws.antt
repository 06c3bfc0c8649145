-- What the tests give, a reason and a frame: which of their cases it is.
use mathlib.Core.Path.{◌≡◌, refl}
use mathlib.Core.Bool.{true, false}
use Rattle.std.proofs.Common.{arith}
use mathlib.Core.Logic.{◌⊎◌, inl, inr}
use Rattle.std.specs.Prelude.{Option, Some, None, is_some, is_none}
use Rattle.header.specs.declared.Header.{Header}
use Rattle.slot.specs.declared.status.Miss.{Miss}
use Rattle.slot.specs.declared.status.Reason.{Reason}
use Rattle.slot.specs.declared.status.Reason.TheVariants.{Missed, SecondGoodFrame}
use Rattle.slot.specs.Judging.{is_second_good_frame}
use Rattle.slot_events.specs.Effect.{kept_by, reason_by}

-- ---- something, or nothing

module _ {A : Type 0} where
  pub some_there : (o : Option A) → is_some o ≡ true → (x : A) × (o ≡ Some x)
  some_there o e = grind arith

  pub there_some : (o : Option A) → (o ≡ None → ⊥) → is_some o ≡ true
  there_some o h = grind arith

  pub none_there : (o : Option A) → is_some o ≡ false → o ≡ None
  none_there o e = grind arith

-- ---- a reason

-- every reason is that of a missed test, or (f)
pub which_reason : (r : Reason) → ((miss : Miss) × (r ≡ Missed miss)) ⊎ (r ≡ SecondGoodFrame)
which_reason (Missed miss) = inl (miss, refl)
which_reason SecondGoodFrame = inr refl

pub second_there : (r : Option Reason) → is_second_good_frame r ≡ true → r ≡ Some SecondGoodFrame
second_there r e = grind arith

-- ---- what the tests give

pub all_passed : (missed : Option Miss) → is_none missed ≡ true → missed ≡ None
all_passed missed e = grind arith

-- a reason is given where its test is missed, and only there
pub missed_first : (missed : Option Miss) (miss : Miss) → reason_by missed ≡ Some (Missed miss) → missed ≡ Some miss
missed_first missed miss e = grind arith

-- a frame is kept where all tests are passed, and only there
pub kept_frame : (missed : Option Miss) (h k : Header) → kept_by missed h ≡ Some k → (missed ≡ None) × (h ≡ k)
kept_frame missed h k e = grind arith
