-- Numbers of 32 bits that are made 64 bits wide, and sums of them: each reads back as it is, and none is too large.
use Prim.Native.Nat.{ℕ, ◌<◌, ◌^◌}
use mathlib.Core.Bool.{Bool}
use mathlib.Core.Path.{◌≡◌, ap, ◌∙◌}
use native.Mathlib.Omega.{arith}
use lib.IntN.{ℤ, pos, neg_ℤ, ◌+ℤ◌, ◌-ℤ◌, +ℤ_idl}
use lib.Signed.{lt_z}
use mir.Syntax.{w32, w64}
use mir.Val.{SFits, to_z, of_z}
use mir.Facts.{to_z-of_z, to_z_pos, sfits_widen}
use Rattle.numbers.proofs.Signed.{signed, add_sum, sub_sums}

-- ---- one number

pub wide_unsigned : (n : ℕ) → n < 2 ^ 32 → to_z w64 n ≡ pos n
wide_unsigned n h = to_z_pos w64 (omega arith)

module _ {z : ℤ} (f : SFits w32 z) where
  pub wide_fits : SFits w64 z
  wide_fits = sfits_widen tt f

  pub wide_asked : SFits w64 (to_z w32 (of_z w32 z))
  wide_asked = rw (to_z-of_z f) wide_fits

  pub wide_signed : to_z w64 (of_z w64 (to_z w32 (of_z w32 z))) ≡ z
  wide_signed = ap (λ (x : ℤ). to_z w64 (of_z w64 x)) (to_z-of_z f) ∙ to_z-of_z wide_fits

-- ---- two

pub wide_sum : {a b : ℤ} → SFits w32 a → SFits w32 b → SFits w64 (a +ℤ b)
wide_sum {a} {b} f g = omega (signed, add_sum a b)

pub wide_difference : {a b : ℤ} → SFits w32 a → SFits w32 b → SFits w64 (a -ℤ b)
wide_difference {a} {b} f g = omega (signed, sub_sums a b)

pub wide_negated : (n : ℕ) → n < 2 ^ 32 → SFits w64 (pos 0 -ℤ pos n)
wide_negated n h = omega (signed, sub_sums (pos 0) (pos n))

-- ---- a number held against plus and minus a limit

module _ {x : ℤ} (f : SFits w32 x) (limit : ℕ) (h : limit < 2 ^ 32) {b : Bool} where
  pub wide_above : lt_z (to_z w64 limit) (to_z w64 (of_z w64 (to_z w32 (of_z w32 x)))) ≡ b → lt_z (pos limit) x ≡ b
  wide_above e = rw (wide_unsigned limit h, wide_signed f) at e

  pub wide_below : lt_z (to_z w64 (of_z w64 (to_z w32 (of_z w32 x)))) (to_z w64 (of_z w64 (pos 0 -ℤ to_z w64 limit))) ≡ b → lt_z x (neg_ℤ (pos limit)) ≡ b
  wide_below e = rw (wide_signed f, wide_unsigned limit h, to_z-of_z (wide_negated limit h), +ℤ_idl) at e
