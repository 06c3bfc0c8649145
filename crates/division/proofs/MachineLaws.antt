-- What a program's shifts and tests come to in numbers.
use Prim.Native.Nat.{ℕ, zero, suc, ◌+◌, ◌-◌, ◌%◌, ◌^◌, ◌<◌}
use mathlib.Core.Path.{◌≡◌, refl, ap, ◌∙◌}
use native.Mathlib.Omega.{arith}
use lib.Dec.{eqb}
use lib.Bits.{bit_and, bit_xor, and_mask}
use lib.Pow.{mod-mod-pow}
use Rattle.division.specs.Bits.{odd}

-- `x % 2`
pub low_bit : (x : ℕ) → odd (x % 2) ≡ odd x
low_bit x = let e : x % 2 % 2 ≡ x % 2 = omega arith in ap (λ (y : ℕ). eqb y 1) e

-- two bits that are not the same
pub unlike : (a b : ℕ) → a < 2 → b < 2 → (a ≡ b → ⊥) → bit_xor a b ≡ 1
unlike zero zero ha hb h = absurd (h refl)
unlike zero (suc zero) ha hb h = refl
unlike zero (suc (suc b)) ha hb h = absurd (omega arith)
unlike (suc zero) zero ha hb h = refl
unlike (suc zero) (suc zero) ha hb h = absurd (h refl)
unlike (suc zero) (suc (suc b)) ha hb h = absurd (omega arith)
unlike (suc (suc a)) b ha hb h = absurd (omega arith)

-- of a word of `more + w` bits the low w are kept
pub cut : (more w n : ℕ) → bit_and (n % 2 ^ (more + w)) (2 ^ w - 1) ≡ n % 2 ^ w
cut more w n = and_mask (n % 2 ^ (more + w)) w ∙ mod-mod-pow n more w
