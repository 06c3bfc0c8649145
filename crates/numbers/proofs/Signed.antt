-- Signed numbers for `omega`, which reads ℕ alone. Each integer z is up z - dn z, with one of the two 0. An order or an equation of
-- integers is one of the sums of these parts, with no case on signs, so `omega` proves it from the laws below.
use mathlib.Core.Path.{◌≡◌, refl, sym, ap, subst}
use mathlib.Core.Bool.{Bool, true, false, not, cond}
use Prim.Native.Nat.{ℕ, zero, suc, ◌+◌, ◌-◌, ◌/◌, ◌<◌, ◌≤◌, ◌^◌, max}
use native.Mathlib.Omega.{arith}
use lib.Dec.{T, ltb, ltb→lt, nltb→le}
use lib.IntN.{ℤ, pos, negsuc, neg_ℤ, sub_ℕ, ◌+ℤ◌, ◌-ℤ◌}
use lib.Signed.{mag, lt_z, le_z, quot_z}
use mir.Syntax.{Width}
use mir.Val.{SFits, hbits}
use borrow.Author.Tests.{ltb-true, ltb-false, leb-true, leb-false, lt-ltb, le-ltb, le-leb, lt-leb}

abbrev pub up : ℤ → ℕ
up (pos n) = n
up (negsuc n) = 0

abbrev pub dn : ℤ → ℕ
dn (pos n) = 0
dn (negsuc n) = suc n

-- one of the two parts is 0, as a fact that `omega` reads
pub one_sided : (z : ℤ) → up z ≡ up z - dn z
one_sided (pos n) = omega arith
one_sided (negsuc n) = omega arith

-- ---- the sum, the negation, the difference
cond_ind : (c : Bool) (x y : ℤ) (P : ℤ → Type 0) → (T c → P x) → (T (not c) → P y) → P (cond c x y)
cond_ind true x y P f g = f tt
cond_ind false x y P f g = g tt

sub_sum : (a b : ℕ) → up (sub_ℕ a b) + b ≡ dn (sub_ℕ a b) + a
sub_sum a b = cond_ind (ltb a b) (negsuc (b - suc a)) (pos (a - b)) (λ z. up z + b ≡ dn z + a)
    (λ t. let h : a < b = ltb→lt a b t in omega arith) (λ t. let h : b ≤ a = nltb→le a b t in omega arith)

pub add_sum : (a b : ℤ) → up (a +ℤ b) + (dn a + dn b) ≡ dn (a +ℤ b) + (up a + up b)
add_sum (pos a) (pos b) = omega arith
add_sum (pos a) (negsuc b) = omega (arith, sub_sum a (suc b))
add_sum (negsuc a) (pos b) = omega (arith, sub_sum b (suc a))
add_sum (negsuc a) (negsuc b) = omega arith

pub up_neg : (a : ℤ) → up (neg_ℤ a) ≡ dn a
up_neg (pos zero) = refl
up_neg (pos (suc n)) = refl
up_neg (negsuc n) = refl

pub dn_neg : (a : ℤ) → dn (neg_ℤ a) ≡ up a
dn_neg (pos zero) = refl
dn_neg (pos (suc n)) = refl
dn_neg (negsuc n) = refl

pub sub_sums : (a b : ℤ) → up (a -ℤ b) + (dn a + up b) ≡ dn (a -ℤ b) + (up a + dn b)
sub_sums a b = omega (arith, add_sum a (neg_ℤ b), up_neg b, dn_neg b)

-- ---- half, toward zero
neg_pos : (n : ℕ) → (up (neg_ℤ (pos n)) ≡ 0) × (dn (neg_ℤ (pos n)) ≡ n)
neg_pos zero = (refl, refl)
neg_pos (suc n) = (refl, refl)

pub up_half : (z : ℤ) → up (quot_z z (pos 2)) ≡ up z / 2
up_half (pos n) = refl
up_half (negsuc n) = omega (arith, neg_pos (suc n / 2))

pub dn_half : (z : ℤ) → dn (quot_z z (pos 2)) ≡ dn z / 2
dn_half (pos n) = refl
dn_half (negsuc n) = omega (arith, neg_pos (suc n / 2))

-- ---- equality and order
pub eq_of : (a b : ℤ) → up a + dn b ≡ up b + dn a → a ≡ b
eq_of (pos a) (pos b) h = ap pos (omega arith)
eq_of (pos a) (negsuc b) h = absurd (omega arith)
eq_of (negsuc a) (pos b) h = absurd (omega arith)
eq_of (negsuc a) (negsuc b) h = ap negsuc (omega arith)

pub le_sums : (a b : ℤ) → le_z a b ≡ true → up a + dn b ≤ up b + dn a
le_sums (pos a) (pos b) e = omega (arith, leb-true a b e)
le_sums (pos a) (negsuc b) e = absurd (subst T (sym e) tt)
le_sums (negsuc a) (pos b) e = omega arith
le_sums (negsuc a) (negsuc b) e = omega (arith, leb-true b a e)

pub sums_le : (a b : ℤ) → up a + dn b ≤ up b + dn a → le_z a b ≡ true
sums_le (pos a) (pos b) h = le-leb a b (omega arith)
sums_le (pos a) (negsuc b) h = absurd (omega arith)
sums_le (negsuc a) (pos b) h = refl
sums_le (negsuc a) (negsuc b) h = le-leb b a (omega arith)

pub nle_sums : (a b : ℤ) → le_z a b ≡ false → up b + dn a < up a + dn b
nle_sums (pos a) (pos b) e = omega (arith, leb-false a b e)
nle_sums (pos a) (negsuc b) e = omega arith
nle_sums (negsuc a) (pos b) e = absurd (subst T e tt)
nle_sums (negsuc a) (negsuc b) e = omega (arith, leb-false b a e)

pub sums_nle : (a b : ℤ) → up b + dn a < up a + dn b → le_z a b ≡ false
sums_nle (pos a) (pos b) h = lt-leb a b (omega arith)
sums_nle (pos a) (negsuc b) h = refl
sums_nle (negsuc a) (pos b) h = absurd (omega arith)
sums_nle (negsuc a) (negsuc b) h = lt-leb b a (omega arith)

pub lt_sums : (a b : ℤ) → lt_z a b ≡ true → up a + dn b < up b + dn a
lt_sums (pos a) (pos b) e = omega (arith, ltb-true a b e)
lt_sums (pos a) (negsuc b) e = absurd (subst T (sym e) tt)
lt_sums (negsuc a) (pos b) e = omega arith
lt_sums (negsuc a) (negsuc b) e = omega (arith, ltb-true b a e)

pub sums_lt : (a b : ℤ) → up a + dn b < up b + dn a → lt_z a b ≡ true
sums_lt (pos a) (pos b) h = lt-ltb a b (omega arith)
sums_lt (pos a) (negsuc b) h = absurd (omega arith)
sums_lt (negsuc a) (pos b) h = refl
sums_lt (negsuc a) (negsuc b) h = lt-ltb b a (omega arith)

pub nlt_sums : (a b : ℤ) → lt_z a b ≡ false → up b + dn a ≤ up a + dn b
nlt_sums (pos a) (pos b) e = omega (arith, ltb-false a b e)
nlt_sums (pos a) (negsuc b) e = omega arith
nlt_sums (negsuc a) (pos b) e = absurd (subst T e tt)
nlt_sums (negsuc a) (negsuc b) e = omega (arith, ltb-false b a e)

pub sums_nlt : (a b : ℤ) → up b + dn a ≤ up a + dn b → lt_z a b ≡ false
sums_nlt (pos a) (pos b) h = le-ltb a b (omega arith)
sums_nlt (pos a) (negsuc b) h = refl
sums_nlt (negsuc a) (pos b) h = absurd (omega arith)
sums_nlt (negsuc a) (negsuc b) h = le-ltb b a (omega arith)

-- ---- the range of a width
pub mag_parts : (z : ℤ) (n : ℕ) → mag z < n → (up z < n) × (dn z ≤ n)
mag_parts (pos a) n h = (h, omega arith)
mag_parts (negsuc a) n h = (omega arith, h)

pub parts_mag : (z : ℤ) (n : ℕ) → up z < dn z + n → dn z ≤ up z + n → mag z < n
parts_mag (pos a) n h k = omega arith
parts_mag (negsuc a) n h k = omega arith

pub sfits_parts : {w : Width} {z : ℤ} → SFits w z → (up z < 2 ^ hbits w) × (dn z ≤ 2 ^ hbits w)
sfits_parts {w} {z} f = mag_parts z (2 ^ hbits w) f.sfits

pub sfits_by : {w : Width} {z : ℤ} → up z < dn z + 2 ^ hbits w → dn z ≤ up z + 2 ^ hbits w → SFits w z
sfits_by {w} {z} h k = record { sfits = parts_mag z (2 ^ hbits w) h k }

-- what a subtraction and a halving ask, from the parts of their operands
pub sub_fits : {w : Width} (a b : ℤ) → (up a + dn b < dn a + up b + 2 ^ hbits w) × (dn a + up b ≤ up a + dn b + 2 ^ hbits w) → SFits w (a -ℤ b)
sub_fits {w} a b h = sfits_by (omega (arith, sub_sums a b)) (omega (arith, sub_sums a b))

pub half_fits : {w : Width} {z : ℤ} → SFits w z → SFits w (quot_z z (pos 2))
half_fits {w} {z} f =
    let h = sfits_parts f in
    sfits_by (omega (arith, up_half z, dn_half z, one_sided z)) (omega (arith, up_half z, dn_half z, one_sided z))

-- ---- what `omega` reads and proves facts on ℤ by: tests, equations, and the range of a width

-- one statement, since `omega` applies to a hypothesis the first rule that fits, and no second
pub sfits_read : {w : Width} {z : ℤ} → SFits w z → max (suc (up z)) (dn z) ≤ 2 ^ hbits w
sfits_read {w} {z} f = let h = sfits_parts f in omega arith

pub sfits_turn : {w : Width} {z : ℤ} → max (suc (up z - dn z)) (dn z - up z) ≤ 2 ^ hbits w → SFits w z
sfits_turn {w} {z} h = sfits_by (omega arith) (omega arith)

pub ruleset signed = (arith, eq_of, le_sums, nle_sums, lt_sums, nlt_sums, sums_le, sums_nle, sums_lt, sums_nlt, sfits_read, sfits_turn)
