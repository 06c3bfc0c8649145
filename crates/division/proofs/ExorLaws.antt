-- Laws of exclusive or: of bits, then of strings.
use Prim.Native.Nat.{ℕ, suc}
use mathlib.Core.Path.{◌≡◌, refl, sym, ap, ap₂, ◌∙◌}
use mathlib.Core.Bool.{Bool, true, false, not, ◌&&◌, not-not}
use mathlib.Core.List.{List, [], ◌∷◌}
use native.Mathlib.Omega.{arith}
use lib.ListN.{length, replicate, length-replicate}
use Rattle.division.specs.Division.{◌⊕◌, exor, only_if}

-- ---- bits

pub xor_same : (a : Bool) → a ⊕ a ≡ false
xor_same false = refl
xor_same true = refl

pub xor_false : (a : Bool) → a ⊕ false ≡ a
xor_false false = refl
xor_false true = refl

not_xor : (a b : Bool) → not a ⊕ b ≡ not (a ⊕ b)
not_xor false b = refl
not_xor true b = sym (not-not b)

pub xor_assoc : (a b c : Bool) → (a ⊕ b) ⊕ c ≡ a ⊕ (b ⊕ c)
xor_assoc false b c = refl
xor_assoc true b c = not_xor b c

pub xor_comm : (a b : Bool) → a ⊕ b ≡ b ⊕ a
xor_comm false b = sym (xor_false b)
xor_comm true false = refl
xor_comm true true = refl

-- the two in the middle change places
pub xor_four : (a b c d : Bool) → (a ⊕ b) ⊕ (c ⊕ d) ≡ (a ⊕ c) ⊕ (b ⊕ d)
xor_four a b c d =
    xor_assoc a b (c ⊕ d)
    ∙ ap (λ (z : Bool). a ⊕ z) (sym (xor_assoc b c d) ∙ ap (λ (z : Bool). z ⊕ d) (xor_comm b c) ∙ xor_assoc c b d)
    ∙ sym (xor_assoc a c (b ⊕ d))

xor_twice : (a b : Bool) → a ⊕ (a ⊕ b) ≡ b
xor_twice a b = sym (xor_assoc a a b) ∙ ap (λ (z : Bool). z ⊕ b) (xor_same a)

pub xor_back : (a b : Bool) → a ⊕ (b ⊕ a) ≡ b
xor_back a b = ap (λ (z : Bool). a ⊕ z) (xor_comm b a) ∙ xor_twice a b

pub xor_cancel : (c a b : Bool) → c ⊕ a ≡ c ⊕ b → a ≡ b
xor_cancel false a b e = e
xor_cancel true a b e = sym (not-not a) ∙ ap not e ∙ not-not b

pub xor_cancel_right : (a b c : Bool) → a ⊕ c ≡ b ⊕ c → a ≡ b
xor_cancel_right a b c e = xor_cancel c a b (xor_comm c a ∙ e ∙ xor_comm b c)

-- only equal bits come to 0
pub xor_zero : (a b : Bool) → a ⊕ b ≡ false → a ≡ b
xor_zero a b e = xor_cancel b a b (xor_comm b a ∙ e ∙ sym (xor_same b))

and_xor : (a b c : Bool) → (a ⊕ b) && c ≡ (a && c) ⊕ (b && c)
and_xor false b c = refl
and_xor true false c = sym (xor_false c)
and_xor true true c = sym (xor_same c)

-- ---- strings

pub cons_inj : {a b : Bool} {x y : List Bool} → a ∷ x ≡ b ∷ y → (a ≡ b) × (x ≡ y)
cons_inj e = (cc, cc)

pub length-exor : (x y : List Bool) → length x ≡ length y → length (exor x y) ≡ length x
unfolding exor
length-exor [] y e = refl
length-exor (a ∷ x) [] e = absurd (omega arith)
length-exor (a ∷ x) (b ∷ y) e = ap suc (length-exor x y (omega arith))

pub length-only_if : (b : Bool) (x : List Bool) → length (only_if b x) ≡ length x
unfolding only_if
length-only_if b [] = refl
length-only_if b (a ∷ x) = ap suc (length-only_if b x)

pub exor_four : (x y u v : List Bool) → exor (exor x y) (exor u v) ≡ exor (exor x u) (exor y v)
unfolding exor
exor_four [] y u v = refl
exor_four (a ∷ x) [] [] v = refl
exor_four (a ∷ x) [] (c ∷ u) v = refl
exor_four (a ∷ x) (b ∷ y) [] v = refl
exor_four (a ∷ x) (b ∷ y) (c ∷ u) [] = refl
exor_four (a ∷ x) (b ∷ y) (c ∷ u) (d ∷ v) = ap₂ ◌∷◌ (xor_four a b c d) (exor_four x y u v)

-- a string that is taken in twice is not there
pub exor_twice : (x y : List Bool) → length x ≡ length y → exor x (exor x y) ≡ y
unfolding exor
exor_twice [] [] e = refl
exor_twice [] (b ∷ y) e = absurd (omega arith)
exor_twice (a ∷ x) [] e = absurd (omega arith)
exor_twice (a ∷ x) (b ∷ y) e = ap₂ ◌∷◌ (xor_twice a b) (exor_twice x y (omega arith))

pub exor_cancel : (z x y : List Bool) → length x ≡ length z → length y ≡ length z → exor z x ≡ exor z y → x ≡ y
unfolding exor
exor_cancel [] [] [] lx ly e = refl
exor_cancel [] [] (b ∷ y) lx ly e = absurd (omega arith)
exor_cancel [] (a ∷ x) y lx ly e = absurd (omega arith)
exor_cancel (c ∷ z) [] y lx ly e = absurd (omega arith)
exor_cancel (c ∷ z) (a ∷ x) [] lx ly e = absurd (omega arith)
exor_cancel (c ∷ z) (a ∷ x) (b ∷ y) lx ly e =
    ap₂ ◌∷◌ (xor_cancel c a b (cons_inj e).0) (exor_cancel z x y (omega arith) (omega arith) (cons_inj e).1)

pub only_if_true : (x : List Bool) → only_if true x ≡ x
unfolding only_if
only_if_true [] = refl
only_if_true (a ∷ x) = ap (◌∷◌ a) (only_if_true x)

pub only_if_xor : (a b : Bool) (x : List Bool) → only_if (a ⊕ b) x ≡ exor (only_if a x) (only_if b x)
unfolding exor only_if
only_if_xor a b [] = refl
only_if_xor a b (c ∷ x) = ap₂ ◌∷◌ (and_xor a b c) (only_if_xor a b x)

-- ---- zeros

unfoldable pub zeros : ℕ → List Bool
zeros n = replicate n false

pub length-zeros : (n : ℕ) → length (zeros n) ≡ n
unfolding zeros
length-zeros n = length-replicate n false

pub exor_zeros : (x : List Bool) → exor x (zeros (length x)) ≡ x
unfolding exor zeros
exor_zeros [] = refl
exor_zeros (a ∷ x) = ap₂ ◌∷◌ (xor_false a) (exor_zeros x)

pub zeros_exor : (x : List Bool) → exor (zeros (length x)) x ≡ x
unfolding exor zeros
zeros_exor [] = refl
zeros_exor (a ∷ x) = ap (◌∷◌ a) (zeros_exor x)

pub exor_self : (x : List Bool) → exor x x ≡ zeros (length x)
unfolding exor zeros
exor_self [] = refl
exor_self (a ∷ x) = ap₂ ◌∷◌ (xor_same a) (exor_self x)

pub only_if_false : (x : List Bool) → only_if false x ≡ zeros (length x)
unfolding only_if zeros
only_if_false [] = refl
only_if_false (a ∷ x) = ap (◌∷◌ false) (only_if_false x)
