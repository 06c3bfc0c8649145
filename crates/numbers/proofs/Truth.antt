-- Tests that are joined, as equations.
use mathlib.Core.Path.{◌≡◌, refl, sym, ap, ◌∙◌}
use mathlib.Core.Bool.{Bool, true, false, false≢true, ◌&&◌, ◌||◌, or-true}
use mathlib.Core.Logic.{◌⊎◌, inl, inr, ◌↔◌}

pub both_true : (a b : Bool) → a && b ≡ true → (a ≡ true) × (b ≡ true)
both_true true b e = (refl, e)
both_true false b e = absurd (false≢true e)

pub true_both : (a b : Bool) → a ≡ true → b ≡ true → a && b ≡ true
true_both a b ea eb = ap (λ (x : Bool). x && b) ea ∙ eb

pub either_true : (a b : Bool) → a || b ≡ true → (a ≡ true) ⊎ (b ≡ true)
either_true true b e = inl refl
either_true false b e = inr e

pub true_left : (a b : Bool) → a ≡ true → a || b ≡ true
true_left a b e = ap (λ (x : Bool). x || b) e

pub true_right : (a b : Bool) → b ≡ true → a || b ≡ true
true_right a b e = ap (◌||◌ a) e ∙ or-true a

pub neither : (a b : Bool) → a || b ≡ false → (a ≡ false) × (b ≡ false)
neither false b e = (refl, e)
neither true b e = absurd (false≢true (sym e))

-- each follows from the other
pub same_true : (a b : Bool) → ((a ≡ true) ↔ (b ≡ true)) → a ≡ b
same_true true b e = sym (e.0 refl)
same_true false true e = e.1 refl
same_true false false e = refl
