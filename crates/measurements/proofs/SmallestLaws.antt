-- The smallest of some deviations does not depend on their order.
use mathlib.Core.Path.{◌≡◌, refl}
use mathlib.Core.Bool.{Bool, true, false, cond}
use mathlib.Core.List.{List, [], ◌∷◌}
use lib.IntN.{ℤ}
use lib.Signed.{lt_z}
use Rattle.numbers.proofs.Signed.{signed}
use Rattle.numbers.proofs.Walk.{cases}
use Rattle.midpoint.specs.Order.{Permuted}
use Rattle.correction.specs.Values.{Value, is, smaller}
use Rattle.measurements.specs.Measurements.{Taken}
use Rattle.measurements.specs.Terms.{deviations_if, smallest}
use Rattle.measurements.proofs.PermutedLaws.{rule_permuted, fold_permuted}
use Rattle.std.specs.Prelude.{None, Some}

-- ---- the smallest

smaller_comm : (x y : ℤ) → smaller (is x) (is y) ≡ smaller (is y) (is x)
smaller_comm x y =
    cases (lt_z y x)
    (λ a. let b : lt_z x y ≡ false = omega signed in rw (a, b))
    (λ a. cases (lt_z x y) (λ b. rw (a, b)) (λ b. let q : x ≡ y = omega signed in rw q))

-- two numbers can be compared with a value in either order
smaller_swap : (x y : ℤ) (v : Value) → smaller (is x) (smaller (is y) v) ≡ smaller (is y) (smaller (is x) v)
smaller_swap x y None = smaller_comm x y
smaller_swap x y (Some z) =
    cases (lt_z z.0 y)
    (λ a. cases (lt_z z.0 x)
    (λ b. rw (a, b, a))
    (λ b. let c : lt_z x y ≡ true = omega signed in rw (a, b, c)))
    (λ a. cases (lt_z z.0 x)
    (λ b. let c : lt_z y x ≡ true = omega signed in rw (a, b, c, a))
    (λ b. rw (a, b) (smaller_comm x y)))

pub smallest_permuted : {l m : List ℤ} → Permuted l m → smallest l ≡ smallest m
unfolding smallest
smallest_permuted = fold_permuted smallest (λ x v. smaller (is x) v) (λ x xs. refl) smaller_swap

-- ---- the deviations that are meant

pub deviations_permuted : (meant : Taken → Bool) {ms ns : List Taken} → Permuted ms ns → Permuted (deviations_if meant ms) (deviations_if meant ns)
unfolding deviations_if
deviations_permuted meant p =
    rule_permuted (deviations_if meant) (λ m. cond (meant m) (m.measurement.deviation.0 ∷ []) [])
    (λ m ms. cases (meant m) (λ e. rw e) (λ e. rw e)) p
