-- Neither term depends on the order in which the measurements were taken.
use mathlib.Core.Path.{◌≡◌, refl, ap, ◌∙◌}
use mathlib.Core.Bool.{Bool, cond, ◌&&◌}
use mathlib.Core.List.Permᴰ
use mathlib.Core.List.{List, [], ◌∷◌, ◌++◌, map}
use Prim.Native.Nat.{ℕ}
use lib.Dec.{eqb}
use lib.IntN.{ℤ, pos, ◌+ℤ◌}
use Rattle.midpoint.specs.Midpoint.{midpoint}
use Rattle.midpoint.specs.Order.{Permuted}
use Rattle.midpoint.proofs.OrderLaws.{midpoint_permuted}
use Rattle.base_types.specs.declared.channel.Channel.{Channel}
use Rattle.base_types.specs.declared.channel.Channel.TheVariants.{A, B}
use Rattle.base_types.specs.Microtick.{whole}
use Rattle.correction.specs.Values.{Value, rate_value}
use Rattle.correction.specs.Terms.{damped, limited, offset_term, rate_term, with_own}
use Rattle.list_values.specs.Values.{before, present}
use Rattle.measurements.specs.Measurements.{Taken, different_ids, same_channel}
use Rattle.measurements.specs.Terms.{deviation_on, deviations_on, offset_of, offset_values_of, rate_of, rate_values_of}
use Rattle.measurements.proofs.PermutedLaws.{rule_permuted, map_permuted}
use Rattle.measurements.proofs.DifferentLaws.{different_permuted}
use Rattle.measurements.proofs.SmallestLaws.{smallest_permuted, deviations_permuted}
use Rattle.std.specs.Prelude.{None, Some}

-- ---- the IDs and the values

pub ids_permuted : {ms ns : List Taken} → Permuted ms ns → Permuted (different_ids ms) (different_ids ns)
ids_permuted p = different_permuted (map_permuted (λ (m : Taken). m.id) p)

present_permuted : {l m : List Value} → Permuted l m → Permuted (present l) (present m)
unfolding present
present_permuted p = rule_permuted present (λ v. before v []) (λ v vs. front v (present vs)) p
  where
    front : (v : Value) (l : List ℤ) → before v l ≡ before v [] ++ l
    front None l = refl
    front (Some x) l = refl

values_permuted : (value value' : ℕ → Value) → ((id : ℕ) → value id ≡ value' id) → {ids ids' : List ℕ} → Permuted ids ids'
    → Permuted (present (map value ids)) (present (map value' ids'))
values_permuted value value' same {ids} p =
    let e : map value ids ≡ map value' ids = λ i. map (λ id. same id i) ids in
    rw e (present_permuted (map_permuted value' p))

-- ---- the terms

-- a rule over lists that gives the same for lists with something in them, in whatever order, gives the same for all lists
filled_same : {C : Type 0} (rule : List ℤ → C)
    → ((x y : ℤ) (xs ys : List ℤ) → Permuted (x ∷ xs) (y ∷ ys) → rule (x ∷ xs) ≡ rule (y ∷ ys))
    → {l m : List ℤ} → Permuted l m → rule l ≡ rule m
filled_same rule same Permᴰ.nil = refl
filled_same rule same (Permᴰ.cons e p) = same _ _ _ _ (Permᴰ.cons e p)
filled_same rule same (Permᴰ.swap e g) = same _ _ _ _ (Permᴰ.swap e g)
filled_same rule same (Permᴰ.trans p q) = filled_same rule same p ∙ filled_same rule same q

middle_permuted : (sends_sync : Bool) {l m : List ℤ} → Permuted l m → midpoint (with_own sends_sync l) ≡ midpoint (with_own sends_sync m)
middle_permuted sends_sync p = midpoint_permuted (Permᴰ.append_right (cond sends_sync (pos 0 ∷ []) []) p)

pub offset_permuted : {ms ns : List Taken} → Permuted ms ns → (sends_sync : Bool) (limit : ℕ)
    → offset_term (offset_values_of ms) sends_sync limit ≡ offset_term (offset_values_of ns) sends_sync limit
offset_permuted {ms} {ns} p sends_sync limit =
    filled_same (λ values. offset_term values sends_sync limit)
    (λ x y xs ys q. ap (limited limit) (middle_permuted sends_sync q))
    (values_permuted (offset_of ms) (offset_of ns)
    (λ id. smallest_permuted (deviations_permuted (λ (m : Taken). eqb m.id id) p)) (ids_permuted p))

pub on_permuted : (channel : Channel) (id : ℕ) {ms ns : List Taken} → Permuted ms ns → deviation_on channel ms id ≡ deviation_on channel ns id
on_permuted channel id p = smallest_permuted (deviations_permuted (λ (m : Taken). eqb m.id id && same_channel m.channel channel) p)

both_permuted : (id : ℕ) {ms ns : List Taken} → Permuted ms ns → deviations_on ms id ≡ deviations_on ns id
both_permuted id p = λ i. record { on_a = on_permuted A id p i; on_b = on_permuted B id p i }

pub rate_permuted : {odd odd' even even' : List Taken} → Permuted odd odd' → Permuted even even' → (sends_sync : Bool) (stored : ℤ) (d limit : ℕ)
    → rate_term (rate_values_of odd even) sends_sync stored d limit ≡ rate_term (rate_values_of odd' even') sends_sync stored d limit
rate_permuted {odd} {odd'} {even} {even'} p q sends_sync stored d limit =
    filled_same (λ values. rate_term values sends_sync stored d limit)
    (λ x y xs ys r. ap (λ (z : ℤ). limited limit (damped d (whole (z +ℤ stored)))) (middle_permuted sends_sync r))
    (values_permuted (rate_of odd even) (rate_of odd' even')
    (λ id i. rate_value (both_permuted id p i) (both_permuted id q i)) (ids_permuted p))
