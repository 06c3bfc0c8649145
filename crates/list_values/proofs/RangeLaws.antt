-- Sound rows: every difference of deviations fits, and no rate value is farther from zero than two deviations can be apart.
use Prim.Native.Nat.{ℕ, ◌+◌, ◌≤◌}
use mathlib.Core.Path.{◌≡◌, refl, ap}
use mathlib.Core.Bool.{true}
use mathlib.Core.List.{List, [], ◌∷◌}
use native.Mathlib.Omega.{arith}
use lib.IntN.{ℤ, ◌-ℤ◌}
use lib.Signed.{le_z}
use mir.Syntax.{w32}
use mir.Val.{SFits}
use Rattle.numbers.proofs.Signed.{up, dn, le_sums, sub_sums, one_sided, sfits_by}
use Rattle.numbers.proofs.Truth.{both_true}
use Rattle.midpoint.proofs.RangeLaws.{Near, Within, none, more, half_within}
use Rattle.base_types.specs.Microtick.{lowest_deviation, highest_deviation, is_deviation, held, whole}
use Rattle.correction.specs.Values.{Value, difference_by, joined, rate_value, rate_value_by}
use Rattle.base_types.proofs.HeldLaws.{held_fits}
use Rattle.sync_list.specs.declared.row.Row.{Row}
use Rattle.sync_list.specs.Rows.{Measured, value_of, deviations_of}
use Rattle.sync_list.specs.Lists.{row_in}
use Rattle.list_soundness.specs.Sound.{is_in_range, row_sound, each_row, rows_sound}
use Rattle.list_soundness.proofs.RangedLaws.{Ranged, row_ranged, in_ranged}
use Rattle.list_values.specs.Values.{before, present, rate_values, rate_values_by}
use Rattle.std.specs.Prelude.{None, Some}

-- ---- two deviations

-- how far apart they can be
abbrev pub spread : ℕ
spread = up highest_deviation + dn lowest_deviation

deviation_parts : (d : ℤ) → is_deviation d ≡ true → (up d ≤ dn d + up highest_deviation) × (dn d ≤ up d + dn lowest_deviation)
deviation_parts d e =
    let h = both_true (le_z lowest_deviation d) (le_z d highest_deviation) e in
    let low = le_sums lowest_deviation d h.0 in
    let high = le_sums d highest_deviation h.1 in
    (omega arith, omega arith)

apart : (x y : ℤ) → is_deviation x ≡ true → is_deviation y ≡ true → Near spread (x -ℤ y)
apart x y ex ey =
    let px = deviation_parts x ex in
    let py = deviation_parts y ey in
    let d = sub_sums x y in
    let s = one_sided (x -ℤ y) in
    (omega arith, omega arith)

-- ---- the rate value of an ID

-- a value, where there is one, is near
abbrev NearValue : Value → Type 0
NearValue None = Unit {0}
NearValue (Some x) = Near spread x.0

held_difference : (odd even : Measured) → is_in_range odd ≡ true → is_in_range even ≡ true
    → (difference_by held (value_of odd) (value_of even) ≡ difference_by whole (value_of odd) (value_of even)) × NearValue (difference_by whole (value_of odd) (value_of even))
held_difference None even o e = (refl, tt)
held_difference (Some x) None o e = (refl, tt)
held_difference (Some x) (Some y) o e =
    let n = apart x.deviation.0 y.deviation.0 o e in
    let f : SFits w32 (x.deviation.0 -ℤ y.deviation.0) = sfits_by (omega (arith, n.0)) (omega (arith, n.1)) in
    (ap (λ (z : ℤ). Some (record { 0 = z })) (held_fits (x.deviation.0 -ℤ y.deviation.0) f), n)

near_joined : (a b : Value) → NearValue a → NearValue b → NearValue (joined a b)
near_joined None b na nb = nb
near_joined (Some x) None na nb = na
near_joined (Some x) (Some y) na nb = half_within spread x.0 y.0 na nb

module _ (odd even : Row) (o : Ranged odd) (e : Ranged even) where
  held_value : rate_value_by held (deviations_of odd) (deviations_of even) ≡ rate_value (deviations_of odd) (deviations_of even)
  held_value =
      let a = (held_difference odd.on_a even.on_a o.on_a e.on_a).0 in
      let b = (held_difference odd.on_b even.on_b o.on_b e.on_b).0 in
      λ i. joined (a i) (b i)

  near_value : NearValue (rate_value (deviations_of odd) (deviations_of even))
  near_value =
      near_joined (difference_by whole (value_of odd.on_a) (value_of even.on_a)) (difference_by whole (value_of odd.on_b) (value_of even.on_b))
      (held_difference odd.on_a even.on_a o.on_a e.on_a).1
      (held_difference odd.on_b even.on_b o.on_b e.on_b).1

-- ---- the rate values of a list

module _ (even : List Row) (e : rows_sound even ≡ true) where
  pub rates_held : (odd : List Row) → rows_sound odd ≡ true → rate_values_by held odd even ≡ rate_values odd even
  unfolding each_row present
  rates_held [] o = refl
  rates_held (row ∷ rows) o =
      let h = both_true (row_sound row) (rows_sound rows) o in
      let same = held_value row (row_in row.id even) (row_ranged row h.0) (in_ranged even row.id e) in
      let rest : rate_values_by held rows even ≡ rate_values rows even = rates_held rows h.1 in
      λ i. before (same i) (rest i)

  near_before : (v : Value) (numbers : List ℤ) → NearValue v → Within spread numbers → Within spread (before v numbers)
  near_before None numbers n w = w
  near_before (Some x) numbers n w = more n w

  pub rates_near : (odd : List Row) → rows_sound odd ≡ true → Within spread (rate_values odd even)
  unfolding each_row present
  rates_near [] o = none
  rates_near (row ∷ rows) o =
      let h = both_true (row_sound row) (rows_sound rows) o in
      near_before (rate_value (deviations_of row) (deviations_of (row_in row.id even))) (rate_values rows even)
      (near_value row (row_in row.id even) (row_ranged row h.0) (in_ranged even row.id e))
      (rates_near rows h.1)
