-- Every number that closing makes of a sound clock state fits its type: nothing that is held is cut.
use Prim.Native.Nat.{ℕ, ◌+◌, ◌-◌, ◌<◌, ◌^◌}
use mathlib.Core.Path.{◌≡◌, refl, ap, ◌∙◌}
use mathlib.Core.Bool.{Bool, true, false}
use mathlib.Core.List.{List, [], ◌∷◌}
use native.Mathlib.Omega.{arith}
use borrow.Author.Tests.{not-true}
use lib.Dec.{lit<}
use lib.IntN.{ℤ, pos, neg_ℤ, ◌+ℤ◌}
use lib.ListN.{length}
use lib.Signed.{lt_z}
use Rattle.numbers.proofs.Signed.{up_neg, dn_neg, add_sum, sfits_by}
use Rattle.numbers.proofs.Walk.{cases}
use Rattle.midpoint.specs.Midpoint.{midpoint}
use Rattle.midpoint.proofs.RangeLaws.{Near, Within, none, more, midpoint_within}
use Rattle.settings.specs.Sheet.{field, ranges, sync_id_limit, offset_limit, rate_limit, drift_damping, external_offset_unit, external_rate_unit}
use Rattle.correction.specs.declared.external.Control.{Control}
use Rattle.base_types.specs.Microtick.{held}
use Rattle.correction.specs.Terms.{with_own, is_outside, within, limited, damped, offset_term, rate_term, rate_term_by}
use Rattle.correction.specs.External.{sign_of, external_term, with_external}
use Rattle.correction.proofs.ControlLaws.{external_small}
use Rattle.base_types.proofs.HeldLaws.{held_fits}
use Rattle.sync_list.specs.Lists.{listed}
use Rattle.list_values.specs.Values.{offset_values, rate_values, rate_values_by}
use Rattle.list_values.proofs.RangeLaws.{spread, rates_held, rates_near}
use Rattle.clock.specs.declared.state.Clock.{Clock}
use Rattle.base_types.specs.Cycle.{is_odd}
use Rattle.clock.specs.State.{current_cycle, list_of}
use Rattle.clock.specs.Sound.{sound}
use Rattle.clock.proofs.SoundLaws.{clauses, highest, at_most, list_clauses, not_outside}
use Rattle.closing.specs.Closing.{offset_found, rate_found}

-- ---- what is limited lies within its limit

near_within : (limit : ℕ) (x : ℤ) → Near limit (within limit x)
near_within limit x =
    cases (lt_z (pos limit) x)
    (λ t. rw t (omega arith, omega arith))
    (λ t. cases (lt_z x (neg_ℤ (pos limit)))
    (λ u. rw (t, u) (omega (arith, up_neg (pos limit)), omega (arith, dn_neg (pos limit))))
    (λ u. rw (t, u) (not_outside limit x (rw (t, u)))))

pub zero_near : (limit : ℕ) → Near limit (pos 0)
zero_near limit = (omega arith, omega arith)

offset_near : (values : List ℤ) (sends_sync : Bool) (limit : ℕ) → Near limit (offset_term values sends_sync limit).value.0
offset_near [] sends_sync limit = zero_near limit
offset_near (v ∷ vs) sends_sync limit = near_within limit (midpoint (with_own sends_sync (v ∷ vs)))

rate_near : (values : List ℤ) (sends_sync : Bool) (stored : ℤ) (d limit : ℕ) → Near limit stored
    → Near limit (rate_term values sends_sync stored d limit).value.0
rate_near [] sends_sync stored d limit n = n
rate_near (v ∷ vs) sends_sync stored d limit n = near_within limit (damped d (midpoint (with_own sends_sync (v ∷ vs)) +ℤ stored))

-- ---- the rate, as it is held and whole

own_within : (m : ℕ) (values : List ℤ) (sends_sync : Bool) → Within m values → Within m (with_own sends_sync values)
own_within m [] true w = more (zero_near m) none
own_within m [] false w = none
own_within m (v ∷ vs) sends_sync (more n w) = more n (own_within m vs sends_sync w)

sum_held : (m limit : ℕ) (x stored : ℤ) → Near m x → Near limit stored → m + limit < 2 ^ 31 → held (x +ℤ stored) ≡ x +ℤ stored
sum_held m limit x stored nx ns small =
    let sum = add_sum x stored in
    held_fits (x +ℤ stored) (sfits_by (omega arith) (omega arith))

rate_whole : (values : List ℤ) (sends_sync : Bool) (stored : ℤ) (d limit : ℕ) → Within spread values → Near limit stored → spread + limit < 2 ^ 31
    → rate_term_by held values sends_sync stored d limit ≡ rate_term values sends_sync stored d limit
rate_whole [] sends_sync stored d limit w n small = refl
rate_whole (v ∷ vs) sends_sync stored d limit w n small =
    let m = midpoint (with_own sends_sync (v ∷ vs)) in
    ap (λ (z : ℤ). limited limit (damped d z))
    (sum_held spread limit m stored (midpoint_within spread (with_own sends_sync (v ∷ vs)) (own_within spread (v ∷ vs) sends_sync w)) n small)

module _ (clock : Clock) (good : sound clock ≡ true) where
  stored_near : Near (rate_limit clock.settings) clock.rate.0
  stored_near =
      let k = clauses clock good in
      not_outside (rate_limit clock.settings) clock.rate.0 (not-true (is_outside (rate_limit clock.settings) clock.rate.0) k.rate)

  -- the rate that the code works out is 01's
  pub rate_is_whole : rate_term_by held (rate_values_by held (listed clock.odd) (listed clock.even)) clock.settings.sends_sync clock.rate.0
      (drift_damping clock.settings) (rate_limit clock.settings)
      ≡ rate_term (rate_values (listed clock.odd) (listed clock.even)) clock.settings.sends_sync clock.rate.0
      (drift_damping clock.settings) (rate_limit clock.settings)
  rate_is_whole =
      let s = clock.settings in
      let k = clauses clock good in
      let even = (list_clauses (sync_id_limit s) s.mark clock.even k.even).rows in
      let odd = (list_clauses (sync_id_limit s) s.mark clock.odd k.odd).rows in
      let few = at_most s k.settings 6 (lit< tt) in
      ap (λ (values : List ℤ). rate_term_by held values s.sends_sync clock.rate.0 (drift_damping s) (rate_limit s))
      (rates_held (listed clock.even) even (listed clock.odd) odd)
      ∙ rate_whole (rate_values (listed clock.odd) (listed clock.even)) s.sends_sync clock.rate.0 (drift_damping s) (rate_limit s)
      (rates_near (listed clock.even) even (listed clock.odd) odd) stored_near (omega arith)

  pub found_near : Near (rate_limit clock.settings) (rate_found clock).value.0
  found_near =
      let s = clock.settings in
      cases (is_odd (current_cycle clock))
      (λ t. rw t
      (rate_near (rate_values (listed clock.odd) (listed clock.even)) s.sends_sync clock.rate.0 (drift_damping s) (rate_limit s) stored_near))
      (λ t. rw t stored_near)

  -- the external term never leads out of the type: a term within the limit of one field, and the unit of another
  external_held : (limit unit : ℕ) → limit - 1 < length ranges → unit - 1 < length ranges → highest limit + highest unit < 2 ^ 31
      → (x : ℤ) (control : Control) → Near (field limit clock.settings) x
      → held (with_external x (sign_of control) (field unit clock.settings)) ≡ with_external x (sign_of control) (field unit clock.settings)
  external_held limit unit l u small x control n =
      let s = clock.settings in
      let k = clauses clock good in
      let low = at_most s k.settings limit l in
      let high = at_most s k.settings unit u in
      sum_held (field limit s) (field unit s) x (external_term (sign_of control) (field unit s)) n (external_small control (field unit s)) (omega arith)

  pub offset_reported : (control : Control)
      → held (with_external (offset_found clock).value.0 (sign_of control) (external_offset_unit clock.settings))
      ≡ with_external (offset_found clock).value.0 (sign_of control) (external_offset_unit clock.settings)
  offset_reported control =
      let s = clock.settings in
      external_held 5 8 (lit< tt) (lit< tt) (lit< tt) (offset_found clock).value.0 control
      (offset_near (offset_values (listed (list_of (current_cycle clock) clock))) s.sends_sync (offset_limit s))

  pub rate_reported : (control : Control)
      → held (with_external (rate_found clock).value.0 (sign_of control) (external_rate_unit clock.settings))
      ≡ with_external (rate_found clock).value.0 (sign_of control) (external_rate_unit clock.settings)
  rate_reported control = external_held 6 9 (lit< tt) (lit< tt) (lit< tt) (rate_found clock).value.0 control found_near
