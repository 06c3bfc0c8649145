-- What closing reports of a sound state, over the measurements that its lists stand for, in whatever order.
use mathlib.Core.Path.{◌≡◌, refl, sym, ap, subst, ◌∙◌}
use mathlib.Core.Bool.{Bool, true, not, cond}
use borrow.Author.Tests.{not-false}
use mathlib.Core.List.{List}
use lib.Dec.{lit<}
use lib.IntN.{ℤ}
use lib.ListN.{length}
use Rattle.numbers.proofs.Walk.{cases_in}
use Rattle.midpoint.specs.Order.{Permuted}
use Rattle.midpoint.proofs.OrderLaws.{permuted_length, permuted_sym}
use Rattle.refusal.specs.Refusal.{first}
use Rattle.refusal.proofs.FirstLaws.{first_zero, if_accepted_lem}
use Rattle.settings.specs.Sheet.{sync_id_limit, offset_limit, rate_limit, drift_damping}
use Rattle.correction.specs.declared.term.Term.{Term}
use Rattle.correction.specs.Terms.{offset_term, rate_term}
use Rattle.sync_list.specs.Lists.{listed}
use Rattle.list_values.specs.Values.{rate_values}
use Rattle.measurements.specs.Measurements.{Taken, stands_for, different_ids}
use Rattle.measurements.specs.Terms.{offset_values_of, rate_values_of}
use Rattle.measurements.proofs.OrderLaws.{ids_permuted, offset_permuted, rate_permuted}
use Rattle.measurements.proofs.RowLaws.{rows_offset, rows_rate}
use Rattle.clock.specs.declared.state.Clock.{Clock}
use Rattle.base_types.specs.Cycle.{is_odd}
use Rattle.clock.specs.State.{current_cycle, list_of}
use Rattle.clock.specs.Sound.{sound}
use Rattle.clock.proofs.SoundLaws.{clauses, at_most, list_clauses}
use Rattle.closing.specs.Closing as closing
use Rattle.closing.specs.Closing.{closing_refusals, stored_term, offset_found, rate_found, report_with, report_of, no_report}
use Rattle.clock_claims.specs.Typed.{TypedList}
use Rattle.clock_claims.specs.Reports.{ReportedOver}
use Rattle.clock_claims.proofs.Recorded.{of_list, list_of_sound}
use Rattle.clock_claims.proofs.TakenLaws.{list_count}

module _ (c : Clock) (good : sound c ≡ true) where
  -- the count, and the offset, over the open cycle's list
  pub count_over : TypedList (list_of (current_cycle c) c) → (ms : List Taken) → Permuted (stands_for (listed (list_of (current_cycle c) c))) ms
      → (list_of (current_cycle c) c).count ≡ length (different_ids ms)
  count_over typed ms p =
      list_count (sync_id_limit c.settings) c.settings.mark (list_of (current_cycle c) c) typed (at_most c.settings (clauses c good).settings 4 (lit< tt)) (list_of_sound c (current_cycle c) good)
      ∙ permuted_length (ids_permuted p)

  pub offset_over : (ms : List Taken) → Permuted (stands_for (listed (list_of (current_cycle c) c))) ms
      → offset_found c ≡ offset_term (offset_values_of ms) c.settings.sends_sync (offset_limit c.settings)
  offset_over ms p =
      let l = list_of (current_cycle c) c in
      let k = list_clauses (sync_id_limit c.settings) c.settings.mark l (list_of_sound c (current_cycle c) good) in
      ap (λ (v : List ℤ). offset_term v c.settings.sends_sync (offset_limit c.settings))
      (sym (rows_offset (listed l) k.rows k.ids))
      ∙ offset_permuted p c.settings.sends_sync (offset_limit c.settings)

  abbrev rate_by : List ℤ → Term
  rate_by values = rate_term values c.settings.sends_sync c.rate.0 (drift_damping c.settings) (rate_limit c.settings)

  -- the rate, over both lists in an odd cycle
  pub rate_over : (ms : List Taken) → Permuted (stands_for (listed (list_of (current_cycle c) c))) ms
      → (before : List Taken) → (is_odd (current_cycle c) ≡ true → Permuted (stands_for (listed c.even)) before)
      → rate_found c ≡ cond (is_odd (current_cycle c)) (rate_by (rate_values_of ms before)) (stored_term c.rate.0)
  rate_over ms p before q =
      let stored = stored_term c.rate.0 in
      cases_in (λ b. cond b (rate_by (rate_values (listed c.odd) (listed c.even))) stored ≡ cond b (rate_by (rate_values_of ms before)) stored)
      (is_odd (current_cycle c))
      (λ t.
      let even-good = list_clauses (sync_id_limit c.settings) c.settings.mark c.even (clauses c good).even in
      let odd-good = list_clauses (sync_id_limit c.settings) c.settings.mark c.odd (clauses c good).odd in
      let odd : Permuted (stands_for (listed c.odd)) ms = subst (λ (k : Bool). Permuted (stands_for (listed (cond k c.odd c.even))) ms) t p in
      ap rate_by
      (sym (rows_rate (listed c.odd) (listed c.even) odd-good.rows odd-good.ids even-good.ids))
      ∙ rate_permuted odd (q t) c.settings.sends_sync c.rate.0 (drift_damping c.settings) (rate_limit c.settings))
      (λ t. refl)

-- ---- the claim

pub reported_over : ReportedOver
reported_over c offset_control rate_control r typed h e ms before p q =
    let zero : first (closing_refusals c offset_control rate_control) ≡ 0 = sym (ap (λ (t : closing.Told). t.number) h.answers) ∙ e in
    let good : sound c ≡ true = not-false (sound c) (first_zero 22 (not (sound c)) _ zero).0 in
    let list = permuted_sym p in
    let count = count_over c good (of_list TypedList c (current_cycle c) typed.even typed.odd) ms list in
    let offset = offset_over c good ms list in
    let rate = rate_over c good ms list before (λ t. permuted_sym q) in
    ap (λ (t : closing.Told). t.report) h.answers
    ∙ if_accepted_lem _ (report_of c offset_control rate_control) no_report zero
    ∙ (λ i. report_with c.settings (offset i) (rate i) (count i) offset_control rate_control)
