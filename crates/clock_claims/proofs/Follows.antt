-- A clock state follows what has happened, and so it does after each call.
use Rattle.std.specs.Prelude.{Option, None, Some, is_some, unwrap_or}
use Prim.Native.Nat.{ℕ, ◌-◌, ◌≤◌}
use native.Mathlib.Nat.{le_trans}
use mathlib.Core.Path.{◌≡◌, refl, sym, ap, subst, transport, ◌∙◌}
use mathlib.Core.Bool.{Bool, true, false, false≢true, not, ◌&&◌, ◌||◌, cond}
use mathlib.Core.List.Permᴰ
use mathlib.Core.List.{List, [], ◌∷◌}
use borrow.Author.Tests.{eqb-true, not-false}
use lib.Dec.{eqb, lit<}
use lib.IntN.{ℤ}
use lib.ListN.{length}
use Rattle.numbers.proofs.Truth.{both_true}
use Rattle.numbers.proofs.Walk.{cases, cases_in}
use Rattle.refusal.specs.Refusal.{Line, ◌when◌, first, numbered}
use Rattle.refusal.proofs.FirstLaws.{first_skip, first_here, not_refused}
use Rattle.division.specs.Bits.{odd}
use Rattle.midpoint.specs.Order.{Permuted}
use Rattle.base_types.specs.declared.cycle.Cycle.{Cycle}
use Rattle.base_types.specs.Cycle.{cycle_too_high}
use Rattle.settings.specs.declared.Settings.{Settings}
use Rattle.settings.specs.Sheet.{out_of_range, sync_id_limit, offset_limit, rate_limit, drift_damping}
use Rattle.slot.specs.declared.status.Status.{Status}
use Rattle.slot.specs.Sound as slot
use Rattle.base_types.specs.declared.microtick.Microtick.{Microtick}
use Rattle.correction.specs.declared.term.Term.{Term}
use Rattle.base_types.specs.Microtick.{above_time_limit, whole}
use Rattle.correction.specs.Terms.{offset_term, rate_term}
use Rattle.correction.specs.External.{not_a_control}
use Rattle.sync_list.specs.declared.row.Measurement.{Measurement}
use Rattle.sync_list.specs.declared.list.SyncList.{SyncList}
use Rattle.sync_list.specs.Lists.{row_count, empty, listed, recorded}
use Rattle.list_soundness.specs.Sound.{list_sound}
use Rattle.measurements.specs.Measurements.{stands_for, different_ids}
use Rattle.measurements.specs.Terms.{offset_values_of, rate_values_of}
use Rattle.measurements.proofs.AddingLaws.{recorded_permuted}
use Rattle.clock.specs.declared.state.Clock.{Clock}
use Rattle.base_types.specs.Cycle.{is_odd}
use Rattle.clock.specs.State.{is_cycle, fresh, current_cycle, list_of}
use Rattle.clock.specs.Opening.{opening_refusals, keeps_even, even_after, opened_on}
use Rattle.clock.proofs.SoundLaws.{clauses, at_most, list_clauses}
use Rattle.measuring.specs.Measuring.{frame_of, no_sync_frame, deviation_with, measurement_with, deviation_by, measurement_by, measured_on}
use Rattle.measuring.specs.Measuring as measuring
use Rattle.closing.specs.Closing.{closing_refusals, offset_found, stored_term, rate_found, report_with, report_of, closed_on}
use Rattle.clock_claims.specs.Typed.{TypedList}
use Rattle.clock_claims.specs.History.{InUse, Since, just_loaded, of_cycles, of_cycle, kept_of, current, of_current, after_opening, is_full, deviation_in, measurement_in, after_measuring, offset_in, rate_in, report_in, after_closing, open_refusals, measure_refusals, close_refusals}
use Rattle.clock_claims.specs.Histories.{is_even, HoldsSince}
use Rattle.clock_claims.proofs.InUse.{Every, every, cycles_same, kept_every, kept_all, cycles_none, cycles_more, of_parity, own_parity, before_odd, OfOpen, OfClosed, open_closed, own_open, before_open}
use Rattle.clock_claims.proofs.Recorded.{has_place, recorded_typed, of_list, of-even, of-odd, of_even_after, list_of_sound}
use Rattle.clock_claims.proofs.Reports.{offset_over, rate_over, count_over}
use Rattle.clock_claims.proofs.SoundCalls.{fresh_sound, opened_on_sound, measured_on_sound, closed_on_sound}
use Rattle.clock_claims.proofs.TakenLaws.{taken_permuted, full_permuted, list_taken, list_full_lem}

-- ---- the relation

-- The cycles of the measurements in use, by the cycle that is open or was closed last.
abbrev Steady : Option Cycle → Option Cycle → List InUse → Type 0
Steady (Some cycle) last l = Every (OfOpen cycle.0) l
Steady None (Some cycle) l = Every (OfClosed cycle.0) l
Steady None None l = Unit

-- The state holds what has happened, and each list has all its rows.
pub record Follows (s : Since) (c : Clock) : Type 0 where
  pub holds : HoldsSince s c
  pub even_typed : TypedList c.even
  pub odd_typed : TypedList c.odd
  pub steady : Steady s.opened s.last_closed s.in_use

steady_closed : (o l : Option Cycle) (ms : List InUse) (n : ℕ) → Steady o l ms → is_some o ≡ false → is_cycle n l ≡ true → odd n ≡ false
    → Every (λ (m : InUse). eqb m.cycle n ≡ is_even m.cycle) ms
steady_closed (Some cycle) l ms n st closed is even = absurd (false≢true (sym closed))
steady_closed None None ms n st closed is even = absurd (false≢true is)
steady_closed None (Some cycle) ms n st closed is even =
    let same : cycle.0 ≡ n = eqb-true cycle.0 n is in
    every (λ m h. ap (eqb m.cycle) (sym same) ∙ h (ap odd same ∙ even)) ms st

-- where a cycle is open
steady_open : (o l : Option Cycle) (ms : List InUse) → is_some o ≡ true → Steady o l ms ≡ Every (OfOpen (unwrap_or o (record { 0 = 0 })).0) ms
steady_open (Some cycle) l ms there = refl
steady_open None l ms there = absurd (false≢true there)

-- ---- a load

nothing_in : (p : ℕ → Bool) → Permuted (stands_for (listed empty)) (of_cycles p [])
unfolding stands_for of_cycles
nothing_in p = Permᴰ.nil

pub follows_load : (settings : Settings) → out_of_range settings ≡ false → Follows (just_loaded settings) (fresh settings)
follows_load settings e =
    record {
      holds =
          record {
            good = fresh_sound settings e;
            settings = refl;
            opened = refl;
            last_closed = refl;
            rate = refl;
            even = nothing_in is_even;
            odd = nothing_in (of_parity true);
          };
      even_typed = refl;
      odd_typed = refl;
      steady = tt;
    }

module _ (s : Since) (c : Clock) (f : Follows s c) where
  -- ---- opening a cycle

  module _ (cycle : Cycle) where
    pub open-number : first (opening_refusals c cycle) ≡ first (open_refusals s cycle)
    open-number =
        first_skip 23 _ (ap not f.holds.good)
        ∙ ap (λ (o : Option Cycle). first (11 when cycle_too_high cycle.0 ∷ 19 when is_some o ∷ [])) f.holds.opened

    -- what an even list and the measurements in use are once the cycle is open: none of an odd cycle is in use
    abbrev Opened : SyncList → List InUse → Type 0
    Opened even l =
        Permuted (stands_for (listed even)) (of_cycles is_even l)
        × Permuted (stands_for (listed empty)) (of_cycles (of_parity true) l)
        × Every (OfOpen cycle.0) l

    module _ (closed : is_some s.opened ≡ false) where
      -- the even list stays where an odd cycle follows the last closed one, of which all its measurements are
      kept-opened : keeps_even c cycle ≡ true → Opened c.even (kept_of (cycle.0 - 1) s.in_use)
      kept-opened kept =
          let before = cycle.0 - 1 in
          let both = both_true (is_odd cycle) (is_cycle before c.last_closed) kept in
          let even = (before_odd cycle.0 both.0).0 in
          let last = ap (is_cycle before) (sym f.holds.last_closed) ∙ both.1 in
          let of-before = steady_closed s.opened s.last_closed s.in_use before f.steady closed last even in
          let none =
          cycles_none (of_parity true) (kept_of before s.in_use)
          (every (λ m e. ap (of_parity true) e ∙ (own_parity before even).1) (kept_of before s.in_use) (kept_every before s.in_use)) in (
            subst (Permuted (stands_for (listed c.even))) (sym (kept_all is_even before s.in_use of-before)) f.holds.even,
            subst (Permuted (stands_for (listed empty))) (sym none) (nothing_in (of_parity true)),
            every (λ m e. before_open cycle.0 m both.0 e) (kept_of before s.in_use) (kept_every before s.in_use),
          )

      opened-in-use : Opened (even_after c cycle) (after_opening s cycle).in_use
      opened-in-use =
          let kept = kept_of (cycle.0 - 1) s.in_use in
          subst (λ (l : Option Cycle). Opened (even_after c cycle) (cond (is_odd cycle && is_cycle (cycle.0 - 1) l) kept [])) f.holds.last_closed
          (cases_in (λ b. Opened (cond b c.even empty) (cond b kept [])) (keeps_even c cycle) kept-opened
          (λ t. (nothing_in is_even, nothing_in (of_parity true), tt)))

      pub follows-open : cycle_too_high cycle.0 ≡ false → Follows (after_opening s cycle) (opened_on c cycle)
      follows-open low =
          record {
            holds =
                record {
                  good = opened_on_sound c cycle f.holds.good low;
                  settings = f.holds.settings;
                  opened = refl;
                  last_closed = f.holds.last_closed;
                  rate = f.holds.rate;
                  even = opened-in-use.0;
                  odd = opened-in-use.1;
                };
            even_typed = of_even_after TypedList c cycle f.even_typed refl;
            odd_typed = refl;
            steady = opened-in-use.2;
          }

  -- ---- while a cycle is open

  now_is : current_cycle c ≡ current s
  now_is = ap (λ (o : Option Cycle). unwrap_or o (record { 0 = 0 })) f.holds.opened

  limit_small : sync_id_limit c.settings ≤ row_count
  limit_small = at_most c.settings (clauses c f.holds.good).settings 4 (lit< tt)

  list_good : list_sound (sync_id_limit c.settings) c.settings.mark (list_of (current_cycle c) c) ≡ true
  list_good = list_of_sound c (current_cycle c) f.holds.good

  list_typed : TypedList (list_of (current_cycle c) c)
  list_typed = of_list TypedList c (current_cycle c) f.even_typed f.odd_typed

  -- each list holds the measurements of its parity
  held : (o : Bool) → Permuted (stands_for (listed (cond o c.odd c.even))) (of_cycles (of_parity o) s.in_use)
  held true = f.holds.odd
  held false = f.holds.even

  module _ (there : is_some s.opened ≡ true) where
    of-open : Every (OfOpen (current s).0) s.in_use
    of-open = transport (steady_open s.opened s.last_closed s.in_use there) f.steady

    -- the open cycle's list holds the measurements of the open cycle
    pub list-holds : Permuted (stands_for (listed (list_of (current_cycle c) c))) (of_current s)
    list-holds =
        subst (Permuted (stands_for (listed (list_of (current_cycle c) c))))
        (sym
        (cycles_same (λ (n : ℕ). eqb n (current s).0) (of_parity (is_odd (current_cycle c))) s.in_use
        (every (λ m h. h.0 ∙ ap (λ (k : Cycle). of_parity (is_odd k) m.cycle) (sym now_is)) s.in_use of-open)))
        (held (is_odd (current_cycle c)))

    -- in an odd cycle the even list holds those of the cycle before
    before-holds : is_odd (current_cycle c) ≡ true → Permuted (stands_for (listed c.even)) (of_cycle ((current s).0 - 1) s.in_use)
    before-holds o =
        subst (Permuted (stands_for (listed c.even)))
        (sym
        (cycles_same (λ (n : ℕ). eqb n ((current s).0 - 1)) is_even s.in_use
        (every (λ m h. h.1 (ap is_odd (sym now_is) ∙ o)) s.in_use of-open)))
        f.holds.even

    pub count-is : (list_of (current_cycle c) c).count ≡ length (different_ids (of_current s))
    count-is = count_over c f.holds.good list_typed (of_current s) list-holds

  -- ---- measuring

  module _ (status : Status) (observed action_point : Microtick) where
    abbrev ours : List Line
    ours = measuring.measure_refusals c status observed action_point

    pub deviation-is : deviation_by c status observed action_point ≡ deviation_in s status observed action_point
    deviation-is = ap (λ (k : Settings). deviation_with k status observed action_point) f.holds.settings

    pub measurement-is : measurement_by c status observed action_point ≡ measurement_in s status observed action_point
    measurement-is = ap (λ (k : Settings). measurement_with whole k status observed action_point) f.holds.settings

    number-open : is_some s.opened ≡ true → first ours ≡ first (measure_refusals s status observed action_point)
    number-open there =
        let id = (frame_of status).id in
        let limit = sync_id_limit c.settings in
        let mark = c.settings.mark in
        let l = list_of (current_cycle c) c in
        let p = list-holds there in
        let p23 = ap (λ (b : Bool). not (b && slot.sound status)) f.holds.good in
        let p18 = ap (λ (o : Option Cycle). not (is_some o)) f.holds.opened in
        let p22 = ap (λ (n : Cycle). not (eqb (frame_of status).cycle.0 n.0)) now_is in
        let p16 = list_taken limit mark l list_typed limit_small list_good id status.channel ∙ taken_permuted id.0 status.channel p in
        let p15 =
        list_full_lem limit mark l list_typed limit_small list_good c.settings refl id
        ∙ full_permuted c.settings id.0 p
        ∙ ap (λ (k : Settings). is_full k id.0 (of_current s)) f.holds.settings in
        λ i.
        first
        (23 when p23 i
        ∷ 18 when p18 i
        ∷ 14 when (above_time_limit observed.0 || above_time_limit action_point.0)
        ∷ 20 when no_sync_frame status
        ∷ 22 when p22 i
        ∷ 16 when p16 i
        ∷ 15 when p15 i
        ∷ [])

    -- where no cycle is open, 23 or 18 comes before what is measured is looked at
    number-closed : is_some s.opened ≡ false → first ours ≡ first (measure_refusals s status observed action_point)
    number-closed closed =
        let good = ap (λ (b : Bool). not (b && slot.sound status)) f.holds.good in
        let none = ap (λ (o : Option Cycle). not (is_some o)) f.holds.opened ∙ ap not closed in
        cases (slot.sound status)
        (λ t.
        first_skip 23 _ (good ∙ ap not t)
        ∙ first_here 18 _ none
        ∙ sym (first_skip 23 _ (ap not t) ∙ first_here 18 _ (ap not closed)))
        (λ t. first_here 23 _ (good ∙ ap not t) ∙ sym (first_here 23 _ (ap not t)))

    pub measure-number : first ours ≡ first (measure_refusals s status observed action_point)
    measure-number = cases (is_some s.opened) number-open number-closed

    module _ (zero : first ours ≡ 0) where
      abbrev m : Measurement
      m = measurement_by c status observed action_point

      abbrev new : InUse
      new = record { cycle = (current s).0; taken = record { id = (frame_of status).id.0; channel = status.channel; measurement = m } }

      abbrev list : SyncList
      list = recorded (frame_of status).id status.channel m (list_of (current_cycle c) c)

      there : is_some s.opened ≡ true
      unfolding numbered
      there = ap is_some (sym f.holds.opened) ∙ not-false (is_some c.opened) (not_refused ours refl zero 18)

      -- the list has the measurement, and what it had
      one_more : Permuted (stands_for (listed list)) (new.taken ∷ stands_for (listed (list_of (current_cycle c) c)))
      unfolding numbered
      one_more =
          let passed = not_refused ours refl zero in
          let l = list_of (current_cycle c) c in
          recorded_permuted l (frame_of status).id status.channel m list_typed
          (le_trans (list_clauses (sync_id_limit c.settings) c.settings.mark l list_good).few limit_small) (passed 16)
          (has_place (sync_id_limit c.settings) c.settings.mark l (frame_of status).id list_typed limit_small list_good (passed 15))

      parity : {o : Bool} → is_odd (current_cycle c) ≡ o → odd (current s).0 ≡ o
      parity e = ap is_odd (sym now_is) ∙ e

      -- the list of the open cycle's parity has it now, and the other is as it was
      own : {o : Bool} → is_odd (current_cycle c) ≡ o → Permuted (stands_for (listed list)) (of_cycles (of_parity o) (new ∷ s.in_use))
      own {o = o} e =
          subst (Permuted (stands_for (listed list))) (sym (cycles_more (of_parity o) new s.in_use (own_parity (current s).0 (parity e)).0))
          (Permᴰ.trans
          (subst (λ (b : Bool). Permuted (stands_for (listed list)) (new.taken ∷ stands_for (listed (cond b c.odd c.even)))) e one_more)
          (Permᴰ.cons refl (held o)))

      other : {o : Bool} → is_odd (current_cycle c) ≡ o
          → Permuted (stands_for (listed (cond (not o) c.odd c.even))) (of_cycles (of_parity (not o)) (new ∷ s.in_use))
      other {o = o} e =
          subst (Permuted (stands_for (listed (cond (not o) c.odd c.even))))
          (sym (cycles_more (of_parity (not o)) new s.in_use (own_parity (current s).0 (parity e)).1))
          (held (not o))

      pub follows-measure : Follows (after_measuring s status m) (measured_on c status m)
      follows-measure =
          let typed = recorded_typed (frame_of status).id status.channel m (list_of (current_cycle c) c) list_typed in
          let odd-now = is_odd (current_cycle c) in
          record {
            holds =
                record {
                  good = measured_on_sound c status observed action_point f.even_typed f.odd_typed zero;
                  settings = f.holds.settings;
                  opened = f.holds.opened;
                  last_closed = f.holds.last_closed;
                  rate = f.holds.rate;
                  even = cases_in (λ b. Permuted (stands_for (listed (cond b c.even list))) (of_cycles is_even (new ∷ s.in_use))) odd-now other own;
                  odd = cases_in (λ b. Permuted (stands_for (listed (cond b list c.odd))) (of_cycles (of_parity true) (new ∷ s.in_use))) odd-now own other;
                };
            even_typed = of-even TypedList c (current_cycle c) f.even_typed f.odd_typed typed;
            odd_typed = of-odd TypedList c (current_cycle c) f.even_typed f.odd_typed typed;
            steady = transport (sym (steady_open s.opened s.last_closed (new ∷ s.in_use) there)) (own_open (current s).0 new refl, of-open there);
          }

  -- ---- closing

  pub close_number : (offset_control rate_control : ℤ) → first (closing_refusals c offset_control rate_control) ≡ first (close_refusals s offset_control rate_control)
  close_number offset_control rate_control =
      first_skip 23 _ (ap not f.holds.good)
      ∙ ap (λ (o : Option Cycle). first (18 when not (is_some o) ∷ 21 when (not_a_control offset_control || not_a_control rate_control) ∷ [])) f.holds.opened

  module _ (there : is_some s.opened ≡ true) where
    offset-is : offset_found c ≡ offset_in s
    offset-is =
        offset_over c f.holds.good (of_current s) (list-holds there)
        ∙ ap (λ (k : Settings). offset_term (offset_values_of (of_current s)) k.sends_sync (offset_limit k)) f.holds.settings

    rate-is : rate_found c ≡ rate_in s
    rate-is =
        let settings = f.holds.settings in
        let rate = f.holds.rate in
        rate_over c f.holds.good (of_current s) (list-holds there) (of_cycle ((current s).0 - 1) s.in_use) (before-holds there)
        ∙ (λ i.
        cond (is_odd (now_is i))
        (rate_term (rate_values_of (of_current s) (of_cycle ((current s).0 - 1) s.in_use)) (settings i).sends_sync (rate i) (drift_damping (settings i)) (rate_limit (settings i)))
        (stored_term (rate i)))

    pub report-is : (offset_control rate_control : ℤ) → report_of c offset_control rate_control ≡ report_in s offset_control rate_control
    report-is offset_control rate_control =
        let settings = f.holds.settings in
        let count = count-is there in
        λ i. report_with (settings i) (offset-is i) (rate-is i) (count i) offset_control rate_control

    pub follows-close : Follows (after_closing s) (closed_on c)
    follows-close =
        record {
          holds =
              record {
                good = closed_on_sound c f.holds.good (ap is_some f.holds.opened ∙ there);
                settings = f.holds.settings;
                opened = refl;
                last_closed = ap Some now_is;
                rate = ap (λ (t : Term). t.value.0) rate-is;
                even = f.holds.even;
                odd = f.holds.odd;
              };
          even_typed = f.even_typed;
          odd_typed = f.odd_typed;
          steady = every (open_closed (current s).0) s.in_use (of-open there);
        }
