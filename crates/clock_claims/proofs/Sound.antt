-- The rule of soundness is 01's sentence, and the all-zero state does not meet it.
use Rattle.std.specs.Prelude.{Option, None, Some, is_some, unwrap_or}
use Prim.Native.Nat.{ℕ, suc, ◌≤◌}
use mathlib.Core.Path.{◌≡◌, refl, sym, ap, ◌∙◌}
use mathlib.Core.Bool.{Bool, true, false, true≢false, false≢true, not, cond}
use mathlib.Core.List.{List, [], ◌∷◌}
use native.Mathlib.Omega.{arith}
use borrow.Author.Tests.{ltb-false, le-ltb, not-true}
use lib.Dec.{lit<}
use lib.IntN.{pos, neg_ℤ}
use lib.Signed.{le_z, lt_z}
use Rattle.numbers.proofs.Signed.{le_sums, sums_le, sums_nlt, nlt_sums}
use Rattle.numbers.proofs.Truth.{neither}
use Rattle.base_types.specs.declared.cycle.Cycle.{Cycle}
use Rattle.base_types.specs.Cycle.{highest_cycle, cycle_too_high}
use Rattle.settings.specs.declared.Settings.{Settings}
use Rattle.settings.specs.declared.Range.{Range}
use Rattle.settings.specs.Sheet.{ranges, within, first_outside, first_out_of_range, out_of_range, sync_id_limit, rate_limit}
use Rattle.settings_claims.specs.Sheet.{AllInRange, TypedSettings}
use Rattle.settings_claims.proofs.Sheet.{sheets}
use Rattle.base_types.specs.declared.microtick.SignedMicrotick.{SignedMicrotick}
use Rattle.correction.specs.Terms.{is_outside}
use Rattle.sync_list.specs.Lists.{row_count}
use Rattle.clock.specs.Sound.{cycle_sound, rate_sound}
use Rattle.clock.proofs.SoundLaws.{clauses, sound_by, at_most}
use Rattle.clock_claims.specs.Sound.{CycleAtMostHighest, SoundExactly, NoClockUnsound}
use Rattle.clock_claims.proofs.Lists.{list_good, good_list}

-- ---- settings

none_told : (told : Option ℕ) → is_some told ≡ false → unwrap_or told 0 ≡ 0
none_told None e = refl
none_told (Some number) e = absurd (true≢false e)

-- a walk tells no number below the one that it begins with
told_here : (b : Bool) (rest : Option ℕ) (m n : ℕ) → (rest ≡ Some n → suc m ≤ n) → cond b rest (Some m) ≡ Some n → m ≤ n
told_here true rest m n later e = let l = later e in omega arith
told_here false rest m n later e = let same : m ≡ n = ap (λ (told : Option ℕ). unwrap_or told 0) e in omega arith

told_from : (m : ℕ) (rs : List Range) (vs : List ℕ) (n : ℕ) → first_outside m rs vs ≡ Some n → m ≤ n
unfolding first_outside
told_from m [] vs n e = absurd (false≢true (ap is_some e))
told_from m (r ∷ rs) [] n e = absurd (false≢true (ap is_some e))
told_from m (r ∷ rs) (v ∷ vs) n e = told_here (within r v) (first_outside (suc m) rs vs) m n (told_from (suc m) rs vs n) e

none_of : (told : Option ℕ) → ((n : ℕ) → told ≡ Some n → 1 ≤ n) → unwrap_or told 0 ≡ 0 → is_some told ≡ false
none_of None counted e = refl
none_of (Some number) counted e = absurd (let l = counted number refl in omega arith)

in_range_lem : (s : Settings) → TypedSettings s → out_of_range s ≡ false → AllInRange s
in_range_lem s typed e = (sheets s typed).none.0 (none_told (first_out_of_range s) e)

range_in : (s : Settings) → TypedSettings s → AllInRange s → out_of_range s ≡ false
range_in s typed all = none_of (first_out_of_range s) (told_from 1 ranges s.fields) ((sheets s typed).none.1 all)

-- ---- cycles

cycle_good : (c : Option Cycle) → cycle_sound c ≡ true → CycleAtMostHighest c
cycle_good c e cycle q = ltb-false highest_cycle cycle.0 (not-true (cycle_too_high cycle.0) (sym (ap cycle_sound q) ∙ e))

good_cycle : (c : Option Cycle) → CycleAtMostHighest c → cycle_sound c ≡ true
good_cycle None h = refl
good_cycle (Some cycle) h = ap not (le-ltb highest_cycle cycle.0 (h cycle refl))

-- ---- the stored rate

module _ (rate : SignedMicrotick) (limit : ℕ) where
  rate_good : rate_sound rate limit ≡ true → (le_z (neg_ℤ (pos limit)) rate.0 ≡ true) × (le_z rate.0 (pos limit) ≡ true)
  rate_good e =
      let h = neither (lt_z (pos limit) rate.0) (lt_z rate.0 (neg_ℤ (pos limit))) (not-true (is_outside limit rate.0) e) in (
        sums_le (neg_ℤ (pos limit)) rate.0 (omega (arith, nlt_sums rate.0 (neg_ℤ (pos limit)) h.1)),
        sums_le rate.0 (pos limit) (omega (arith, nlt_sums (pos limit) rate.0 h.0)),
      )

  good_rate : le_z (neg_ℤ (pos limit)) rate.0 ≡ true → le_z rate.0 (pos limit) ≡ true → rate_sound rate limit ≡ true
  good_rate low high =
      let over : lt_z (pos limit) rate.0 ≡ false = sums_nlt (pos limit) rate.0 (omega (arith, le_sums rate.0 (pos limit) high)) in
      let under : lt_z rate.0 (neg_ℤ (pos limit)) ≡ false =
      sums_nlt rate.0 (neg_ℤ (pos limit)) (omega (arith, le_sums (neg_ℤ (pos limit)) rate.0 low)) in
      rw (over, under)

-- ---- the sentence

pub sound_exactly : SoundExactly
sound_exactly c typed = (
  λ e.
      let k = clauses c e in
      let small : sync_id_limit c.settings ≤ row_count = at_most c.settings k.settings 4 (lit< tt) in
      let even = list_good (sync_id_limit c.settings) c.settings.mark c.even typed.even small k.even in
      let odd = list_good (sync_id_limit c.settings) c.settings.mark c.odd typed.odd small k.odd in
      record {
        settings = in_range_lem c.settings typed.settings k.settings;
        opened = cycle_good c.opened k.opened;
        last_closed = cycle_good c.last_closed k.last_closed;
        even = even.0;
        odd = odd.0;
        rate = rate_good c.rate (rate_limit c.settings) k.rate;
        even_rows = even.1;
        odd_rows = odd.1;
      },
  λ s.
      sound_by c
      (record {
        settings = range_in c.settings typed.settings s.settings;
        opened = good_cycle c.opened s.opened;
        last_closed = good_cycle c.last_closed s.last_closed;
        even = good_list (sync_id_limit c.settings) c.settings.mark c.even typed.even s.even s.even_rows;
        odd = good_list (sync_id_limit c.settings) c.settings.mark c.odd typed.odd s.odd s.odd_rows;
        rate = good_rate c.rate (rate_limit c.settings) s.rate.0 s.rate.1;
      }),
)

-- its first fault is field 4, which is at least 2
pub no_clock_unsound : NoClockUnsound
unfolding first_outside
no_clock_unsound = refl
