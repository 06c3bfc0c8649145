-- What a sound clock state gives: its clauses apart, and numbers that are small enough.
use Prim.Native.Nat.{ℕ, zero, suc, ◌-◌, ◌≤◌, ◌<◌}
use mathlib.Core.Path.{◌≡◌, ap}
use mathlib.Core.Bool.{true, false, true≢false, not}
use Rattle.std.specs.Prelude.{is_some}
use mathlib.Core.List.{List, [], ◌∷◌}
use native.Mathlib.Omega.{arith}
use borrow.Author.Tests.{leb-true, le-leb, not-true}
use lib.Dec.{leb}
use lib.IntN.{ℤ, pos, neg_ℤ}
use lib.ListN.{get_or, length}
use lib.Signed.{lt_z}
use Rattle.numbers.proofs.Signed.{up_neg, dn_neg, one_sided, nlt_sums, sums_nlt}
use Rattle.numbers.proofs.Truth.{both_true, true_both, neither}
use Rattle.numbers.proofs.Walk.{cases}
use Rattle.midpoint.proofs.RangeLaws.{Near}
use Rattle.settings.specs.declared.Range.{Range}
use Rattle.settings.specs.declared.Mark.{Mark}
use Rattle.settings.specs.declared.Settings.{Settings}
use Rattle.settings.specs.Sheet.{field, ◌to◌, ranges, within, first_outside, out_of_range, sync_id_limit, rate_limit}
use Rattle.correction.specs.Terms.{is_outside}
use Rattle.sync_list.specs.declared.list.SyncList.{SyncList}
use Rattle.sync_list.specs.Lists.{listed, ids_of, none_twice}
use Rattle.list_soundness.specs.Sound.{rows_sound, all_marked, list_sound}
use Rattle.clock.specs.declared.state.Clock.{Clock}
use Rattle.clock.specs.Sound.{cycle_sound, rate_sound, sound}

-- ---- the clauses

pub record Clauses (c : Clock) : Type 0 where
  pub settings : out_of_range c.settings ≡ false
  pub opened : cycle_sound c.opened ≡ true
  pub last_closed : cycle_sound c.last_closed ≡ true
  pub even : list_sound (sync_id_limit c.settings) c.settings.mark c.even ≡ true
  pub odd : list_sound (sync_id_limit c.settings) c.settings.mark c.odd ≡ true
  pub rate : rate_sound c.rate (rate_limit c.settings) ≡ true

pub clauses : (c : Clock) → sound c ≡ true → Clauses c
clauses c e =
    let h₁ = both_true (not (out_of_range c.settings)) _ e in
    let h₂ = both_true (cycle_sound c.opened) _ h₁.1 in
    let h₃ = both_true (cycle_sound c.last_closed) _ h₂.1 in
    let h₄ = both_true (list_sound (sync_id_limit c.settings) c.settings.mark c.even) _ h₃.1 in
    let h₅ = both_true (list_sound (sync_id_limit c.settings) c.settings.mark c.odd) _ h₄.1 in
    record {
      settings = not-true (out_of_range c.settings) h₁.0;
      opened = h₂.0;
      last_closed = h₃.0;
      even = h₄.0;
      odd = h₅.0;
      rate = h₅.1;
    }

pub sound_by : (c : Clock) → Clauses c → sound c ≡ true
sound_by c k =
    true_both (not (out_of_range c.settings)) _ (ap not k.settings)
    (true_both (cycle_sound c.opened) _ k.opened
    (true_both (cycle_sound c.last_closed) _ k.last_closed
    (true_both (list_sound (sync_id_limit c.settings) c.settings.mark c.even) _ k.even
    (true_both (list_sound (sync_id_limit c.settings) c.settings.mark c.odd) _ k.odd k.rate))))

-- ---- a field of a sheet in range is at most its highest value

abbrev pub highest : ℕ → ℕ
highest number = (get_or ranges (number - 1) (0 to 0)).highest

at_most_highest : (n : ℕ) (rs : List Range) (values : List ℕ) (i : ℕ) → is_some (first_outside n rs values) ≡ false → i < length rs
    → get_or values i 0 ≤ (get_or rs i (0 to 0)).highest
unfolding first_outside
at_most_highest n [] values i e h = absurd (omega arith)
at_most_highest n (r ∷ rs) [] i e h = omega arith
at_most_highest n (r ∷ rs) (value ∷ values) zero e h =
    cases (within r value)
    (λ t. leb-true value r.highest (both_true (leb r.lowest value) (leb value r.highest) t).1)
    (λ t. absurd (true≢false (rw t at e)))
at_most_highest n (r ∷ rs) (value ∷ values) (suc i) e h =
    let rest : is_some (first_outside (suc n) rs values) ≡ false → get_or values i 0 ≤ (get_or rs i (0 to 0)).highest =
    λ q. at_most_highest (suc n) rs values i q (omega arith) in
    cases (within r value)
    (λ t. rest (rw t at e))
    (λ t. absurd (true≢false (rw t at e)))

pub at_most : (s : Settings) → out_of_range s ≡ false → (number : ℕ) → number - 1 < length ranges → field number s ≤ highest number
at_most s e number h = at_most_highest 1 ranges s.fields (number - 1) e h

-- ---- lists

-- The clauses of a list, apart.
pub record ListClauses (limit : ℕ) (mark : Mark) (l : SyncList) : Type 0 where
  pub few : l.count ≤ limit
  pub rows : rows_sound (listed l) ≡ true
  pub ids : none_twice (ids_of (listed l)) ≡ true
  pub marks : all_marked mark (listed l) ≡ true

module _ (limit : ℕ) (mark : Mark) (l : SyncList) where
  pub list_clauses : list_sound limit mark l ≡ true → ListClauses limit mark l
  list_clauses e =
      let h₁ = both_true (leb l.count limit) _ e in
      let h₂ = both_true (rows_sound (listed l)) _ h₁.1 in
      let h₃ = both_true (none_twice (ids_of (listed l))) _ h₂.1 in
      record { few = leb-true l.count limit h₁.0; rows = h₂.0; ids = h₃.0; marks = h₃.1 }

  pub list_sound_by : ListClauses limit mark l → list_sound limit mark l ≡ true
  list_sound_by k =
      true_both (leb l.count limit) _ (le-leb l.count limit k.few)
      (true_both (rows_sound (listed l)) _ k.rows (true_both (none_twice (ids_of (listed l))) _ k.ids k.marks))

-- ---- a term that is not outside its limit

pub not_outside : (limit : ℕ) (x : ℤ) → is_outside limit x ≡ false → Near limit x
not_outside limit x e =
    let h = neither (lt_z (pos limit) x) (lt_z x (neg_ℤ (pos limit))) e in
    let high = nlt_sums (pos limit) x h.0 in
    let low = nlt_sums x (neg_ℤ (pos limit)) h.1 in
    let side = one_sided x in
    (omega (arith, up_neg (pos limit), dn_neg (pos limit)), omega (arith, up_neg (pos limit), dn_neg (pos limit)))

pub near_inside : (limit : ℕ) (x : ℤ) → Near limit x → is_outside limit x ≡ false
near_inside limit x n =
    let high : lt_z (pos limit) x ≡ false = sums_nlt (pos limit) x (omega (arith, n.0)) in
    let low : lt_z x (neg_ℤ (pos limit)) ≡ false = sums_nlt x (neg_ℤ (pos limit)) (omega (arith, n.1, up_neg (pos limit), dn_neg (pos limit))) in
    rw (high, low)
