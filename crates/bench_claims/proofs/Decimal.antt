-- The decimal text of a number says that number, in digits, begins with 0 only where it is that alone, and is short.
use Prim.Native.Nat.{ℕ, zero, suc, ◌+◌, ◌*◌, ◌-◌, ◌/◌, ◌%◌, ◌^◌, ◌<◌, ◌≤◌}
use mathlib.Core.Path.{◌≡◌, refl, subst}
use mathlib.Core.List.{List, [], ◌∷◌, ◌++◌}
use native.Mathlib.Nat.{one-le-pow, pow-suc}
use native.Mathlib.Omega.{arith}
use lib.Dec.{ltb}
use lib.ListN.{length, length-append}
use borrow.Author.Tests.{ltb-true, ltb-false, lt-ltb, le-ltb}
use Rattle.numbers.proofs.Walk.{cases}
use Rattle.bench_line.specs.Decimal.{digit, decimal_within, decimal}
use Rattle.bench_claims.specs.Decimal.{value_from, AreDigits, NoLeadingZero, DecimalExactly}

-- ---- one more character behind

value_behind : (before character : ℕ) (text : List ℕ) → value_from before (text ++ (character ∷ [])) ≡ 10 * value_from before text + (character - 48)
unfolding value_from
value_behind before character [] = refl
value_behind before character (c ∷ text) = value_behind (10 * before + (c - 48)) character text

digits_behind : (character : ℕ) (text : List ℕ) → AreDigits text → digit 0 ≤ character → character ≤ digit 9 → AreDigits (text ++ (character ∷ []))
digits_behind character [] d low high = (low, high, tt)
digits_behind character (c ∷ text) d low high = (d.0, d.1, digits_behind character text d.2 low high)

-- ---- a number above nine begins with a digit above 0

-- The first character is not 0.
abbrev Leads : List ℕ → Type 0
Leads [] = ⊥
Leads (character ∷ text) = character ≡ digit 0 → ⊥

leads_behind : (character : ℕ) (text : List ℕ) → Leads text → Leads (text ++ (character ∷ []))
leads_behind character [] l = absurd l
leads_behind character (c ∷ text) l = l

leads_plain : (text : List ℕ) → Leads text → NoLeadingZero text
leads_plain [] l = l
leads_plain (c ∷ text) l = λ e. absurd (l e)

within_leads : (most n : ℕ) → n < most → 0 < n → Leads (decimal_within most n)
unfolding decimal_within
within_leads zero n h p = absurd (omega arith)
within_leads (suc most) n h p =
    let next : 0 < n / 10 → Leads (decimal_within most (n / 10)) = λ q. within_leads most (n / 10) (omega arith) q in
    cases (ltb n 10)
    (λ t. rw t (λ e. omega arith))
    (λ t. rw t (leads_behind (digit (n % 10)) (decimal_within most (n / 10)) (next (let big = ltb-false n 10 t in omega arith))))

-- ---- the text

within_says : (most n : ℕ) → n < most → value_from 0 (decimal_within most n) ≡ n
unfolding decimal_within value_from
within_says zero n h = absurd (omega arith)
within_says (suc most) n h =
    let next : 0 < n / 10 → value_from 0 (decimal_within most (n / 10)) ≡ n / 10 = λ q. within_says most (n / 10) (omega arith) in
    cases (ltb n 10)
    (λ t. rw t (omega arith))
    (λ t.
    let big = ltb-false n 10 t in
    rw (t, value_behind 0 (digit (n % 10)) (decimal_within most (n / 10)), next (omega arith)) (omega arith))

within_digits : (most n : ℕ) → AreDigits (decimal_within most n)
unfolding decimal_within
within_digits zero n = tt
within_digits (suc most) n =
    let next : AreDigits (decimal_within most (n / 10)) = within_digits most (n / 10) in
    cases (ltb n 10)
    (λ t. let small = ltb-true n 10 t in rw t (omega arith, omega arith, tt))
    (λ t. rw t (digits_behind (digit (n % 10)) (decimal_within most (n / 10)) next (omega arith) (omega arith)))

plain : (n : ℕ) → NoLeadingZero (decimal n)
unfolding decimal_within
plain zero = λ e. refl
plain (suc n) = leads_plain (decimal (suc n)) (within_leads (suc (suc n)) (suc n) (omega arith) (omega arith))

pub decimal_exactly : DecimalExactly
decimal_exactly n = record { says = within_says (suc n) n (omega arith); digits = within_digits (suc n) n; plain = plain n }

-- ---- how long it is

-- a number below a power of ten has no more digits than that power has zeros
within_short : (k most n : ℕ) → n < 10 ^ suc k → length (decimal_within most n) ≤ suc k
unfolding decimal_within
within_short zero zero n h = omega arith
within_short (suc k) zero n h = omega arith
within_short zero (suc most) n h = rw (lt-ltb n 10 h) (omega arith)
within_short (suc k) (suc most) n h =
    let wide : n < 10 ^ suc k * 10 = subst (λ (x : ℕ). n < x) (pow-suc 10 (suc k)) h in
    let next : length (decimal_within most (n / 10)) ≤ suc k = within_short k most (n / 10) (omega arith) in
    let joined = length-append (decimal_within most (n / 10)) (digit (n % 10) ∷ []) in
    cases (ltb n 10)
    (λ t. rw t (omega arith))
    (λ t. rw (t, joined) (omega arith))

pub decimal_short : (k n : ℕ) → n < 10 ^ suc k → length (decimal n) ≤ suc k
decimal_short k n h = within_short k (suc n) n h

-- one that is no smaller has more
within_long : (k most n : ℕ) → 10 ^ k ≤ n → n < most → k < length (decimal_within most n)
unfolding decimal_within
within_long k zero n low high = absurd (omega arith)
within_long zero (suc most) n low high =
    let joined = length-append (decimal_within most (n / 10)) (digit (n % 10) ∷ []) in
    cases (ltb n 10) (λ t. rw t (omega arith)) (λ t. rw (t, joined) (omega arith))
within_long (suc k) (suc most) n low high =
    let one : 1 ≤ 10 ^ k = one-le-pow k 10 (omega arith) in
    let above : 10 ^ k * 10 ≤ n = subst (λ (x : ℕ). x ≤ n) (pow-suc 10 k) low in
    let next : k < length (decimal_within most (n / 10)) = within_long k most (n / 10) (omega arith) (omega arith) in
    let joined = length-append (decimal_within most (n / 10)) (digit (n % 10) ∷ []) in
    rw (le-ltb n 10 (omega arith), joined) (omega arith)

pub decimal_long : (k n : ℕ) → 10 ^ k ≤ n → k < length (decimal n)
decimal_long k n h = within_long k (suc n) n h (omega arith)
