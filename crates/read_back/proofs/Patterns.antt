-- Patterns of changed samples: parts of those that are harmless, and tests of all of them by computation.
use Prim.Native.Nat.{ℕ, zero, suc, ◌-◌, ◌<◌}
use mathlib.Core.Path.{◌≡◌, refl, sym, ap, ◌∙◌}
use mathlib.Core.Bool.{Bool, true, false, false≢true, not, ◌&&◌, ◌||◌, cond}
use mathlib.Core.List.{List, [], ◌∷◌}
use native.Mathlib.Omega.{arith}
use lib.Dec.{eqb}
use lib.ListN.{length, get_or}
use Rattle.numbers.proofs.Truth.{both_true}
use Rattle.read_back.specs.Disturbed.{sparse}

-- ---- which samples are changed, by their numbers

-- As `sparse 3`, or, where it is to be exact, none at all.
unfoldable pub calm : Bool → ℕ → List Bool → Bool
calm exact free [] = true
calm exact free (false ∷ l) = calm exact (free - 1) l
calm exact free (true ∷ l) = (not exact && eqb free 0) && calm exact 3 l

abbrev pub Flips : Type 0
Flips = ℕ → Bool

unfoldable pub first_of : ℕ → Flips → List Bool
first_of zero f = []
first_of (suc n) f = f 0 ∷ first_of n (λ k. f (suc k))

pub record Calm (exact : Bool) (f : Flips) : Type 0 where
  pub first : (n : ℕ) → calm exact 0 (first_of n f) ≡ true

weaker : (exact : Bool) (l : List Bool) (k : ℕ) → calm exact k l ≡ true → calm exact 0 l ≡ true
unfolding calm
weaker exact [] k e = refl
weaker exact (false ∷ l) k e = weaker exact l (k - 1) e
weaker true (true ∷ l) k e = e
weaker false (true ∷ l) k e = (both_true (eqb k 0) (calm false 3 l) e).1

behind : (exact x : Bool) (l : List Bool) → calm exact 0 (x ∷ l) ≡ true → calm exact 0 l ≡ true
unfolding calm
behind exact false l e = e
behind exact true l e = weaker exact l 3 (both_true (not exact && eqb 0 0) (calm exact 3 l) e).1

calm_next : {exact : Bool} {f : Flips} → Calm exact f → Calm exact (λ n. f (suc n))
unfolding first_of
calm_next {exact} {f} c = record { first = (λ n. behind exact (f 0) (first_of n (λ k. f (suc k))) (c.first (suc n))) }

calm_next4 : {exact : Bool} {f : Flips} → Calm exact f → Calm exact (λ n. f (suc (suc (suc (suc n)))))
calm_next4 c = calm_next (calm_next (calm_next (calm_next c)))

-- Eight samples later.
abbrev pub next8 : Flips → Flips
next8 f n = f (suc (suc (suc (suc (suc (suc (suc (suc n))))))))

pub calm_next8 : {exact : Bool} {f : Flips} → Calm exact f → Calm exact (next8 f)
calm_next8 c = calm_next4 (calm_next4 c)

-- twelve later
pub calm_next12 : {exact : Bool} {f : Flips} → Calm exact f → Calm exact (λ n. next8 f (suc (suc (suc (suc n)))))
calm_next12 {exact} {f} c = calm_next4 (calm_next8 {f = f} c)

-- ---- from a list

abbrev pub flip_at : List Bool → Flips
flip_at l n = get_or l n false

sparse_calm : (n k : ℕ) (l : List Bool) → sparse 3 k l ≡ true → calm false k (first_of n (flip_at l)) ≡ true
unfolding sparse calm first_of
sparse_calm zero k l e = refl
sparse_calm (suc n) k [] e = sparse_calm n (k - 1) [] refl
sparse_calm (suc n) k (false ∷ l) e = sparse_calm n (k - 1) l e
sparse_calm (suc n) k (true ∷ l) e =
    let h = both_true (eqb k 0) (sparse 3 3 l) e in
    ap (λ (b : Bool). b && calm false 3 (first_of n (flip_at l))) h.0 ∙ sparse_calm n 3 l h.1

pub calm_list : (l : List Bool) → sparse 3 0 l ≡ true → Calm false (flip_at l)
calm_list l e = record { first = (λ n. sparse_calm n 0 l e) }

none_calm : (n k : ℕ) → calm true k (first_of n (λ i. false)) ≡ true
unfolding calm first_of
none_calm zero k = refl
none_calm (suc n) k = none_calm n (k - 1)

pub calm_none : Calm true (λ i. false)
calm_none = record { first = (λ n. none_calm n 0) }

-- ---- tests of all, and what they say

unfoldable pub all : Bool → ℕ → ℕ → (List Bool → Bool) → Bool
all exact zero free f = f []
all exact (suc n) free f =
    all exact n (free - 1) (λ (l : List Bool). f (false ∷ l))
    && cond (not exact && eqb free 0) (all exact n 3 (λ (l : List Bool). f (true ∷ l))) true

pub all_says : (l : List Bool) (exact : Bool) (free : ℕ) (f : List Bool → Bool)
    → all exact (length l) free f ≡ true → calm exact free l ≡ true → f l ≡ true
unfolding all calm
all_says [] exact free f e c = e
all_says (false ∷ l) exact free f e c =
    let g : List Bool → Bool = λ m. f (false ∷ m) in
    all_says l exact (free - 1) g (both_true (all exact (length l) (free - 1) g) _ e).0 c
all_says (true ∷ l) exact free f e c =
    let p = both_true (not exact && eqb free 0) (calm exact 3 l) c in
    let g : List Bool → Bool = λ m. f (true ∷ m) in
    let rest = all exact (length l) 3 g in
    let q = both_true (all exact (length l) (free - 1) (λ (m : List Bool). f (false ∷ m))) (cond (not exact && eqb free 0) rest true) e in
    all_says l exact 3 g (ap (λ (b : Bool). cond b rest true) (sym p.0) ∙ q.1) p.1

unfoldable pub each : (Bool → Bool) → Bool
each f = f true && f false

pub each_says : (f : Bool → Bool) → each f ≡ true → (b : Bool) → f b ≡ true
unfolding each
each_says f e true = (both_true (f true) (f false) e).0
each_says f e false = (both_true (f true) (f false) e).1

unfoldable pub below : ℕ → (ℕ → Bool) → Bool
below zero f = true
below (suc n) f = f 0 && below n (λ k. f (suc k))

pub below_says : (n : ℕ) (f : ℕ → Bool) → below n f ≡ true → (k : ℕ) → k < n → f k ≡ true
unfolding below
below_says zero f e k h = absurd (omega arith)
below_says (suc n) f e zero h = (both_true (f 0) _ e).0
below_says (suc n) f e (suc k) h = below_says n (λ i. f (suc i)) (both_true (f 0) _ e).1 k (omega arith)

-- a test under a condition
pub under : (a b : Bool) → not a || b ≡ true → a ≡ true → b ≡ true
under true b e h = e
under false b e h = absurd (false≢true h)
