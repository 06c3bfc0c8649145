-- Null frames in words: what the test of refusal 26 says.
use Prim.Native.Nat.{ℕ, zero, suc}
use mathlib.Core.Path.{◌≡◌, refl, sym}
use mathlib.Core.Bool.{Bool, true, false, false≢true, not}
use mathlib.Core.List.{List, [], ◌∷◌}
use mathlib.Core.Logic.{⊎_elim}
use borrow.Author.Tests.{eqb-true, eqb-false, not-true, not-false}
use lib.Dec.{eqb}
use lib.ListN.{get_or}
use Rattle.numbers.proofs.Truth.{either_true, neither}
use Rattle.numbers.proofs.Walk.{cases}
use Rattle.writing.specs.Refusals.{some_not_zero, null_frame_not_empty}
use Rattle.frame_claims.specs.Exact.{EmptyIfNull, NullNotEmpty}

all_zero : (bytes : List ℕ) → some_not_zero bytes ≡ false → (i : ℕ) → get_or bytes i 0 ≡ 0
all_zero [] e i = refl
all_zero (byte ∷ bytes) e zero = eqb-true byte 0 (not-false (eqb byte 0) (neither (not (eqb byte 0)) (some_not_zero bytes) e).0)
all_zero (byte ∷ bytes) e (suc i) = all_zero bytes (neither (not (eqb byte 0)) (some_not_zero bytes) e).1 i

one_not_zero : (bytes : List ℕ) → some_not_zero bytes ≡ true → (i : ℕ) × (get_or bytes i 0 ≡ 0 → ⊥)
one_not_zero [] e = absurd (false≢true e)
one_not_zero (byte ∷ bytes) e =
    ⊎_elim (λ h. (0, eqb-false byte 0 (not-true (eqb byte 0) h)))
    (λ h. let behind = one_not_zero bytes h in (suc behind.0, behind.1))
    (either_true (not (eqb byte 0)) (some_not_zero bytes) e)

pub empty_by : (bit : Bool) (payload : List ℕ) → null_frame_not_empty bit payload ≡ false → EmptyIfNull bit payload
empty_by true payload e null = absurd (false≢true (sym null))
empty_by false payload e null = all_zero payload e

pub not_empty_by : (bit : Bool) (payload : List ℕ) → null_frame_not_empty bit payload ≡ true → NullNotEmpty bit payload
not_empty_by true payload e = absurd (false≢true e)
not_empty_by false payload e = let one = one_not_zero payload e in (refl, one.0, one.1)

pub by_empty : (bit : Bool) (payload : List ℕ) → EmptyIfNull bit payload → null_frame_not_empty bit payload ≡ false
by_empty bit payload empty =
    cases (null_frame_not_empty bit payload) (λ t. let n = not_empty_by bit payload t in absurd (n.2 (empty n.0 n.1))) (λ f. f)

pub by_not_empty : (bit : Bool) (payload : List ℕ) → NullNotEmpty bit payload → null_frame_not_empty bit payload ≡ true
by_not_empty bit payload n =
    cases (null_frame_not_empty bit payload) (λ t. t) (λ f. absurd (n.2 (empty_by bit payload f n.0 n.1)))
