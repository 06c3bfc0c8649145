-- What is left when k are discarded at each end.
use Prim.Native.Nat.{ℕ, ◌+◌, ◌-◌, ◌<◌, ◌≤◌}
use mathlib.Core.Path.{◌≡◌}
use mathlib.Core.List.{List}
use native.Mathlib.Omega.{arith}
use borrow.Author.Tests.{leb-false}
use lib.Dec.{leb}
use lib.IntN.{ℤ, pos, ◌+ℤ◌}
use lib.ListN.{length, get_or, take}
use lib.Seq.{get_or-take, length-take-le}
use Rattle.numbers.proofs.Walk.{cases}
use Rattle.midpoint.specs.Midpoint.{half, sort, discarded, midpoint}
use Rattle.midpoint.proofs.SortLaws.{length-sort}

-- something is left
pub discarded_fewer : (n : ℕ) → 0 < n → discarded n + discarded n < n
discarded_fewer n h =
    cases (leb n 2) (λ e. rw e h)
    (λ e. cases (leb n 7) (λ g. rw (e, g) (omega (arith, leb-false n 2 e))) (λ g. rw (e, g) (omega (arith, leb-false n 7 g))))

-- the two ends that are left, read from an array whose first n numbers are the sorted ones
pub midpoint_of_sorted : (values sorted : List ℤ) (n k : ℕ)
    → n ≤ length values
    → 0 < n
    → take n sorted ≡ sort (take n values)
    → k ≡ discarded n
    → half (get_or sorted k (pos 0) +ℤ get_or sorted (n - 1 - k) (pos 0)) ≡ midpoint (take n values)
unfolding midpoint
midpoint_of_sorted values sorted n k f h e q =
    let d = discarded_fewer n h in
    let a : get_or (take n sorted) k (pos 0) ≡ get_or sorted k (pos 0) = get_or-take n sorted k (pos 0) (omega arith) in
    let b : get_or (take n sorted) (n - 1 - k) (pos 0) ≡ get_or sorted (n - 1 - k) (pos 0) = get_or-take n sorted (n - 1 - k) (pos 0) (omega arith) in
    rw (length-sort, length-take-le n values f, ← e, ← q, a, b)
