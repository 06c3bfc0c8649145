-- What one read puts into the front stands behind what was read before.
use Prim.Native.Nat.{ℕ, ◌+◌, ◌≤◌}
use mathlib.Core.Path.{◌≡◌, sym, ap, ◌∙◌}
use mathlib.Core.List.{List, ◌++◌}
use lib.ListN.{length, take}
use lib.Seq.{length-take-le, take-append-add, take-append-le}
use borrow.Rule.Slice.PartMut.{put_mid, post_of}

pub read_behind : (size n room : ℕ) (front part : List ℕ) → size ≤ length front → n ≤ length part
    → take (size + n) (put_mid size room front part) ≡ take size front ++ take n part
read_behind size n room front part within fits =
    let rest = part ++ post_of size room front in
    ap (λ (k : ℕ). take (k + n) (take size front ++ rest)) (sym (length-take-le size front within))
    ∙ take-append-add (take size front) rest n
    ∙ ap (λ (x : List ℕ). take size front ++ x) (take-append-le n part (post_of size room front) fits)
