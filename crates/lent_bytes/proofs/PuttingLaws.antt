-- Bytes put behind others.
use Prim.Native.Nat.{ℕ, ◌+◌, ◌≤◌}
use mathlib.Core.Path.{◌≡◌, sym, ap₂, ◌∙◌}
use mathlib.Core.List.{List, ◌++◌}
use borrow.Author.Tests.{le-leb}
use borrow.Rule.Slice.PartMut.{put_mid}
use lib.ListN.{length, take, drop}
use Rattle.lent_bytes.specs.Over.{over}
use Rattle.lent_bytes.specs.Putting.{put_at}

module _ (at : ℕ) (bytes output : List ℕ) where
  -- where there is room
  at_put : at + length bytes ≤ length output → put_at at bytes output ≡ take at output ++ over bytes (drop at output)
  at_put room = rw (le-leb (at + length bytes) (length output) room)

  -- as many bytes of the output were lent as there are, and came back as they are
  pub copied_at : (n : ℕ) (part : List ℕ) → n ≡ length bytes → at + length bytes ≤ length output → part ≡ bytes
      → put_mid at n output part ≡ put_at at bytes output
  unfolding over
  copied_at n part e room p = ap₂ (λ (x : List ℕ) (k : ℕ). take at output ++ (x ++ drop k (drop at output))) p e ∙ sym (at_put room)
