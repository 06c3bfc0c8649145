-- Slots and frame IDs, in words.
use Prim.Native.Nat.{ℕ, ◌≤◌}
use mathlib.Core.Path.{◌≡◌, ap₂}
use mathlib.Core.Bool.{false, ◌||◌}
use mathlib.Core.Logic.{◌↔◌}
use borrow.Author.Tests.{ltb-false, le-ltb}
use lib.Dec.{ltb}
use Rattle.numbers.proofs.Truth.{neither}
use Rattle.base_types.specs.Slot.{highest_id, not_an_id}

pub id_range : (id : ℕ) → (not_an_id id ≡ false) ↔ ((1 ≤ id) × (id ≤ highest_id))
id_range id = (
  λ e.
      let h = neither (ltb id 1) (ltb highest_id id) e in
      (ltb-false id 1 h.0, ltb-false highest_id id h.1),
  λ h. ap₂ ◌||◌ (le-ltb id 1 h.0) (le-ltb highest_id id h.1),
)
