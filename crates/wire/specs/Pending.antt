-- The stream ten bits at a time, as the code takes it. Each byte makes ten bits with the two before it, and so does the end with eight low
-- bits behind it, of which the last byte's spare ones are some.
use Rattle.std.specs.Prelude.{ℕ, ◌+◌, ◌≤◌, ◌≡◌, Bool, List, [], ◌∷◌, ◌++◌, length, drop}
use Rattle.division.specs.Bits.{bits}
use Rattle.wire.specs.declared.packing.Pending.{Pending}

-- The numbers of these ten bits: 1 0 before a byte's eight, and 0 1 before eight low ones.
unfoldable pub tens : List ℕ → List ℕ
tens [] = 256 ∷ []
tens (byte ∷ bytes) = (512 + byte) ∷ tens bytes

-- Their bits.
unfoldable pub ten_bits : List ℕ → List Bool
ten_bits [] = []
ten_bits (n ∷ l) = bits 10 n ++ ten_bits l

-- The bits that are still to be written: those that are held, and all that have not been taken.
abbrev pub to_come : Pending → List ℕ → List Bool
to_come p bytes = bits p.count p.held ++ ten_bits (drop p.taken (tens bytes))

-- Bits were taken, so that a byte can be written: what is still to be written is the same.
pub record Filled (before : Pending) (bytes : List ℕ) (after : Pending) : Type 0 where
  pub same : to_come after bytes ≡ to_come before bytes
  pub enough : 8 ≤ after.count
  pub few : after.count ≤ 17
  pub taken : after.taken ≤ length (tens bytes)
