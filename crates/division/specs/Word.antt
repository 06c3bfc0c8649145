-- Words that end in their own checksum.
use Rattle.std.specs.Prelude.{ℕ, ◌≡◌, Bool, List, ◌++◌}
use Rattle.division.specs.Bits.{bits}
use Rattle.division.specs.Division.{checksum}

-- A message with its checksum behind it.
unfoldable pub word : ℕ → ℕ → ℕ → List Bool → List Bool
word width polynomial start message = message ++ bits width (checksum width polynomial start message)

-- These bits are some message with its checksum behind it.
abbrev pub EndsInChecksum : ℕ → ℕ → ℕ → List Bool → Type 0
EndsInChecksum width polynomial start x = (message : List Bool) × (x ≡ word width polynomial start message)
