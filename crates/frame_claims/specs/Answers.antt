-- Claims about the answers of `read`, `payload` and `write`, of any that their statements allow. The customer's first condition asks
-- that each takes any number, fields and bytes and answers, or gives a refusal number of 01 in 01's order, and that a refusal changes
-- nothing; 01 asks that a statement determines the answer and all that is lent.
use Rattle.std.specs.Prelude.{ℕ, ◌≡◌, List, [], ◌⊎◌}
use Rattle.refusal.specs.Refusal.{InOrder}
use Rattle.checksum.specs.declared.pair.ChecksumPair.{ChecksumPair}
use Rattle.checksum.specs.Pair.{no_checksums}
use Rattle.header.specs.declared.Fields.{Fields}
use Rattle.frame.specs.Read as read
use Rattle.base_types.specs.declared.channel.Channel.{Channel}
use Rattle.frame.specs.Read.{Reading, ReadSays, ReadOnSays, PayloadSays, PayloadLies}
use Rattle.writing.specs.Write as write
use Rattle.writing.specs.Write.{Writing, WriteSays}

-- ---- any two results that a statement allows are equal

abbrev pub ReadOne : Type 0
ReadOne = (channel : ℕ) (bytes : List ℕ) (r s : Reading) → ReadSays channel bytes r → ReadSays channel bytes s → r ≡ s

-- The same of reading on a channel that is known to be one.
abbrev pub ReadOnOne : Type 0
ReadOnOne = (channel : Channel) (bytes : List ℕ) (r s : Reading) → ReadOnSays channel bytes r → ReadOnSays channel bytes s → r ≡ s

-- The part of a payload, and the place where it lies.
abbrev pub PayloadOne : Type 0
PayloadOne =
    (channel : ℕ) (bytes : List ℕ) (place : ℕ × ℕ) (p q : List ℕ) (at at' : ℕ × ℕ)
    → PayloadSays channel bytes p → PayloadLies channel bytes place at
    → PayloadSays channel bytes q → PayloadLies channel bytes place at'
    → (p ≡ q) × (at ≡ at')

abbrev pub WriteOne : Type 0
WriteOne =
    (channel : ℕ) (fields : Fields) (payload before after after' : List ℕ) (r s : Writing)
    → WriteSays channel fields payload before after r → WriteSays channel fields payload before after' s
    → (r ≡ s) × (after ≡ after')

-- ---- the number is the first of 01's order whose condition holds

abbrev pub ReadInOrder : Type 0
ReadInOrder =
    (channel : ℕ) (bytes : List ℕ) (r : Reading) → ReadSays channel bytes r
    → InOrder (read.refusals channel bytes) (read.told r).number

abbrev pub WriteInOrder : Type 0
WriteInOrder =
    (channel : ℕ) (fields : Fields) (payload before after : List ℕ) (r : Writing)
    → WriteSays channel fields payload before after r
    → InOrder (write.refusals channel fields payload before) (write.told r).number

-- ---- a refusal changes nothing that is lent, and no bytes come back

abbrev pub RefusedUnchanged : Type 0
RefusedUnchanged =
    (channel : ℕ) (fields : Fields) (payload before after : List ℕ) (r : Writing)
    → WriteSays channel fields payload before after r → ((write.told r).number ≡ 0 → ⊥)
    → after ≡ before

abbrev pub RefusedEmpty : Type 0
RefusedEmpty =
    (channel : ℕ) (bytes payload : List ℕ) (r : Reading) → ReadSays channel bytes r → PayloadSays channel bytes payload
    → ((read.told r).number ≡ 0 → ⊥) → payload ≡ []

-- ---- the two checksums that a refusal tells

-- "Refusals 4 and 8" (02, C-18).
abbrev pub OfAChecksum : ℕ → Type 0
OfAChecksum n = (n ≡ 4) ⊎ (n ≡ 8)

-- Beside these two the checksums that are told differ; beside any other number, 0 among them, both are 0.
pub record ToldWith (n : ℕ) (checksums : ChecksumPair) : Type 0 where
  pub differing : OfAChecksum n → checksums.found ≡ checksums.expected → ⊥
  pub none : (OfAChecksum n → ⊥) → checksums ≡ no_checksums

abbrev pub ChecksumsTold : Type 0
ChecksumsTold =
    (channel : ℕ) (bytes : List ℕ) (r : Reading) → ReadSays channel bytes r
    → ToldWith (read.told r).number (read.told r).checksums
