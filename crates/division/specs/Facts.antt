-- What division gives a checksum, for one width and one polynomial. Every fact is shown once, for all of them
-- (`proofs/FactsLaws.antt`), and cited for each checksum that is in use.
use Rattle.std.specs.Prelude.{ℕ, ◌+◌, ◌%◌, ◌^◌, ◌≤◌, ◌≡◌, Bool, true, List, ◌++◌, length}
use Rattle.std.specs.Int.Bits.{bit_xor}
use Rattle.division.specs.Division.{exor, checksum}
use Rattle.division.specs.Word.{EndsInChecksum}
use Rattle.division.specs.Differing.{differing, first_differing, last_differing, DifferWithin}
use Rattle.division.specs.Distance.{never_apart}

pub record Facts (width polynomial : ℕ) : Type 0 where
  -- One string may be fed after another.
  pub append : (start : ℕ) (m n : List Bool)
      → checksum width polynomial (checksum width polynomial start m) n ≡ checksum width polynomial start (m ++ n)
  -- Linearity: the exclusive or of two registers is the register of the exclusive or.
  pub linear : (s t : ℕ) (m n : List Bool) → length m ≡ length n
      → checksum width polynomial (bit_xor s t) (exor m n) ≡ bit_xor (checksum width polynomial s m) (checksum width polynomial t n)
  -- Different registers stay different under the same string.
  pub injective : (s t : ℕ) (m : List Bool) → checksum width polynomial s m ≡ checksum width polynomial t m
      → s % 2 ^ width ≡ t % 2 ^ width
  -- Parity: two equally long words that end in their own checksum differ in an even number of bits.
  pub even : (start : ℕ) (x y : List Bool) → length x ≡ length y
      → EndsInChecksum width polynomial start x → EndsInChecksum width polynomial start y → differing x y % 2 ≡ 0
  -- Bursts: where such words are different, the last differing place minus the first is at least the width.
  pub burst : (start : ℕ) (x y : List Bool) → length x ≡ length y → (x ≡ y → ⊥)
      → EndsInChecksum width polynomial start x → EndsInChecksum width polynomial start y
      → first_differing x y + width ≤ last_differing x y
  -- So no `width` consecutive places hold all their differences.
  pub window : (start : ℕ) (x y : List Bool) → length x ≡ length y → (x ≡ y → ⊥)
      → EndsInChecksum width polynomial start x → EndsInChecksum width polynomial start y
      → (place : ℕ) → DifferWithin x y place width → ⊥
  -- Distance: where the test says so, such words of at most n bits never differ in exactly c bits.
  pub distance : (n c : ℕ) → never_apart width polynomial n c ≡ true
      → (start : ℕ) (x y : List Bool) → length x ≡ length y → length x ≤ n → (x ≡ y → ⊥)
      → EndsInChecksum width polynomial start x → EndsInChecksum width polynomial start y → differing x y ≡ c → ⊥
