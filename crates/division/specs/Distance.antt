-- A test that computes whether two words of at most n bits can differ in exactly c of them.
use Rattle.std.specs.Prelude.{ℕ, zero, suc, Bool, true, false, not, ◌&&◌, List, eqb}
use Rattle.division.specs.Bits.{bits}
use Rattle.division.specs.Differing.{ones}
use Rattle.division.specs.Division.{step}

-- No string of at most n bits, of which c are 1, brings this register to zero.
unfoldable pub never_zero : List Bool → ℕ → ℕ → List Bool → Bool
never_zero polynomial zero zero register = not (eqb (ones register) 0)
never_zero polynomial zero (suc c) register = true
never_zero polynomial (suc n) zero register = not (eqb (ones register) 0)
never_zero polynomial (suc n) (suc c) register =
    never_zero polynomial n c (step polynomial register true) && never_zero polynomial n (suc c) (step polynomial register false)

-- No two different words of at most n bits that end in their own checksum differ in exactly c bits. (Their difference brings a
-- register of zeros to zero; up to its first 1 nothing happens, and that 1 leaves the polynomial in the register.)
unfoldable pub never_apart : ℕ → ℕ → ℕ → ℕ → Bool
never_apart width polynomial n zero = true
never_apart width polynomial zero (suc c) = true
never_apart width polynomial (suc n) (suc c) = never_zero (bits width polynomial) n c (bits width polynomial)
