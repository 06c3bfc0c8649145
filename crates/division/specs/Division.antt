-- Division of a message by a polynomial, bit by bit, register shifted left, no final inversion: the pseudo-code of document 002,
-- section 4.5.1, for any width and any polynomial. A register is a bit string, most significant bit first, and so is the
-- polynomial without its top term; the width is their length.
use Rattle.std.specs.Prelude.{ℕ, ◌^◌, ◌<◌, ◌≡◌, Bool, true, false, not, ◌&&◌, List, [], ◌∷◌, ◌++◌}
use Rattle.division.specs.Bits.{bits, number}

infixl 40 ◌⊕◌
-- Exclusive or of two bits (002's EXOR).
abbrev pub ◌⊕◌ : Bool → Bool → Bool
false ⊕ b = b
true ⊕ b = not b

-- Exclusive or of two strings, place by place.
unfoldable pub exor : List Bool → List Bool → List Bool
exor [] y = []
exor (a ∷ x) [] = []
exor (a ∷ x) (b ∷ y) = (a ⊕ b) ∷ exor x y

-- The string if the bit is 1, as many zeros if it is 0.
unfoldable pub only_if : Bool → List Bool → List Bool
only_if b [] = []
only_if b (a ∷ x) = (b && a) ∷ only_if b x

-- One turn of 002's loop. vCrcNext is the next bit EXOR the register's top bit; the register is shifted left by one bit, and
-- its last bit is 0; if vCrcNext, the register is EXORed with the polynomial.
unfoldable pub step : List Bool → List Bool → Bool → List Bool
step polynomial [] next = []
step polynomial (top ∷ rest) next = exor (rest ++ (false ∷ [])) (only_if (next ⊕ top) polynomial)

-- The register after a message has been fed into it, first bit first.
unfoldable pub feed : List Bool → List Bool → List Bool → List Bool
feed polynomial register [] = register
feed polynomial register (next ∷ message) = feed polynomial (step polynomial register next) message

-- The checksum of a message, with the width, the polynomial without its top term and the start value as numbers.
unfoldable pub checksum : ℕ → ℕ → ℕ → List Bool → ℕ
checksum width polynomial start message = number (feed (bits width polynomial) (bits width start) message)

-- What a program's register r is, as a number, once a message has been fed into it: the checksum so far, within the width.
pub record Fed (width polynomial start : ℕ) (message : List Bool) (r : ℕ) : Type 0 where
  pub value : r ≡ checksum width polynomial start message
  pub small : r < 2 ^ width
