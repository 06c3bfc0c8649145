-- Bits in the order in which they are sent, most significant first: of a number, of bytes, and back.
use Rattle.std.specs.Prelude.{ℕ, zero, suc, ◌+◌, ◌*◌, ◌/◌, ◌%◌, ◌^◌, ◌<◌, Bool, true, false, List, [], ◌∷◌, ◌++◌, eqb, length, get_or, take, drop}

-- The lowest bit of a number.
abbrev pub odd : ℕ → Bool
odd n = eqb (n % 2) 1

-- A bit as a number.
abbrev pub bit : Bool → ℕ
bit false = 0
bit true = 1

-- The `width` low bits of n, most significant first.
unfoldable pub bits : ℕ → ℕ → List Bool
bits zero n = []
bits (suc width) n = odd (n / 2 ^ width) ∷ bits width n

-- The number whose bits these are.
unfoldable pub number : List Bool → ℕ
number [] = 0
number (b ∷ l) = bit b * 2 ^ length l + number l

-- The bits of bytes, each byte most significant bit first.
unfoldable pub bytes_bits : List ℕ → List Bool
bytes_bits [] = []
bytes_bits (byte ∷ l) = bits 8 byte ++ bytes_bits l

-- The bytes whose bits these are, `count` of them, each of eight bits.
unfoldable pub bytes_of : ℕ → List Bool → List ℕ
bytes_of zero x = []
bytes_of (suc count) x = number (take 8 x) ∷ bytes_of count (drop 8 x)

-- These numbers are bytes: each is below 256. (Past the end of a list `get_or` gives the 0 that stands here.)
abbrev pub AreBytes : List ℕ → Type 0
AreBytes l = (i : ℕ) → get_or l i 0 < 256
