-- The bits that are sent for a frame (document 02, C-11; 002, section 3.2.1.1), in the order in which they are sent.
use Rattle.std.specs.Prelude.{ℕ, Bool, true, false, List, [], ◌∷◌, ◌++◌, replicate}
use Rattle.division.specs.Bits.{bits}

abbrev pub low : Bool
low = false

abbrev pub high : Bool
high = true

-- "before each byte a high and a low bit, the byte most significant bit first".
unfoldable pub coded : List ℕ → List Bool
coded [] = []
coded (byte ∷ bytes) = high ∷ low ∷ (bits 8 byte ++ coded bytes)

-- "a transmission start sequence of 1 to 15 low bits".
abbrev pub shortest_start : ℕ
shortest_start = 1

abbrev pub longest_start : ℕ
longest_start = 15

-- These low bits, as many as the start length says, "one high frame start bit", the bytes, "at the end a low and a high bit".
unfoldable pub stream : ℕ → List ℕ → List Bool
stream start bytes = replicate start low ++ (high ∷ (coded bytes ++ (low ∷ high ∷ [])))
