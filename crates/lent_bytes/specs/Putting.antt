-- Numbers in lent bytes, and bytes put behind others.
use Rattle.std.specs.Prelude.{ℕ, ◌+◌, ◌*◌, Bool, ◌&&◌, cond, List, ◌++◌, leb, length, take, drop}
use Rattle.division.specs.Bits.{bits, number, bytes_bits, bytes_of}
use Rattle.lent_bytes.specs.Over.{over}

-- The most bytes of a number.
abbrev pub most_bytes : ℕ
most_bytes = 8

-- The number that bytes make, the most significant first. Of more than eight the first eight make it.
abbrev pub number_in : List ℕ → ℕ
number_in bytes = number (bytes_bits (take most_bytes bytes))

-- The `count` low bytes of a number, laid over the first of others. More than eight, or more than there is room for, are not laid.
abbrev pub number_put : ℕ → ℕ → List ℕ → List ℕ
number_put n count output =
    cond (leb count most_bytes && leb count (length output)) (over (bytes_of count (bits (8 * count) n)) output) output

-- Bytes behind the first `at` of others: there is room for them.
abbrev pub has_room : ℕ → List ℕ → List ℕ → Bool
has_room at bytes output = leb (at + length bytes) (length output)

-- Where they end, and what they leave. Where there is no room none is put.
abbrev pub put_end : ℕ → List ℕ → List ℕ → ℕ
put_end at bytes output = cond (has_room at bytes output) (at + length bytes) at

abbrev pub put_at : ℕ → List ℕ → List ℕ → List ℕ
put_at at bytes output = cond (has_room at bytes output) (take at output ++ over bytes (drop at output)) output
