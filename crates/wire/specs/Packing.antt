-- Bits packed into bytes (document 02, C-11): "packed eight to a byte, first bit highest, spare bits of the last byte 0".
use Rattle.std.specs.Prelude.{ℕ, ◌+◌, ◌*◌, ◌-◌, ◌/◌, Bool, List, ◌++◌, length, replicate}
use Rattle.division.specs.Bits.{bytes_of}
use Rattle.header.specs.Layout.{longest_frame}
use Rattle.wire.specs.Stream.{low, longest_start}

-- How many bytes so many bits take: one for each eight, and one more where some are left.
abbrev pub packed_size : ℕ → ℕ
packed_size count = (count + 7) / 8

-- How many bits of the last byte are spare.
abbrev pub spare_bits : ℕ → ℕ
spare_bits count = 8 * packed_size count - count

unfoldable pub packed : List Bool → List ℕ
packed l = bytes_of (packed_size (length l)) (l ++ replicate (spare_bits (length l)) low)

-- How many bytes the longest stream takes: "For n bytes and t start bits that is t + 10n + 3 bits".
abbrev pub most_packed : ℕ
most_packed = packed_size (longest_start + 10 * longest_frame + 3)
