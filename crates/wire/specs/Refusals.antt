-- The conditions behind the refusals of encoding that are not reading's, each alone (document 02, C-11).
use Rattle.std.specs.Prelude.{ℕ, Bool, ◌||◌, List, ltb, length}
use Rattle.wire.specs.Stream.{shortest_start, longest_start, stream}
use Rattle.wire.specs.Packing.{packed_size}

-- 24: "start length not 1 to 15".
abbrev pub not_a_start_length : ℕ → Bool
not_a_start_length start = ltb start shortest_start || ltb longest_start start

-- 25: "packed output too short".
abbrev pub output_too_short : ℕ → List ℕ → List ℕ → Bool
output_too_short start bytes output = ltb (length output) (packed_size (length (stream start bytes)))
