-- Room in a line.
use Rattle.std.specs.Prelude.{ℕ}

-- Room for the longest number, a space and twenty digits, and for a word of at most eight characters, three numbers and a line feed.
abbrev pub number_room : ℕ
number_room = 21

abbrev pub line_room : ℕ
line_room = 72
