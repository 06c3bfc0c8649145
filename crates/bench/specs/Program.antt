-- What the bench program writes for what it has read (01, "Numbers to check against").
use Rattle.std.specs.Prelude.{ℕ, ◌≡◌, List, take}
use Rattle.bench_line.specs.Line.{front, line_of}

-- What was read is the front of the input: all of it, or the first bytes of a longer one. What is written is the line of the whole
-- input.
abbrev pub Answers : List ℕ → List ℕ → Type 0
Answers read written = (input : List ℕ) → take front input ≡ read → written ≡ line_of input
