-- Claims about the bench program's line, of any result that the statement of `bench_line::line` allows and of the rule that it cites.
use Rattle.std.specs.Prelude.{ℕ, ◌-◌, ◌≤◌, ◌<◌, ◌≡◌, cond, List, [], ◌∷◌, length, take}
use Rattle.header.specs.Layout.{longest_frame}
use Rattle.base_types.specs.Channel.{not_a_channel}
use Rattle.checksum.specs.Pair.{no_checksums}
use Rattle.bench_line.specs.Line.{refused_line, line_of, front, longest, LineSays}

-- Any two results that the statement allows are equal: the size and the whole output.
abbrev pub LineOne : Type 0
LineOne =
    (input before after after' : List ℕ) (size size' : ℕ)
    → LineSays input before after size → LineSays input before after' size'
    → (size ≡ size') × (after ≡ after')

-- "No input counts as 1."
abbrev pub NoInput : Type 0
NoInput = line_of [] ≡ refused_line 1 no_checksums

-- "More than 263 input bytes: the channel is tested first, then refused 3."
abbrev pub TooLong : Type 0
TooLong =
    (channel : ℕ) (bytes : List ℕ) → longest_frame < length bytes → line_of (channel ∷ bytes) ≡ refused_line (cond (not_a_channel channel) 1 3) no_checksums

-- So what lies behind the front changes no line, and a program may leave it unread.
abbrev pub FrontDecides : Type 0
FrontDecides = (input : List ℕ) → line_of (take front input) ≡ line_of input

-- The longest line is `refused 8` with two checksums of eight digits and its line feed.
abbrev pub WithinLongest : Type 0
WithinLongest = (input : List ℕ) → length (line_of input) ≤ longest

-- Neither number can be smaller: some input is told apart by the last byte of its front, and some line has that many bytes.
abbrev pub FrontExact : Type 0
FrontExact = (input : List ℕ) × (line_of (take (front - 1) input) ≡ line_of input → ⊥)

abbrev pub LongestExact : Type 0
LongestExact = (input : List ℕ) × (length (line_of input) ≡ longest)
