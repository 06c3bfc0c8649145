-- The line of the bench program: "The bench program reads a channel byte and frame bytes and writes one line".
use Rattle.std.specs.Prelude.{ℕ, ◌+◌, ◌≡◌, Bool, cond, List, [], ◌∷◌, ◌++◌, length, ltb}
use Rattle.header.specs.Layout.{longest_frame}
use Rattle.refusal.specs.Refusal.{if_accepted}
use Rattle.checksum.specs.declared.pair.ChecksumPair.{ChecksumPair}
use Rattle.header.specs.declared.Header.{Header}
use Rattle.frame.specs.Read.{Told, Reading, told, refused, tells_checksums, rule}
use Rattle.lent_bytes.specs.Over.{over}
use Rattle.bench_line.specs.Decimal.{decimal}

-- ---- the input

-- What is right to say of an input: what reading says of the bytes behind the first, on the channel that the first one names. "No input
-- counts as 1."
abbrev pub read_input : List ℕ → Told
read_input [] = refused 1
read_input (channel ∷ bytes) = rule channel bytes

-- How many bytes of an input tell its line: the channel byte, the longest frame, and one more ("more than 263 input
-- bytes").
abbrev pub front : ℕ
front = 1 + longest_frame + 1

-- ---- the line

-- The words, as the codes of their characters.
abbrev pub accepted_word : List ℕ
accepted_word = 97 ∷ 99 ∷ 99 ∷ 101 ∷ 112 ∷ 116 ∷ 101 ∷ 100 ∷ []

abbrev pub refused_word : List ℕ
refused_word = 114 ∷ 101 ∷ 102 ∷ 117 ∷ 115 ∷ 101 ∷ 100 ∷ []

-- A space with a number behind it, and the line feed.
abbrev pub behind_space : ℕ → List ℕ
behind_space n = 32 ∷ decimal n

abbrev pub line_feed : List ℕ
line_feed = 10 ∷ []

-- "accepted ID CYCLE WORDS"
abbrev pub accepted_line : Header → List ℕ
accepted_line h = accepted_word ++ behind_space h.id.0 ++ behind_space h.cycle.0 ++ behind_space h.words ++ line_feed

-- "refused N FOUND EXPECTED in decimal for these two only" (02, C-18), which are 4 and 8; "refused N" for any other.
abbrev pub behind_number : ℕ → ChecksumPair → List ℕ
behind_number n checksums = cond (tells_checksums n) (behind_space checksums.found ++ behind_space checksums.expected) []

abbrev pub refused_line : ℕ → ChecksumPair → List ℕ
refused_line n checksums = refused_word ++ behind_space n ++ behind_number n checksums ++ line_feed

abbrev pub line_by : Told → List ℕ
line_by t = if_accepted t.number (accepted_line t.header) (refused_line t.number t.checksums)

abbrev pub line_of : List ℕ → List ℕ
line_of input = line_by (read_input input)

-- How many bytes the longest line has: `refused 8` with two checksums of eight digits, and its line feed.
abbrev pub longest : ℕ
longest = 28

-- ---- the statement

-- The output is too short for the line.
abbrev pub no_room : List ℕ → List ℕ → Bool
no_room input output = ltb (length output) (length (line_of input))

-- What reading the input answers.
abbrev pub ReadingOfInput : List ℕ → Reading → Type 0
ReadingOfInput input answer = told answer ≡ read_input input

-- The line's size comes back, and the line lies over the front of the output; bytes behind it stay. Output that is too short stays as it
-- was, and the size is 0.
pub record LineSays (input before after : List ℕ) (size : ℕ) : Type 0 where
  pub answers : size ≡ cond (no_room input before) 0 (length (line_of input))
  pub writes : after ≡ cond (no_room input before) before (over (line_of input) before)
