-- Which numbers errors have: of reading's refusals only 4, 6, 7 and 8 come. A reader that was opened knows its channel, and gathers as many
-- bytes as the header says, so that 1, 2, 3 and 5 never do.
use Rattle.std.specs.Prelude.{ℕ, ◌≤◌, ◌≡◌, Bool, true, false, ◌&&◌, ◌||◌, List, [], ◌∷◌, eqb, length}
use Rattle.base_types.specs.declared.channel.Channel.{Channel}
use Rattle.header.specs.Layout.{longest_frame}
use Rattle.wire_reader.specs.Decoder.{Told, nothing, frame, wrong}
use Rattle.wire_reader.specs.Reader.{Event, fresh, run}

unfoldable pub is_one_of : ℕ → List ℕ → Bool
is_one_of n [] = false
is_one_of n (m ∷ l) = eqb n m || is_one_of n l

-- The numbers of errors.
unfoldable pub error_numbers : List ℕ
error_numbers = 4 ∷ 6 ∷ 7 ∷ 8 ∷ 30 ∷ 31 ∷ 32 ∷ 33 ∷ 34 ∷ 35 ∷ []

-- An error that is told has one of them.
abbrev pub told_right : Told → Bool
told_right nothing = true
told_right (frame header size since) = true
told_right (wrong told) = is_one_of told.number error_numbers

unfoldable pub all_right : List Event → Bool
all_right [] = true
all_right (e ∷ l) = told_right e.told && all_right l

-- Whatever the samples are, as long as nothing else changes the memory.
abbrev pub OnlyErrorNumbers : Type 0
OnlyErrorNumbers =
    (channel : Channel) (i : ℕ) (memory : List ℕ) (samples : List Bool) → longest_frame ≤ length memory
    → all_right (run channel i (fresh memory) samples).events ≡ true
