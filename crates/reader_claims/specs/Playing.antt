-- Samples played to their end: what calls of listening give, one behind the other, is what the rule makes of all samples.
use Rattle.std.specs.Prelude.{ℕ, ◌+◌, ◌≡◌, not, List, [], ◌∷◌, map}
use Rattle.refusal.specs.Refusal.{if_accepted}
use Rattle.division.specs.Bits.{bit}
use Rattle.wire_reader.specs.declared.reader.Reader.{Reader}
use Rattle.wire_reader.specs.Reader.{State, Event, Run, run, state_of, reader_of}
use Rattle.wire_reader.specs.Listening.{is_high, refusal}
use Rattle.reader_claims.specs.declared.Played.{Played}
use Rattle.reader_claims.specs.Given.{is_frame}

-- How many of the events are frames, and how many are not.
unfoldable pub frames_in : List Event → ℕ
frames_in [] = 0
frames_in (e ∷ l) = bit (is_frame e.told) + frames_in l

unfoldable pub errors_in : List Event → ℕ
errors_in [] = 0
errors_in (e ∷ l) = bit (not (is_frame e.told)) + errors_in l

-- All samples, from number 0 on.
abbrev pub all_of : Reader → List ℕ → List ℕ → Run State
all_of reader samples memory = run reader.channel 0 (state_of reader memory) (map is_high samples)

-- With a refusal nothing is played.
pub record PlayedSays (reader : Reader) (samples before after : List ℕ) (r : Played) : Type 0 where
  pub frames : r.frames ≡ if_accepted (refusal reader before) (frames_in (all_of reader samples before).events) 0
  pub errors : r.errors ≡ if_accepted (refusal reader before) (errors_in (all_of reader samples before).events) 0
  pub leaves : r.reader ≡ if_accepted (refusal reader before) (reader_of reader.channel (all_of reader samples before).state) reader
  pub keeps : after ≡ if_accepted (refusal reader before) (all_of reader samples before).state.place.memory before
