-- What holds while samples are played.
use Rattle.std.specs.Prelude.{ℕ, ◌+◌, ◌≤◌, ◌≡◌, List, map, length, drop}
use Rattle.base_types.specs.declared.channel.Channel.{Channel}
use Rattle.wire_reader.specs.declared.reader.Reader.{Reader}
use Rattle.wire_reader.specs.Reader.{State, Run, run, state_of}
use Rattle.wire_reader.specs.Listening.{is_high, refusal}
use Rattle.reader_claims.specs.Playing.{frames_in, errors_in, all_of}

-- What is left to play from sample i on.
abbrev pub rest_of : Channel → ℕ → State → List ℕ → Run State
rest_of channel i s samples = run channel i s (map is_high (drop i samples))

-- Where the first call is refused, everything is as it was. Otherwise what was counted and what is left make the whole.
pub record SoFar (reader : Reader) (samples before memory : List ℕ) (state : Reader) (at frames errors : ℕ) : Type 0 where
  pub within : at ≤ length samples
  pub few_frames : frames ≤ at
  pub few_errors : errors ≤ at
  pub channel : state.channel ≡ reader.channel
  pub same : refusal state memory ≡ refusal reader before
  pub refused : (refusal reader before ≡ 0 → ⊥) → (state ≡ reader) × (memory ≡ before) × (frames ≡ 0) × (errors ≡ 0)
  pub counts : refusal reader before ≡ 0
      → (frames + frames_in (rest_of reader.channel at (state_of state memory) samples).events ≡ frames_in (all_of reader samples before).events)
      × (errors + errors_in (rest_of reader.channel at (state_of state memory) samples).events ≡ errors_in (all_of reader samples before).events)
      × ((rest_of reader.channel at (state_of state memory) samples).state ≡ (all_of reader samples before).state)
