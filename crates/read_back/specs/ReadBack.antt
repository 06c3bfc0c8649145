-- What C-11 writes is read back.
use Rattle.std.specs.Prelude.{ℕ, ◌≤◌, ◌≡◌, List, length}
use Rattle.header.specs.Layout.{longest_frame}
use Rattle.base_types.specs.declared.channel.Channel.{Channel}
use Rattle.wire_reader.specs.declared.phase.Phase.TheVariants.{Waiting}
use Rattle.wire_reader.specs.Decoder.{without}
use Rattle.wire_reader.specs.Reader.{State, fresh, run}
use Rattle.read_back.specs.Sending.{Sending, AllRight, samples_of_all, events_of, memory_after}

-- Frames sent one behind the other are given, each once, in the sample that the rule names, and nothing else is told; the reader waits
-- again, and the frames lie in the memory.
pub record ReadBack (channel : Channel) (i : ℕ) (before : State) (l : List Sending) : Type 0 where
  pub events : (run channel i before (samples_of_all l)).events ≡ events_of i l
  pub place : (run channel i before (samples_of_all l)).state.place ≡ without Waiting (memory_after l before.place.memory)

abbrev pub EverythingReadBack : Type 0
EverythingReadBack =
    (channel : Channel) (i : ℕ) (memory : List ℕ) (l : List Sending) → longest_frame ≤ length memory → AllRight channel l
    → ReadBack channel i (fresh memory) l
