-- What the witnesses show: the claims, of the code.
use Rattle.std.specs.Prelude.{ℕ, suc, ◌≤◌, ◌≡◌, Bool, false, List, map, length}
use Rattle.division.specs.Division.{exor}
use Rattle.base_types.specs.Channel.{not_a_channel, channel_of}
use Rattle.header.specs.Layout.{longest_frame}
use Rattle.frame.specs.Read.{header_read}
use Rattle.wire_reader.specs.declared.listening.Listened.{Listened}
use Rattle.wire_reader.specs.Decoder.{frame}
use Rattle.wire_reader.specs.Listening.{is_high, told}
use Rattle.reader_claims.specs.declared.Played.{Played}
use Rattle.read_back.specs.Sending.{Sending, Right, AllRight, samples_of, samples_of_all, end_of, since_of, memory_after}
use Rattle.read_back.specs.Disturbed.{harmless}

-- A channel, and memory with room for every frame.
pub record Ready (channel : ℕ) (memory : List ℕ) : Type 0 where
  pub named : not_a_channel channel ≡ false
  pub room : longest_frame ≤ length memory

-- `first_heard`, of the samples of one sending: the call ends in the sample that the rule names, and tells the frame, with the samples since
-- its reference point.
pub record IsHeard (s : Sending) (before after : List ℕ) (r : Listened) : Type 0 where
  pub event : (told r.answer).event ≡ frame (header_read s.bytes) (length s.bytes) (since_of s)
  pub taken : r.taken ≡ suc (end_of s)

abbrev pub FirstHeard : ℕ → List ℕ → List ℕ → List ℕ → Listened → Type 0
FirstHeard channel samples before after r =
    (s : Sending) → Ready channel before → Right (channel_of channel) s → map is_high samples ≡ samples_of s → IsHeard s before after r

-- `all_heard`, of the samples of any number of sendings.
pub record AllHeard (channel : ℕ) (samples before after : List ℕ) (r : Played) : Type 0 where
  pub clean : (l : List Sending) → Ready channel before → AllRight (channel_of channel) l → map is_high samples ≡ samples_of_all l
      → (r.frames ≡ length l) × (r.errors ≡ 0) × (after ≡ memory_after l before)
  pub disturbed : (l : List Sending) (flips : List Bool) → Ready channel before → AllRight (channel_of channel) l
      → length flips ≡ length (samples_of_all l) → harmless flips → map is_high samples ≡ exor flips (samples_of_all l)
      → (r.frames ≡ length l) × (r.errors ≡ 0)
