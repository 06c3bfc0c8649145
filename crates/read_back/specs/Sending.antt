-- Frames sent one behind the other: the samples that the wire shows of them, and what a reader is to tell.
use Rattle.std.specs.Prelude.{ℕ, ◌+◌, ◌*◌, ◌-◌, ◌≤◌, ◌≡◌, Bool, List, [], ◌∷◌, ◌++◌, length, replicate}
use Rattle.refusal.specs.Refusal.{first}
use Rattle.division.specs.Bits.{AreBytes}
use Rattle.lent_bytes.specs.Over.{over}
use Rattle.base_types.specs.declared.channel.Channel.{Channel}
use Rattle.frame.specs.Read.{header_read, refusals_on}
use Rattle.wire.specs.Stream.{high, shortest_start, longest_start, stream}
use Rattle.wire_reader.specs.Decoder.{frame}
use Rattle.wire_reader.specs.Reader.{Event}

-- "each bit repeated eight times".
unfoldable pub sampled : List Bool → List Bool
sampled [] = []
sampled (b ∷ l) = b ∷ b ∷ b ∷ b ∷ b ∷ b ∷ b ∷ b ∷ sampled l

-- A frame that is sent: how many idle high bits stand before it, its start length, and its bytes.
pub record Sending : Type 0 where
  pub idle : ℕ
  pub start : ℕ
  pub bytes : List ℕ

-- "after at least 11 idle high bits", with a start length that C-11 writes, bytes that 01 calls a frame.
pub record Right (channel : Channel) (s : Sending) : Type 0 where
  pub enough : 11 ≤ s.idle
  pub shortest : shortest_start ≤ s.start
  pub longest : s.start ≤ longest_start
  pub bytes : AreBytes s.bytes
  pub accepted : first (refusals_on channel s.bytes) ≡ 0

pub data AllRight (channel : Channel) : List Sending → Type 0 where
  none : AllRight channel []
  ◌and◌ : {s : Sending} {l : List Sending} → Right channel s → AllRight channel l → AllRight channel (s ∷ l)

-- The samples of one, and of all.
abbrev pub samples_of : Sending → List Bool
samples_of s = sampled (replicate s.idle high ++ stream s.start s.bytes)

unfoldable pub samples_of_all : List Sending → List Bool
samples_of_all [] = []
samples_of_all (s ∷ l) = samples_of s ++ samples_of_all l

-- How many samples they are.
abbrev pub size_of : Sending → ℕ
size_of s = 8 * (s.idle + s.start + 10 * length s.bytes + 3)

-- The sample in which the low bit of the end is strobed, counted from the first sample of the sending, and how many samples lie between the
-- reference point and it.
abbrev pub end_of : Sending → ℕ
end_of s = 8 * (s.idle + s.start + 1 + 10 * length s.bytes) + 6

abbrev pub since_of : Sending → ℕ
since_of s = 80 * length s.bytes - 8

-- What is told of a sending whose first sample has number i.
abbrev pub given : ℕ → ℕ → Sending → Event
given sample since s =
    record { sample = sample; told = frame (header_read s.bytes) (length s.bytes) since; bytes = s.bytes }

unfoldable pub events_of : ℕ → List Sending → List Event
events_of i [] = []
events_of i (s ∷ l) = given (i + end_of s) (since_of s) s ∷ events_of (i + size_of s) l

-- The memory afterwards: each frame is laid over the front.
unfoldable pub memory_after : List Sending → List ℕ → List ℕ
memory_after [] memory = memory
memory_after (s ∷ l) memory = memory_after l (over s.bytes memory)
