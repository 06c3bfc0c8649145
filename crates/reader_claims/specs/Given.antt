-- What is given as a frame is one: the customer's third condition speaks of what a reader gives as it speaks of what reading accepts.
use Rattle.std.specs.Prelude.{ℕ, ◌≡◌, Bool, true, false, ◌↔◌, List, length, take}
use Rattle.refusal.specs.Refusal.{first}
use Rattle.base_types.specs.declared.channel.Channel.{Channel}
use Rattle.header.specs.declared.Header.{Header}
use Rattle.frame.specs.Read.{header_read, refusals_on}
use Rattle.wire_reader.specs.declared.reader.Reader.{Reader}
use Rattle.wire_reader.specs.declared.phase.Phase.TheVariants.{End}
use Rattle.wire_reader.specs.declared.listening.Listened.{Listened}
use Rattle.wire_reader.specs.Decoder.{Told, nothing, frame, wrong, decoded}
use Rattle.wire_reader.specs.Listening.{told, ListenSays}

-- The first bytes of the memory, as many as the size says, are a frame on the channel, with this header.
pub record IsFrame (channel : Channel) (memory : List ℕ) (header : Header) (size : ℕ) : Type 0 where
  pub accepted : first (refusals_on channel (take size memory)) ≡ 0
  pub headed : header ≡ header_read (take size memory)
  pub sized : length (take size memory) ≡ size

abbrev pub Given : Type 0
Given =
    (reader : Reader) (samples before after : List ℕ) (r : Listened) (header : Header) (size since : ℕ)
    → ListenSays reader samples before after r → (told r.answer).event ≡ frame header size since
    → IsFrame reader.channel after header size

-- At the low bit of the end a frame is given exactly when the bytes are one.
abbrev pub is_frame : Told → Bool
is_frame nothing = false
is_frame (frame header size since) = true
is_frame (wrong told) = false

abbrev pub GivenExactly : Type 0
GivenExactly =
    (channel : Channel) (idle : Bool) (count since : ℕ) (memory : List ℕ)
    → (is_frame (decoded End false channel idle count since memory).told ≡ true) ↔ (first (refusals_on channel (take count memory)) ≡ 0)
