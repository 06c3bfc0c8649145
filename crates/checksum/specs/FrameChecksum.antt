-- The entry `frame_checksum`: what it answers for a channel number and bytes.
use Rattle.std.specs.Prelude.{ℕ, ◌≡◌, List, [], ◌∷◌, Result}
use Rattle.std.specs.Result.{result_unwrap_or}
use Rattle.refusal.specs.Refusal.{Line, ◌when◌, first, if_accepted}
use Rattle.refusal.specs.Answer.{number_in}
use Rattle.base_types.specs.declared.channel.NotAChannel.{NotAChannel}
use Rattle.base_types.specs.Channel.{not_a_channel, channel_of, refusal_number}
use Rattle.checksum.specs.Checksums.{frame_checksum}

-- An answer is the checksum, or refusal 1.
abbrev pub Checksum : Type 0
Checksum = Result ℕ NotAChannel

-- What an answer says in 01's numbers: the refusal number, 0 for none, and the checksum, 0 with a refusal.
pub record Told : Type 0 where
  pub number : ℕ
  pub value : ℕ

abbrev pub told : Checksum → Told
told answer = record { number = number_in refusal_number answer; value = result_unwrap_or answer 0 }

-- The refusals of the entry, in their order.
abbrev pub refusals : ℕ → List Line
refusals channel = 1 when not_a_channel channel ∷ []

abbrev pub refusal : ℕ → ℕ
refusal channel = first (refusals channel)

-- What is right for this channel number and these bytes.
abbrev pub rule : ℕ → List ℕ → Told
rule channel bytes =
    record { number = refusal channel; value = if_accepted (refusal channel) (frame_checksum (channel_of channel) bytes) 0 }

-- The statement of the entry.
abbrev pub FrameChecksumSays : ℕ → List ℕ → Checksum → Type 0
FrameChecksumSays channel bytes answer = told answer ≡ rule channel bytes
