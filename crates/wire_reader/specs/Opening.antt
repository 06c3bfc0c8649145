-- Opening a reader: what it refuses, what it answers, and the reader that comes back.
use Rattle.std.specs.Prelude.{ℕ, ◌≡◌, List, [], ◌∷◌, Result}
use Rattle.refusal.specs.Answer.{number_in}
use Rattle.refusal.specs.Refusal.{Line, ◌when◌, first, if_accepted}
use Rattle.refusal.specs.declared.Answered.{Answered}
use Rattle.base_types.specs.declared.channel.NotAChannel.{NotAChannel}
use Rattle.base_types.specs.Channel.{not_a_channel, channel_of, refusal_number}
use Rattle.wire_reader.specs.declared.reader.Reader.{Reader}
use Rattle.wire_reader.specs.Reader.{fresh_reader, no_reader}

abbrev pub opening_refusals : ℕ → List Line
opening_refusals channel = 1 when not_a_channel channel ∷ []

-- An answer is that the reader is open, or why it is not.
abbrev pub Opening : Type 0
Opening = Result Unit NotAChannel

abbrev pub Opened : Type 0
Opened = Answered Unit NotAChannel Reader

-- What the answer says in 01's numbers.
abbrev pub told : Opening → ℕ
told answer = number_in refusal_number answer

-- The answer's number is the refusal. The reader is a fresh one, or, with a refusal, all zeros.
pub record OpenSays (channel : ℕ) (r : Opened) : Type 0 where
  pub answers : told r.answer ≡ first (opening_refusals channel)
  pub leaves : r.state ≡ if_accepted (first (opening_refusals channel)) (fresh_reader (channel_of channel)) no_reader
