-- The two channels: which number names which, and with which value the frame checksum starts on each (01, "Frame layout").
use Rattle.std.specs.Prelude.{ℕ, Bool, not, ◌&&◌, cond, eqb, Result, Ok, Err}
use Rattle.base_types.specs.declared.channel.Channel.{Channel}
use Rattle.base_types.specs.declared.channel.Channel.TheVariants.{A, B}
use Rattle.base_types.specs.declared.channel.NotAChannel.{NotAChannel}

-- Refusal 1: "channel is not 0 (A) or 1 (B)".
unfoldable pub not_a_channel : ℕ → Bool
not_a_channel number = not (eqb number 0) && not (eqb number 1)

-- The channel that a number names: 0 is A, and 1 is B. Of any other number nothing is asked: it is refused.
unfoldable pub channel_of : ℕ → Channel
channel_of number = cond (eqb number 0) A B

-- The number that names a channel.
abbrev pub number_of : Channel → ℕ
number_of A = 0
number_of B = 1

-- "Start value 0xFEDCBA on channel A and 0xABCDEF on channel B".
abbrev pub start_of : Channel → ℕ
start_of A = 0xFEDCBA
start_of B = 0xABCDEF

-- The number of a refusal that has just one cause.
abbrev pub refusal_number : NotAChannel → ℕ
refusal_number refusal = 1

-- What a number names: its channel, or none.
unfoldable pub named_by : ℕ → Result Channel NotAChannel
named_by number = cond (not_a_channel number) (Err (record {})) (Ok (channel_of number))
