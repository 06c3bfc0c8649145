-- Claims about the entry `frame_checksum`, of any answer that its statement allows. The customer's first condition asks that it
-- takes any number and any bytes and answers, or gives a refusal number in 01's order; 01 asks that its statement determines the answer.
use Rattle.std.specs.Prelude.{ℕ, ◌<◌, ◌≡◌, not, List, eqb, Ok, Err}
use Rattle.refusal.specs.Refusal.{InOrder}
use Rattle.base_types.specs.declared.channel.Channel.TheVariants.{A, B}
use Rattle.base_types.specs.Channel.{not_a_channel}
use Rattle.checksum.specs.Checksums.{frame_checksum}
use Rattle.checksum.specs.FrameChecksum.{Checksum, told, refusals, FrameChecksumSays}

-- Any two answers that the statement allows are equal.
abbrev pub OneAnswer : Type 0
OneAnswer =
    (channel : ℕ) (bytes : List ℕ) (r s : Checksum)
    → FrameChecksumSays channel bytes r → FrameChecksumSays channel bytes s → r ≡ s

-- The number is the first of the order whose condition holds.
abbrev pub NumberInOrder : Type 0
NumberInOrder =
    (channel : ℕ) (bytes : List ℕ) (r : Checksum) → FrameChecksumSays channel bytes r
    → InOrder (refusals channel) (told r).number

-- A number other than 0 comes back exactly where the channel number is neither 0 nor 1, whatever the bytes.
abbrev pub RefusedExactly : Type 0
RefusedExactly =
    (channel : ℕ) (bytes : List ℕ) (r : Checksum) → FrameChecksumSays channel bytes r
    → not (eqb (told r).number 0) ≡ not_a_channel channel

-- 0 is channel A, 1 is channel B, and any other number is refused.
abbrev pub OnA : Type 0
OnA = (bytes : List ℕ) (r : Checksum) → FrameChecksumSays 0 bytes r → r ≡ Ok (frame_checksum A bytes)

abbrev pub OnB : Type 0
OnB = (bytes : List ℕ) (r : Checksum) → FrameChecksumSays 1 bytes r → r ≡ Ok (frame_checksum B bytes)

abbrev pub OnNeither : Type 0
OnNeither =
    (channel : ℕ) (bytes : List ℕ) (r : Checksum) → 1 < channel → FrameChecksumSays channel bytes r → r ≡ Err (record {})
