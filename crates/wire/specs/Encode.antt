-- The entry `encode`: what it answers, and what it leaves in the output.
use Rattle.std.specs.Prelude.{ℕ, ◌≡◌, List, [], ◌∷◌, ◌++◌, length, Result, Ok, Err}
use Rattle.std.specs.Result.{result_unwrap_or}
use Rattle.refusal.specs.Answer.{number_in}
use Rattle.refusal.specs.Refusal.{Line, ◌when◌, first, if_accepted}
use Rattle.lent_bytes.specs.Over.{over}
use Rattle.checksum.specs.declared.pair.ChecksumPair.{ChecksumPair}
use Rattle.checksum.specs.Pair.{no_checksums}
use Rattle.frame.specs.Read as read
use Rattle.wire.specs.declared.EncodeRefusal.{EncodeRefusal}
use Rattle.wire.specs.declared.EncodeRefusal.TheVariants.{NotAFrame, NotAStartLength, OutputTooShort}
use Rattle.wire.specs.Stream.{stream}
use Rattle.wire.specs.Packing.{packed}
use Rattle.wire.specs.Refusals.{not_a_start_length, output_too_short}

-- What an answer says in 01's numbers. What is refused is told as reading tells it, with all that reading tells beside a number; beside
-- 24 and 25, and beside 0, which is no refusal, it is the number alone. With it comes the number of bits, 0 with a refusal.
pub record Told : Type 0 where
  pub refusal : read.Told
  pub bits : ℕ

-- The number of each refusal. What reading refuses has reading's.
abbrev pub number_of : EncodeRefusal → ℕ
number_of (NotAFrame refusal) = read.number_of refusal
number_of NotAStartLength = 24
number_of OutputTooShort = 25

-- The two checksums that each tells: what reading refuses is told as reading tells it, and 24 and 25 tell none.
abbrev pub checksums_of : EncodeRefusal → ChecksumPair
checksums_of (NotAFrame refusal) = read.checksums_of refusal
checksums_of NotAStartLength = no_checksums
checksums_of OutputTooShort = no_checksums

-- An answer is the number of bits, or why there are none.
abbrev pub Encoding : Type 0
Encoding = Result ℕ EncodeRefusal

abbrev pub checksums_in : Encoding → ChecksumPair
checksums_in (Ok count) = no_checksums
checksums_in (Err refusal) = checksums_of refusal

abbrev pub told : Encoding → Told
told answer =
    record { refusal = read.refused_with (number_in number_of answer) (checksums_in answer); bits = result_unwrap_or answer 0 }

-- The refusals of the entry, in their order: "after the read refusals 1 to 8 of the frame bytes" 24 and 25.
abbrev pub own_refusals : List ℕ → ℕ → List ℕ → List Line
own_refusals bytes start output = 24 when not_a_start_length start ∷ 25 when output_too_short start bytes output ∷ []

abbrev pub refusals : ℕ → List ℕ → ℕ → List ℕ → List Line
refusals channel bytes start output = read.refusals channel bytes ++ own_refusals bytes start output

abbrev pub refusal : ℕ → List ℕ → ℕ → List ℕ → ℕ
refusal channel bytes start output = first (refusals channel bytes start output)

-- What is right for this channel number, these frame bytes, this start length and the output as it was. The checksums are those that
-- reading tells of the bytes: none where it accepts them.
abbrev pub rule : ℕ → List ℕ → ℕ → List ℕ → Told
rule channel bytes start output =
    let n = refusal channel bytes start output in
    record {
      refusal = read.refused_with n (read.rule channel bytes).checksums;
      bits = if_accepted n (length (stream start bytes)) 0;
    }

-- The whole output afterwards: the packed stream over its front ("Later bytes stay"), or, with a refusal, as it was.
abbrev pub encoded : ℕ → List ℕ → ℕ → List ℕ → List ℕ
encoded channel bytes start output = if_accepted (refusal channel bytes start output) (over (packed (stream start bytes)) output) output

-- The statement of the entry.
pub record EncodeSays (channel : ℕ) (bytes : List ℕ) (start : ℕ) (before after : List ℕ) (answer : Encoding) : Type 0 where
  pub answers : told answer ≡ rule channel bytes start before
  pub writes : after ≡ encoded channel bytes start before
