-- The claims about both checksums: the facts of division, cited for 11 bits and for 24.
use Prim.Native.Nat.{ℕ, ◌%◌, ◌≤◌}
use mathlib.Core.Path.{◌≡◌, refl}
use mathlib.Core.Bool.{true}
use native.Mathlib.Omega.{arith}
use lib.ListN.{length-append}
use Rattle.division.specs.Bits.{bits, number, bytes_bits}
use Rattle.division.specs.Division.{exor, only_if, step, feed, checksum}
use Rattle.division.specs.Polynomial.{last}
use Rattle.division.specs.Word.{word}
use Rattle.division.specs.Differing.{ones, first_one, last_one, differing, first_differing, last_differing}
use Rattle.division.specs.Distance.{never_zero, never_apart}
use Rattle.division.proofs.BitsLaws.{length-bits}
use Rattle.division.proofs.FactsLaws.{facts}
use Rattle.division.proofs.DifferingLaws.{differing_zero}
use Rattle.base_types.specs.declared.channel.Channel.TheVariants.{A, B}
use Rattle.base_types.specs.Channel.{start_of}
use Rattle.checksum.specs.Checksums.{header_polynomial, frame_polynomial}
use Rattle.checksum_claims.specs.Checksums.{HeaderFacts, FrameFacts, HeaderTwenty, ChannelsApart, FramesFour, BurstExact, FourExact, HeaderCheckValue}

pub header_facts : HeaderFacts
unfolding bits last ones
header_facts = facts 11 header_polynomial refl refl

pub frame_facts : FrameFacts
unfolding bits last ones
frame_facts = facts 24 frame_polynomial refl refl

pub header_twenty : HeaderTwenty
header_twenty sync startup id words = rw (length-append, length-bits, length-bits)

pub channels_apart : ChannelsApart
channels_apart bytes e = omega (arith, frame_facts.injective (start_of A) (start_of B) (bytes_bits bytes) e)

-- by a test over all places, not in exactly two bits
frame_test : never_apart 24 frame_polynomial 2096 2 ≡ true
unfolding never_apart never_zero ones step exor only_if bits
frame_test = refl

even_and_not_two : (d : ℕ) → d % 2 ≡ 0 → (d ≡ 0 → ⊥) → (d ≡ 2 → ⊥) → 4 ≤ d
even_and_not_two d even zero two = omega arith

pub frames_four : FramesFour
frames_four start x y l b differ ex ey =
    even_and_not_two (differing x y) (frame_facts.even start x y l ex ey) (λ e. differ (differing_zero x y l e))
    (frame_facts.distance 2096 2 frame_test start x y l (omega arith) differ ex ey)

pub burst_exact : BurstExact
unfolding first_differing last_differing first_one last_one ones word checksum feed step exor only_if bits number
burst_exact = (refl, refl)

pub four_exact : FourExact
unfolding differing ones word checksum feed step exor only_if bits number
four_exact = refl

pub header_check_value : HeaderCheckValue
unfolding checksum feed step exor only_if bits number bytes_bits
header_check_value = refl
