-- How many changed samples do no harm is exact: with two others between changed ones instead of three a frame can be lost.
use Prim.Native.Nat.{ℕ}
use mathlib.Core.Path.{◌≡◌, refl, sym, ap, ◌∙◌}
use mathlib.Core.Bool.{Bool, true, false, false≢true}
use mathlib.Core.List.{List, [], ◌∷◌, ◌++◌}
use native.Mathlib.Omega.{arith}
use lib.ListN.{length, replicate}
use Rattle.refusal.specs.Refusal.{first}
use Rattle.division.specs.Bits.{bits, number, bytes_bits, bytes_of}
use Rattle.division.specs.Division.{exor, only_if, step, feed, checksum}
use Rattle.division.proofs.BytesLaws.{are_bytes_of}
use Rattle.base_types.specs.declared.channel.Channel.TheVariants.{A}
use Rattle.header.specs.Layout.{header_in}
use Rattle.frame.specs.Read.{refused}
use Rattle.wire.specs.Stream.{coded, stream}
use Rattle.wire_reader.specs.Decoder.{wrong, header_wrong, complete}
use Rattle.wire_reader.specs.Reader as reader
use Rattle.wire_reader.specs.Reader.{Event, fresh, run}
use Rattle.reader_claims.specs.Given.{is_frame}
use Rattle.read_back.specs.Sending.{Sending, Right, none, ◌and◌, sampled, samples_of_all}
use Rattle.read_back.specs.Disturbed as disturbed
use Rattle.read_back.specs.Disturbed.{sparse, GivenNearly, NotByTwo}

-- ---- one frame, of which four samples are changed

abbrev pub short : Sending
short = record { idle = 11; start = 3; bytes = 0x20 ∷ 0x01 ∷ 0x01 ∷ 0xA7 ∷ 0xC0 ∷ 0xD0 ∷ 0x5E ∷ 0xEA ∷ [] }

-- Numbers 128, 131, 204 and 207 of 776. The first two delay the falling edge of the first byte start, so that each bit of that byte is strobed in the
-- first sample of the next one; the other two lie in the high bit behind the byte, which then reads low.
abbrev pub four : List Bool
four = replicate 128 false ++ (true ∷ false ∷ false ∷ true ∷ (replicate 72 false ++ (true ∷ false ∷ false ∷ true ∷ replicate 568 false)))

abbrev pub events : List Event
events = (run A 0 (fresh (replicate 262 0)) (exor four (samples_of_all (short ∷ [])))).events

-- Nothing is told but that the next byte does not start high.
pub lost : events ≡ record { sample = 208; told = wrong (refused 32); bytes = [] } ∷ []
unfolding run reader.step exor samples_of_all sampled stream coded bits number bytes_bits header_in header_wrong complete
lost = refl

-- ---- so the claim does not hold for two

short_right : Right A short
unfolding first bits number bytes_bits bytes_of header_in exor only_if step feed checksum
short_right =
    record {
      enough = omega arith;
      shortest = omega arith;
      longest = omega arith;
      bytes = are_bytes_of 8 (bytes_bits short.bytes);
      accepted = refl;
    }

four_size : length four ≡ length (samples_of_all (short ∷ []))
unfolding samples_of_all sampled stream coded bits
four_size = refl

four_sparse : sparse 2 0 four ≡ true
unfolding sparse
four_sparse = refl

-- What is told first is a frame.
frame_first : List Event → Bool
frame_first [] = false
frame_first (e ∷ l) = is_frame e.told

given_first : {i : ℕ} {s : Sending} {l : List Sending} {events : List Event} → GivenNearly i (s ∷ l) events → frame_first events ≡ true
unfolding frame_first
given_first (disturbed.one end reference h g rest) = refl

pub exact : NotByTwo
unfolding frame_first
exact claim =
    let given = claim A 0 (replicate 262 0) (short ∷ []) four (omega arith) (◌and◌ short_right none) four_size four_sparse in
    false≢true (ap frame_first (sym lost) ∙ given_first given)
