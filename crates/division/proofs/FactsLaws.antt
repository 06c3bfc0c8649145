-- Every fact of `Facts`, for any width and any polynomial that ends in 1 and has, with its top term, an even number of ones.
use Prim.Native.Nat.{ℕ}
use Rattle.division.specs.Polynomial.{EndsInOne, EvenTerms}
use Rattle.division.specs.Facts.{Facts}
use Rattle.division.proofs.RegisterLaws.{checksum_append}
use Rattle.division.proofs.Linearity.{checksum_xor}
use Rattle.division.proofs.Injectivity.{checksum_inj}
use Rattle.division.proofs.Parity.{words_even}
use Rattle.division.proofs.DifferingLaws.{window_apart}
use Rattle.division.proofs.Burst.{words_burst}
use Rattle.division.proofs.DistanceLaws.{words_apart}

pub facts : (width polynomial : ℕ) → EndsInOne width polynomial → EvenTerms width polynomial → Facts width polynomial
facts w p ends even =
    record {
      append = checksum_append w p;
      linear = checksum_xor w p;
      injective = λ s t m. checksum_inj w p s t m ends;
      even = λ start. words_even w p start even;
      burst = λ start. words_burst w p start ends;
      window = λ start x y l differ ex ey. window_apart x y l w differ (words_burst w p start ends x y l differ ex ey);
      distance = λ n c test start. words_apart w p start ends n c test;
    }
