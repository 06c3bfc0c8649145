-- Laws of the register, and of the checksum as a number: lengths, and one string fed after another.
use Prim.Native.Nat.{ℕ, suc, ◌%◌, ◌^◌, ◌<◌}
use mathlib.Core.Path.{◌≡◌, refl, sym, ap, ◌∙◌}
use mathlib.Core.Bool.{Bool, false}
use mathlib.Core.List.{List, [], ◌∷◌, ◌++◌}
use native.Mathlib.Numerals.{add-one}
use lib.ListN.{length, length-append}
use Rattle.division.specs.Bits.{bits, number}
use Rattle.division.specs.Division.{◌⊕◌, only_if, step, feed, checksum}
use Rattle.division.proofs.ExorLaws.{length-exor, length-only_if}
use Rattle.division.proofs.BitsLaws.{length-bits, one_width, number_bits, number_lt, bits_number}

pub length-shifted : (x : List Bool) → length (x ++ (false ∷ [])) ≡ suc (length x)
length-shifted x = length-append x (false ∷ []) ∙ add-one (length x)

pub length-step : (p r : List Bool) (b : Bool) → length r ≡ length p → length (step p r b) ≡ length p
unfolding step
length-step p [] b e = e
length-step p (h ∷ t) b e =
    length-exor (t ++ (false ∷ [])) (only_if (b ⊕ h) p) (length-shifted t ∙ e ∙ sym (length-only_if (b ⊕ h) p))
    ∙ length-shifted t ∙ e

pub length-feed : (p r m : List Bool) → length r ≡ length p → length (feed p r m) ≡ length p
unfolding feed
length-feed p r [] e = e
length-feed p r (b ∷ m) e = length-feed p (step p r b) m (length-step p r b e)

-- one string after another
pub feed_append : (p r m n : List Bool) → feed p r (m ++ n) ≡ feed p (feed p r m) n
unfolding feed
feed_append p r [] n = refl
feed_append p r (b ∷ m) n = feed_append p (step p r b) m n

-- ---- as numbers

module _ (w poly : ℕ) where
  pub length-fed : (s : ℕ) (m : List Bool) → length (feed (bits w poly) (bits w s) m) ≡ length (bits w poly)
  length-fed s m = length-feed (bits w poly) (bits w s) m (one_width w s poly)

  pub checksum_lt : (s : ℕ) (m : List Bool) → checksum w poly s m < 2 ^ w
  unfolding checksum
  checksum_lt s m = rw (length-fed s m, length-bits w poly) at (number_lt (feed (bits w poly) (bits w s) m))

  pub checksum_nil : (s : ℕ) → checksum w poly s [] ≡ s % 2 ^ w
  unfolding checksum feed
  checksum_nil s = number_bits w s

  pub bits_checksum : (s : ℕ) (m : List Bool) → bits w (checksum w poly s m) ≡ feed (bits w poly) (bits w s) m
  unfolding checksum
  bits_checksum s m = bits_number w (feed (bits w poly) (bits w s) m) (length-fed s m ∙ length-bits w poly)

  -- one string after another
  pub checksum_append : (s : ℕ) (m n : List Bool) → checksum w poly (checksum w poly s m) n ≡ checksum w poly s (m ++ n)
  unfolding checksum
  checksum_append s m n =
      ap (λ (r : List Bool). number (feed (bits w poly) r n)) (bits_checksum s m)
      ∙ ap number (sym (feed_append (bits w poly) (bits w s) m n))
