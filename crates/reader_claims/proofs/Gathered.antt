-- The bytes that a reader has gathered: what is known of them, and that one byte more keeps it.
use Prim.Native.Nat.{ℕ, ◌+◌, ◌*◌, ◌<◌, ◌≤◌}
use mathlib.Core.Path.{◌≡◌, sym, ap, ◌∙◌}
use mathlib.Core.Bool.{Bool, false, ◌&&◌, cond}
use mathlib.Core.List.{List, [], ◌∷◌, ◌++◌}
use native.Mathlib.Omega.{arith}
use borrow.Author.Tests.{ltb-true, ltb-false, eq-eqb, leb-true, leb-false}
use lib.Dec.{ltb}
use lib.ListN.{length, length-append}
use lib.Seq.{take-append-le}
use Rattle.numbers.proofs.Walk.{cases, cases_in}
use Rattle.division.specs.Bits.{bytes_bits}
use Rattle.header.specs.Layout.{header_in}
use Rattle.frame.specs.Refusals.{header_checksum_differs}
use Rattle.frame.specs.Read.{header_read}
use Rattle.frame.proofs.ReadLaws.{header_of_five}
use Rattle.wire_reader.specs.declared.phase.Phase.{Phase}
use Rattle.wire_reader.specs.declared.phase.Phase.TheVariants.{Waiting, Start, FrameStart, ByteStart, ByteStartLow, Byte, End, EndHigh}
use Rattle.wire_reader.specs.Decoder.{header_wrong, complete}

-- Before the end of a frame: the header, once it is there, is right, and says that more bytes come.
pub record Growing (bytes : List ℕ) : Type 0 where
  pub right : 5 ≤ length bytes → header_checksum_differs (header_read bytes) ≡ false
  pub short : length bytes < 8 + 2 * (header_read bytes).words

-- At the end: the header is right, and there are as many bytes as it says.
pub record Whole (bytes : List ℕ) : Type 0 where
  pub right : header_checksum_differs (header_read bytes) ≡ false
  pub size : 8 + 2 * (header_read bytes).words ≡ length bytes

abbrev pub Gathered : Phase → List ℕ → Type 0
Gathered Waiting bytes = Unit
Gathered (Start n) bytes = Unit
Gathered (FrameStart n) bytes = Unit
Gathered ByteStart bytes = Growing bytes
Gathered ByteStartLow bytes = Growing bytes
Gathered (Byte n value) bytes = Growing bytes
Gathered End bytes = Whole bytes
Gathered EndHigh bytes = Unit

pub no_bytes_lem : Growing []
no_bytes_lem = record { right = λ h. absurd (omega arith); short = omega arith }

-- ---- one byte more

module _ (l : List ℕ) (x : ℕ) where
  abbrev more : List ℕ
  more = l ++ x ∷ []

  one_more : length more ≡ length l + 1
  one_more = length-append l (x ∷ [])

  same_header : 5 ≤ length l → header_read more ≡ header_read l
  same_header h =
      let n = one_more in
      header_of_five more (omega arith) ∙ ap (λ (k : List ℕ). header_in (bytes_bits k)) (take-append-le 5 l (x ∷ []) h) ∙ sym (header_of_five l h)

  right_on : Growing l → header_wrong more ≡ false → 5 ≤ length more → header_checksum_differs (header_read more) ≡ false
  unfolding header_wrong
  right_on g w h =
      let n = one_more in
      cases (ltb (length l) 5)
      (λ t. let few = ltb-true (length l) 5 t in
      sym (ap (λ (b : Bool). b && header_checksum_differs (header_read more)) (eq-eqb (length more) 5 (omega arith))) ∙ w)
      (λ t. let many = ltb-false (length l) 5 t in
      ap header_checksum_differs (same_header many) ∙ g.right many)

  -- it is the last one, so there are no more than the header says
  none_over : Growing l → 8 + 2 * (header_read more).words ≤ length more → 8 + 2 * (header_read more).words ≡ length more
  none_over g c =
      let n = one_more in
      cases (ltb (length l) 5)
      (λ t. let few = ltb-true (length l) 5 t in absurd (omega arith))
      (λ t. let many = ltb-false (length l) 5 t in
      let same : (header_read more).words ≡ (header_read l).words = ap (λ h. h.words) (same_header many) in
      let short = g.short in
      omega arith)

  pub grown : Growing l → header_wrong more ≡ false → Gathered (cond (complete more) End ByteStart) more
  unfolding complete
  grown g w =
      let n = one_more in
      let all = 8 + 2 * (header_read more).words in
      cases_in (λ (b : Bool). Gathered (cond b End ByteStart) more) (complete more)
      (λ t. let c = leb-true all (length more) t in
      record { right = right_on g w (omega arith); size = none_over g c })
      (λ t. record { right = right_on g w; short = leb-false all (length more) t })
