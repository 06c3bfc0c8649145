-- `behind` meets its contract, by how many bytes there are.
use borrow.Author.Tests.{le-leb, lt-leb}
use mathlib.Core.Path.{◌≡◌, sym, ap, ◌∙◌}
use mathlib.Core.Bool.{true, false}
use mathlib.Core.List.{List}
use Prim.Native.Nat.{ℕ, ◌+◌, ◌*◌, ◌≤◌}
use native.Mathlib.Omega.{arith}
use lib.Dec.{leb}
use lib.ListN.{length, take}
use lib.Seq.{length-take-le}
use Rattle.division.specs.Bits.{bits}
use Rattle.lent_bytes.specs.Putting.{number_in}
use Rattle.lent_bytes.proofs.NumberLaws.{number_in_all}
use Rattle.checksum.specs.declared.pair.ChecksumPair.{ChecksumPair}
use Rattle.header.specs.declared.Header.{Header}
use Rattle.header.specs.Layout.{header_in, header_checksums}
use Rattle.checksum.specs.Pair.{differ}
use Rattle.std.specs.Prelude.{Err}
use Rattle.frame.specs.declared.ReadRefusal.TheVariants.{HeaderChecksumDiffers}
use Rattle.frame.specs.Read.{header_read}
use Rattle.frame.proofs.ReadLaws.{header_of_number}
use Rattle.wire_reader.proofs.AfterLaws.{fewer_than_5, five_wrong, five_right, more_than_5}
use Rattle.wire_reader.proofs.decoder.behind.Goals as goal

pub returns-then-bytes-lt5 : goal.returns-then-bytes-lt5
returns-then-bytes-lt5 c = fewer_than_5 c.args.bytes.now c.if-bytes-lt5.true

-- ---- what was worked out
module _ (bytes : List ℕ) (sent : ℕ) (h : 5 ≤ length bytes) (e : sent ≡ number_in (take 5 bytes)) where
  number_is : header_in (bits 40 sent) ≡ header_read bytes
  number_is =
      let five : length (take 5 bytes) ≡ 5 = length-take-le 5 bytes h in
      ap (λ (n : ℕ). header_in (bits 40 n)) (e ∙ number_in_all (take 5 bytes) (omega arith)) ∙ header_of_number bytes h

  header_is : (header : Header) → header ≡ header_in (bits 40 sent) → header ≡ header_read bytes
  header_is header k = k ∙ number_is

  pair_is : (pair : ChecksumPair) → pair ≡ header_checksums (header_in (bits 40 sent)) → pair ≡ header_checksums (header_read bytes)
  pair_is pair k = k ∙ ap header_checksums number_is

pub returns-then-differ : goal.returns-then-differ
returns-then-differ c =
    let bytes = c.args.bytes.now in
    let pair = pair_is bytes c.number_in-sent.result (omega arith) c.number_in-sent.ensures _ c.checksums_of-checksums.ensures in
    ap (λ (p : ChecksumPair). Err (HeaderChecksumDiffers p)) pair
    ∙ five_wrong bytes (omega arith) (ap differ (sym pair) ∙ sym c.differ.ensures ∙ c.if-differ.true)

pub returns-then-bytes-eq5 : goal.returns-then-bytes-eq5
returns-then-bytes-eq5 c =
    let bytes = c.args.bytes.now in
    let pair = pair_is bytes c.number_in-sent.result (omega arith) c.number_in-sent.ensures _ c.checksums_of-checksums.ensures in
    five_right bytes (omega arith) (ap differ (sym pair) ∙ sym c.differ.ensures ∙ c.if-differ.false)

pub returns-then-size-bytes : goal.returns-then-size-bytes
returns-then-size-bytes c =
    let bytes = c.args.bytes.now in
    let header = header_is bytes c.number_in-sent.result (omega arith) c.number_in-sent.ensures _ c.unpacked-header.ensures in
    more_than_5 bytes true (λ e. omega arith)
    (ap (λ (h : Header). leb (8 + 2 * h.words) (length bytes)) (sym header) ∙ le-leb _ _ c.if-size-bytes.true)

pub returns-else-size-bytes : goal.returns-else-size-bytes
returns-else-size-bytes c =
    let bytes = c.args.bytes.now in
    let header = header_is bytes c.number_in-sent.result (omega arith) c.number_in-sent.ensures _ c.unpacked-header.ensures in
    more_than_5 bytes false (λ e. omega arith)
    (ap (λ (h : Header). leb (8 + 2 * h.words) (length bytes)) (sym header) ∙ lt-leb _ _ c.if-size-bytes.false)
