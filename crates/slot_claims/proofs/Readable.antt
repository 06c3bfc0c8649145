-- A header that a read could give: a byte string that is accepted with it.
use Prim.Native.Nat.{ℕ, ◌*◌, ◌≤◌}
use mathlib.Core.Path.{◌≡◌, refl, sym, ap, ◌∙◌, subst}
use mathlib.Core.Bool.{Bool, true, false, ◌&&◌}
use mathlib.Core.List.{List, []}
use native.Mathlib.Omega.{arith}
use borrow.Author.Tests.{eqb-true, eqb-false, le-leb, leb-true, le-ltb, not-true, not-false}
use lib.Dec.{eqb, leb}
use lib.ListN.{length}
use Rattle.refusal.specs.Refusal.{first, numbered}
use Rattle.refusal.proofs.FirstLaws.{not_refused}
use Rattle.division.specs.Bits.{bytes_of}
use Rattle.division.proofs.BytesLaws.{length-bytes_of, are_bytes_of}
use Rattle.base_types.specs.declared.channel.Channel.{Channel}
use Rattle.checksum.specs.Pair.{no_checksums}
use Rattle.header.specs.declared.Header.{Header}
use Rattle.header.specs.Layout.{most_words, header_checksum_of}
use Rattle.header.specs.Refusals.{startup_without_sync}
use Rattle.base_types.specs.Slot.{not_an_id}
use Rattle.base_types.proofs.SlotLaws.{id_range}
use Rattle.base_types.specs.Cycle.{highest_cycle, cycle_too_high}
use Rattle.frame.specs.Layout.{Frame}
use Rattle.frame.specs.Read as read
use Rattle.frame.specs.Read.{header_read, refusals_on}
use Rattle.writing.specs.Write.{frame_bytes}
use Rattle.frame_claims.specs.Exact.{fields_of}
use Rattle.frame_claims.proofs.Reading.{id_small, words_small, cycle_small, frame_header, frame_accepted}
use Rattle.frame_claims.proofs.FrameLaws.{good_payload, from_fields}
use Rattle.frame_claims.proofs.Exact.{written_frame}
use Rattle.slot.specs.Sound.{could_be_read}
use Rattle.slot_events.proofs.EventLaws.{accepted_none}
use Rattle.slot_claims.specs.Sound.{Readable, CouldBeReadExactly}

-- the five clauses
parts : (a b c d e : Bool) → a && (b && (c && (d && e))) ≡ true → (a ≡ true) × (b ≡ true) × (c ≡ true) × (d ≡ true) × (e ≡ true)
parts a b c d e all = grind arith

could_parts : (h : Header) → could_be_read h ≡ true
    → (not_an_id h.id.0 ≡ false) × (h.words ≤ most_words) × (cycle_too_high h.cycle.0 ≡ false)
    × (startup_without_sync h.startup h.sync ≡ false) × (h.checksum ≡ header_checksum_of h)
could_parts h e =
    let p = parts _ _ _ _ _ e in (
      not-true _ p.0,
      leb-true h.words most_words p.1,
      not-true _ p.2,
      not-true _ p.3,
      eqb-true h.checksum (header_checksum_of h) p.4,
    )

-- what reading accepts
pub read_could : (channel : Channel) (bytes : List ℕ) → first (refusals_on channel bytes) ≡ 0 → could_be_read (header_read bytes) ≡ true
unfolding numbered
read_could channel bytes none =
    let h = header_read bytes in
    let passed = not_refused (refusals_on channel bytes) refl none in
    let not_zero = eqb-false h.id.0 0 (passed 6) in
    let id : not_an_id h.id.0 ≡ false = (id_range h.id.0).1 (omega arith, id_small bytes) in
    let words : leb h.words most_words ≡ true = le-leb h.words most_words (words_small bytes) in
    let cycle : cycle_too_high h.cycle.0 ≡ false = le-ltb highest_cycle h.cycle.0 (cycle_small bytes) in
    let checksum : eqb h.checksum (header_checksum_of h) ≡ true = not-false _ (passed 4) in
    rw (id, words, cycle, passed 7, checksum)

-- a frame with a header that a read could give, of as many zero bytes as it has words for
module _ (channel : Channel) (h : Header) (could : could_be_read h ≡ true) where
  abbrev payload : List ℕ
  payload = bytes_of (2 * h.words) []

  framed : Frame channel (frame_bytes channel (fields_of h) payload) h payload
  framed =
      let p = could_parts h could in
      let long : length payload ≡ 2 * h.words = length-bytes_of (2 * h.words) [] in
      subst (λ (x : Header). Frame channel (frame_bytes channel (fields_of h) payload) x payload) (from_fields h payload long p.4)
      (written_frame channel (fields_of h) payload (are_bytes_of (2 * h.words) []) p.0 (good_payload payload h.words long p.1) p.2 p.3)

  is_readable : Readable channel h
  is_readable =
      let bytes = frame_bytes channel (fields_of h) payload in (
        bytes,
        framed.are_bytes,
        ap (λ (x : Header). record { number = 0; header = x; checksums = no_checksums }) (sym (frame_header framed))
            ∙ ap (λ (n : ℕ). read.tells n channel bytes) (sym (frame_accepted framed)),
      )

pub could_be_read_exactly : CouldBeReadExactly
could_be_read_exactly channel h = (
  is_readable channel h,
  λ r.
      let a = accepted_none channel r.0 h r.2 in
      ap could_be_read (sym a.1) ∙ read_could channel r.0 a.0,
)
