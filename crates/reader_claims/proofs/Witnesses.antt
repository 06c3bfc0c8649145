-- What the witnesses show, from the statements of the calls that they make.
use Prim.Native.Nat.{ℕ, zero, suc, ◌+◌, ◌≤◌}
use mathlib.Core.Path.{◌≡◌, refl, sym, ap, ap₂, ◌∙◌}
use mathlib.Core.Bool.{true, false, false≢true, ◌&&◌}
use mathlib.Core.List.{List, ◌++◌, map, map-append}
use native.Mathlib.Omega.{arith}
use borrow.Author.Tests.{eqb-true}
use lib.Dec.{eqb}
use lib.ListN.{length, length-map}
use Rattle.numbers.proofs.Truth.{both_true}
use Rattle.refusal.specs.Refusal.{if_accepted}
use Rattle.refusal.proofs.FirstLaws.{if_accepted_lem, if_refused}
use Rattle.base_types.specs.declared.channel.Channel.{Channel}
use Rattle.wire_reader.specs.declared.reader.Reader.{Reader}
use Rattle.wire_reader.specs.declared.listening.Listened.{Listened}
use Rattle.wire_reader.specs.Decoder as decoder
use Rattle.wire_reader.specs.Decoder.{is_nothing}
use Rattle.wire_reader.specs.Reader.{Piece, piece, state_of, reader_of}
use Rattle.wire_reader.specs.Listening.{is_high, Told, told, heard, refusal, ListenSays}
use Rattle.reader_claims.specs.Cut.{then_piece}
use Rattle.reader_claims.proofs.Cut.{piece_cut}
use Rattle.reader_claims.proofs.Kept.{taken_le}
use Rattle.reader_claims.proofs.Soundness.{behind_accepted}

-- ---- samples cut in two

then_first : (t : decoder.Told) (p q : Piece) → is_nothing t ≡ false → then_piece t p q ≡ p
then_first decoder.nothing p q e = absurd (false≢true (sym e))
then_first (decoder.frame header size since) p q e = refl
then_first (decoder.wrong told) p q e = refl

then_both : (t : decoder.Told) (p q : Piece) → is_nothing t ≡ true
    → then_piece t p q ≡ record { taken = p.taken + q.taken; state = q.state; told = q.told }
then_both decoder.nothing p q e = refl
then_both (decoder.frame header size since) p q e = absurd (false≢true e)
then_both (decoder.wrong told) p q e = absurd (false≢true e)

-- a result that is not refused, by what was heard
says_heard : (reader : Reader) (samples before after : List ℕ) (r : Listened) (p : Piece) → refusal reader before ≡ 0
    → p ≡ heard reader samples before → told r.answer ≡ record { refusal = 0; event = p.told } → r.taken ≡ p.taken
    → r.reader ≡ reader_of reader.channel p.state → after ≡ p.state.place.memory → ListenSays reader samples before after r
says_heard reader samples before after r p ok e a t l k =
    let n = refusal reader before in
    record {
      answers =
          a ∙ ap (λ (q : Piece). record { refusal = 0; event = q.told }) e
          ∙ ap (λ (i : ℕ). record { refusal = i; event = if_accepted i (heard reader samples before).told decoder.nothing }) (sym ok);
      takes = t ∙ ap (λ (q : Piece). q.taken) e ∙ sym (if_accepted_lem _ _ _ ok);
      leaves = l ∙ ap (λ (q : Piece). reader_of reader.channel q.state) e ∙ sym (if_accepted_lem _ _ _ ok);
      keeps = k ∙ ap (λ (q : Piece). q.state.place.memory) e ∙ sym (if_accepted_lem _ _ _ ok);
    }

-- and what was heard, by the result
module _ (reader : Reader) (samples before after : List ℕ) (r : Listened) (h : ListenSays reader samples before after r)
    (ok : refusal reader before ≡ 0) where
  answer_is : told r.answer ≡ record { refusal = 0; event = (heard reader samples before).told }
  answer_is = h.answers ∙ ap (λ (i : ℕ). record { refusal = i; event = if_accepted i (heard reader samples before).told decoder.nothing }) ok

  taken_is : r.taken ≡ (heard reader samples before).taken
  taken_is = h.takes ∙ if_accepted_lem _ _ _ ok

  reader_is : r.reader ≡ reader_of reader.channel (heard reader samples before).state
  reader_is = h.leaves ∙ if_accepted_lem _ _ _ ok

  memory_is : after ≡ (heard reader samples before).state.place.memory
  memory_is = h.keeps ∙ if_accepted_lem _ _ _ ok

pub taken_at_most : (reader : Reader) (samples before after : List ℕ) (r : Listened) → ListenSays reader samples before after r
    → r.taken ≤ length samples
taken_at_most reader samples before after r h = by (refusal reader before) refl
  where
    by : (n : ℕ) → refusal reader before ≡ n → r.taken ≤ length samples
    by zero ok =
        let t = taken_is reader samples before after r h ok in
        let most = taken_le reader.channel (state_of reader before) (map is_high samples) in
        let size = length-map samples is_high in
        omega arith
    by (suc n) z =
        let some : refusal reader before ≡ 0 → ⊥ = λ y. omega arith in
        let t : r.taken ≡ 0 = h.takes ∙ if_refused _ _ _ some in
        omega arith

module _ (reader : Reader) (samples l m before middle after : List ℕ) (first second : Listened) (e : l ++ m ≡ samples)
    (h : ListenSays reader l before middle first) where
  whole : heard reader samples before
      ≡ then_piece (heard reader l before).told (heard reader l before) (piece reader.channel (heard reader l before).state (map is_high m))
  whole =
      ap (λ (x : List ℕ). heard reader x before) (sym e)
      ∙ ap (piece reader.channel (state_of reader before)) (map-append is_high l m)
      ∙ piece_cut reader.channel (state_of reader before) (map is_high l) (map is_high m)

  -- the first piece was refused, or told something
  pub first_says : eqb (told first.answer).refusal 0 && is_nothing (told first.answer).event ≡ false → ListenSays reader samples before middle first
  first_says q = by (refusal reader before) refl
    where
      by : (n : ℕ) → refusal reader before ≡ n → ListenSays reader samples before middle first
      by zero ok =
          let a = answer_is reader l before middle first h ok in
          let loud : is_nothing (heard reader l before).told ≡ false =
          ap (λ (t : Told). eqb t.refusal 0 && is_nothing t.event) (sym a) ∙ q in
          says_heard reader samples before middle first (heard reader l before) ok
          (sym (whole ∙ then_first (heard reader l before).told (heard reader l before) _ loud)) a
          (taken_is reader l before middle first h ok) (reader_is reader l before middle first h ok) (memory_is reader l before middle first h ok)
      by (suc n) z =
          let some : refusal reader before ≡ 0 → ⊥ = λ y. omega arith in
          record {
            answers =
                h.answers ∙ ap (λ (t : decoder.Told). record { refusal = refusal reader before; event = t })
                (if_refused _ _ _ some ∙ sym (if_refused _ _ _ some));
            takes = h.takes ∙ if_refused _ _ _ some ∙ sym (if_refused _ _ _ some);
            leaves = h.leaves ∙ if_refused _ _ _ some ∙ sym (if_refused _ _ _ some);
            keeps = h.keeps ∙ if_refused _ _ _ some ∙ sym (if_refused _ _ _ some);
          }

  -- it told nothing, and the second went on
  pub both_say : eqb (told first.answer).refusal 0 && is_nothing (told first.answer).event ≡ true
      → ListenSays first.reader m middle after second
      → ListenSays reader samples before after
      (record { answer = second.answer; taken = first.taken + second.taken; reader = second.reader })
  both_say q h2 =
      let n0 = both_true (eqb (told first.answer).refusal 0) (is_nothing (told first.answer).event) q in
      let ok : refusal reader before ≡ 0 = sym (ap (λ (t : Told). t.refusal) h.answers) ∙ eqb-true (told first.answer).refusal 0 n0.0 in
      let ok2 = behind_accepted reader l before middle first h ok in
      let a = answer_is reader l before middle first h ok in
      let quiet : is_nothing (heard reader l before).told ≡ true = ap (λ (t : Told). is_nothing t.event) (sym a) ∙ n0.1 in
      let p = heard reader l before in
      let q2 = piece reader.channel p.state (map is_high m) in
      let next : heard first.reader m middle ≡ q2 =
      ap₂ (λ (x : Reader) (y : List ℕ). heard x m y) (reader_is reader l before middle first h ok) (memory_is reader l before middle first h ok) in
      says_heard reader samples before after
      (record { answer = second.answer; taken = first.taken + second.taken; reader = second.reader })
      (record { taken = p.taken + q2.taken; state = q2.state; told = q2.told }) ok
      (sym (whole ∙ then_both p.told p q2 quiet))
      (answer_is first.reader m middle after second h2 ok2 ∙ ap (λ (x : Piece). record { refusal = 0; event = x.told }) next)
      (ap₂ (λ (x y : ℕ). x + y) (taken_is reader l before middle first h ok)
      (taken_is first.reader m middle after second h2 ok2 ∙ ap (λ (x : Piece). x.taken) next))
      (reader_is first.reader m middle after second h2 ok2
      ∙ ap₂ (λ (k : Channel) (x : Piece). reader_of k x.state) (ap (λ (x : Reader). x.channel) (reader_is reader l before middle first h ok)) next)
      (memory_is first.reader m middle after second h2 ok2 ∙ ap (λ (x : Piece). x.state.place.memory) next)
