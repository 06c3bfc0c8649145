-- The claims about the answers, from the statements alone.
use Prim.Native.Nat.{ℕ, zero, suc, ◌-◌}
use mathlib.Core.Path.{◌≡◌, refl, sym, ap, ◌∙◌}
use mathlib.Core.Bool.{cond}
use mathlib.Core.List.{List, [], ◌∷◌}
use native.Mathlib.Omega.{arith}
use lib.Dec.{eqb, leb}
use lib.ListN.{get_or}
use Rattle.refusal.specs.Refusal.{numbered, if_accepted}
use Rattle.refusal.proofs.AnswerLaws.{one_answer}
use Rattle.refusal.proofs.FirstLaws.{told_in_order, if_refused}
use Rattle.std.specs.Prelude.{Result, Some, None, Ok, Err}
use Rattle.base_types.specs.declared.channel.NotAChannel.{NotAChannel}
use Rattle.frame.specs.Read as read
use Rattle.frame.specs.declared.ReadRefusal.{ReadRefusal}
use Rattle.frame.specs.declared.ReadRefusal.TheVariants as refusals
use Rattle.wire_reader.specs.declared.event.WireError.{WireError}
use Rattle.wire_reader.specs.declared.event.WireError.TheVariants as errors
use Rattle.wire_reader.specs.declared.listening.ListenRefusal.TheVariants as listening
use Rattle.wire_reader.specs.declared.reader.Reader.{Reader}
use Rattle.wire_reader.specs.declared.listening.Listened.{Listened}
use Rattle.wire_reader.specs.Decoder as decoder
use Rattle.wire_reader.specs.Reader.{Piece, piece, state_of, reader_of}
use Rattle.wire_reader.specs.Event.{Event}
use Rattle.wire_reader.specs.Opening as opening
use Rattle.wire_reader.specs.Opening.{Opening}
use Rattle.wire_reader.specs.Listening.{Listening, error_told, told_by, Told, told, heard, refusal, ListenSays}
use Rattle.reader_claims.specs.Answers.{OpenOne, ListenOne, OpenInOrder, ListenInOrder, ListenRefused, LevelsAlone}

-- ---- one answer

-- the error that is told
refusal_by : read.Told → ReadRefusal
refusal_by t =
    get_or
    (refusals.NotAChannel ∷ refusals.NotAChannel ∷ refusals.TooShort ∷ refusals.BadSize ∷ refusals.HeaderChecksumDiffers t.checksums
    ∷ refusals.WordsNotSize ∷ refusals.IdZero ∷ refusals.StartupWithoutSync ∷ [])
    t.number (refusals.FrameChecksumDiffers t.checksums)

error_by : read.Told → WireError
error_by t =
    cond (leb t.number 8) (errors.NotAFrame (refusal_by t))
    (get_or
    (errors.StartTooLong ∷ errors.FrameStartTooLong ∷ errors.ByteStartNotHigh ∷ errors.ByteStartNotLow ∷ errors.EndNotLow ∷ [])
    (t.number - 30) errors.EndNotHigh)

error_by_lem : (e : WireError) → error_by (error_told e) ≡ e
unfolding error_by refusal_by
error_by_lem (errors.NotAFrame refusals.NotAChannel) = refl
error_by_lem (errors.NotAFrame refusals.TooShort) = refl
error_by_lem (errors.NotAFrame refusals.BadSize) = refl
error_by_lem (errors.NotAFrame (refusals.HeaderChecksumDiffers checksums)) = refl
error_by_lem (errors.NotAFrame refusals.WordsNotSize) = refl
error_by_lem (errors.NotAFrame refusals.IdZero) = refl
error_by_lem (errors.NotAFrame refusals.StartupWithoutSync) = refl
error_by_lem (errors.NotAFrame (refusals.FrameChecksumDiffers checksums)) = refl
error_by_lem errors.StartTooLong = refl
error_by_lem errors.FrameStartTooLong = refl
error_by_lem errors.ByteStartNotHigh = refl
error_by_lem errors.ByteStartNotLow = refl
error_by_lem errors.EndNotLow = refl
error_by_lem errors.EndNotHigh = refl

-- the event
event_by : decoder.Told → Event
event_by decoder.nothing = None
event_by (decoder.frame header size since) = Some (Ok (record { header = header; size = size; since = since }))
event_by (decoder.wrong t) = Some (Err (error_by t))

event_by_lem : (e : Event) → event_by (told_by e) ≡ e
unfolding event_by
event_by_lem None = refl
event_by_lem (Some (Ok heard)) = refl
event_by_lem (Some (Err error)) = ap (λ (x : WireError). Some (Err x)) (error_by_lem error)

listening_by : Told → Listening
listening_by t =
    cond (eqb t.refusal 23) (Err listening.NotSound) (cond (eqb t.refusal 36) (Err listening.MemoryTooShort) (Ok (event_by t.event)))

listening_by_lem : (r : Listening) → listening_by (told r) ≡ r
unfolding listening_by
listening_by_lem (Ok e) = ap (λ (x : Event). Ok x) (event_by_lem e)
listening_by_lem (Err listening.NotSound) = refl
listening_by_lem (Err listening.MemoryTooShort) = refl

pub listen_one : ListenOne
listen_one reader samples before after after' r s hr hs =
    let answer : r.answer ≡ s.answer = one_answer told listening_by listening_by_lem r.answer s.answer hr.answers hs.answers in
    let taken : r.taken ≡ s.taken = hr.takes ∙ sym hs.takes in
    let next : r.reader ≡ s.reader = hr.leaves ∙ sym hs.leaves in (
      ap (λ (x : Listening). record { answer = x; taken = r.taken; reader = r.reader }) answer
          ∙ ap (λ (x : ℕ). record { answer = s.answer; taken = x; reader = r.reader }) taken
          ∙ ap (λ (x : Reader). record { answer = s.answer; taken = s.taken; reader = x }) next,
      hr.keeps ∙ sym hs.keeps,
    )

opening_by : ℕ → Opening
opening_by zero = Ok tt
opening_by (suc n) = Err (record {})

opening_by_lem : (r : Opening) → opening_by (opening.told r) ≡ r
unfolding opening_by
opening_by_lem (Ok opened) = refl
opening_by_lem (Err refusal) = refl

pub open_one : OpenOne
open_one channel r s hr hs =
    let answer : r.answer ≡ s.answer = one_answer opening.told opening_by opening_by_lem r.answer s.answer hr.answers hs.answers in
    let state : r.state ≡ s.state = hr.leaves ∙ sym hs.leaves in
    ap (λ (x : Opening). record { answer = x; state = r.state }) answer
    ∙ ap (λ (x : Reader). record { answer = s.answer; state = x }) state

-- ---- in order

pub open_in_order : OpenInOrder
unfolding numbered
open_in_order channel r h = told_in_order _ refl h.answers

pub number_is : (reader : Reader) (samples before after : List ℕ) (r : Listened) → ListenSays reader samples before after r
    → (told r.answer).refusal ≡ refusal reader before
number_is reader samples before after r h = ap (λ (t : Told). t.refusal) h.answers

pub listen_in_order : ListenInOrder
unfolding numbered
listen_in_order reader samples before after r h = told_in_order _ refl (number_is reader samples before after r h)

-- ---- a refusal

pub listen_refused : ListenRefused
listen_refused reader samples before after r h refused =
    let some : refusal reader before ≡ 0 → ⊥ = λ e. refused (number_is reader samples before after r h ∙ e) in
    (h.takes ∙ if_refused _ _ _ some, h.leaves ∙ if_refused _ _ _ some, h.keeps ∙ if_refused _ _ _ some)

-- ---- levels

pub levels_alone : LevelsAlone
levels_alone reader samples others before after r e h =
    let n = refusal reader before in
    let same : heard reader samples before ≡ heard reader others before = ap (piece reader.channel (state_of reader before)) e in
    record {
      answers = h.answers ∙ ap (λ (p : Piece). record { refusal = n; event = if_accepted n p.told decoder.nothing }) same;
      takes = h.takes ∙ ap (λ (p : Piece). if_accepted n p.taken 0) same;
      leaves = h.leaves ∙ ap (λ (p : Piece). if_accepted n (reader_of reader.channel p.state) reader) same;
      keeps = h.keeps ∙ ap (λ (p : Piece). if_accepted n p.state.place.memory before) same;
    }
