-- A piece of samples, one by one.
use Prim.Native.Nat.{ℕ, suc, ◌+◌, ◌<◌}
use mathlib.Core.Path.{◌≡◌, refl, sym, ap, ◌∙◌}
use mathlib.Core.Bool.{true, false, false≢true}
use mathlib.Core.List.{List, map}
use native.Mathlib.Nat.{zero-add}
use native.Mathlib.Omega.{arith}
use lib.ListN.{length, get_or, drop, drop_of_length-le}
use lib.Seq.{drop-cons}
use Rattle.base_types.specs.declared.channel.Channel.{Channel}
use Rattle.wire_reader.specs.Decoder.{Told, nothing, frame, wrong, is_nothing}
use Rattle.wire_reader.specs.Reader.{State, Step, Piece, or_else, step, piece, state_of, reader_of}
use Rattle.wire_reader.specs.Event.{Event}
use Rattle.wire_reader.specs.declared.reader.Reader.{Reader}
use Rattle.std.specs.Prelude.{is_some, None, Some, Ok, Err}
use Rattle.wire_reader.specs.declared.listening.Listened.{Listened}
use Rattle.wire_reader.specs.Listening.{is_high, told_by, told}
use Rattle.wire_reader.specs.Pending.{TakeSays}

-- A piece, behind samples that were taken before it.
abbrev pub added : ℕ → Piece → Piece
added n p = record { taken = n + p.taken; state = p.state; told = p.told }

pub added_none : (p : Piece) → added 0 p ≡ p
added_none p = ap (λ (k : ℕ). record { taken = k; state = p.state; told = p.told }) (zero-add p.taken)

turn : (channel : Channel) (s : State) (samples : List ℕ) (i : ℕ) (r : Step) → i < length samples
    → r ≡ step channel s (is_high (get_or samples i 0))
    → piece channel s (map is_high (drop i samples))
    ≡ or_else r.told r.state (piece channel r.state (map is_high (drop (suc i) samples)))
unfolding piece
turn channel s samples i r h e =
    ap (λ (l : List ℕ). piece channel s (map is_high l)) (drop-cons samples i 0 h)
    ∙ ap (λ (q : Step). or_else q.told q.state (piece channel q.state (map is_high (drop (suc i) samples)))) (sym e)

quiet : (t : Told) → is_nothing t ≡ true → t ≡ nothing
quiet nothing e = refl
quiet (frame header size since) e = absurd (false≢true e)
quiet (wrong told) e = absurd (false≢true e)

loud : (t : Told) (s : State) (p : Piece) → is_nothing t ≡ false → record { taken = 1; state = s; told = t } ≡ or_else t s p
loud nothing s p e = absurd (false≢true (sym e))
loud (frame header size since) s p e = refl
loud (wrong told) s p e = refl

module _ (channel : Channel) (s after : State) (samples : List ℕ) (i : ℕ) (t : Told) (h : i < length samples)
    (e : record { state = after; told = t } ≡ step channel s (is_high (get_or samples i 0))) where
  -- nothing was told: the others come
  pub turn_on : is_nothing t ≡ true
      → added (i + 1) (piece channel after (map is_high (drop (i + 1) samples))) ≡ added i (piece channel s (map is_high (drop i samples)))
  turn_on q =
      let p = piece channel after (map is_high (drop (suc i) samples)) in
      let one : i + 1 ≡ suc i = omega arith in
      let sum : i + 1 + p.taken ≡ i + suc p.taken = omega arith in
      ap (λ (k : ℕ). added (i + 1) (piece channel after (map is_high (drop k samples)))) one
      ∙ ap (λ (k : ℕ). record { taken = k; state = p.state; told = p.told }) sum
      ∙ ap (λ (k : Told). added i (or_else k after p)) (sym (quiet t q))
      ∙ ap (added i) (sym (turn channel s samples i (record { state = after; told = t }) h e))

  -- something was told: it is the last
  pub turn_end : is_nothing t ≡ false
      → record { taken = i + 1; state = after; told = t } ≡ added i (piece channel s (map is_high (drop i samples)))
  turn_end q =
      ap (added i) (loud t after (piece channel after (map is_high (drop (suc i) samples))) q)
      ∙ ap (added i) (sym (turn channel s samples i (record { state = after; told = t }) h e))

-- no sample is left
pub none_left : (channel : Channel) (s : State) (samples : List ℕ) (i : ℕ) → i ≡ length samples
    → record { taken = length samples; state = s; told = nothing } ≡ added i (piece channel s (map is_high (drop i samples)))
unfolding piece
none_left channel s samples i h =
    ap (λ (k : ℕ). record { taken = k; state = s; told = nothing }) (omega arith)
    ∙ ap (λ (l : List ℕ). added i (piece channel s (map is_high l))) (sym (drop_of_length-le samples {i = i} (omega arith)))

-- ---- what is said of it

-- an event tells something, or it is none
pub told_some : (event : Event) → is_some event ≡ true → is_nothing (told_by event) ≡ false
told_some None e = absurd (false≢true e)
told_some (Some (Ok heard)) e = refl
told_some (Some (Err error)) e = refl

pub told_none : (event : Event) → is_some event ≡ false → is_nothing (told_by event) ≡ true
told_none None e = refl
told_none (Some told) e = absurd (false≢true (sym e))

-- what was taken is the piece
pub take-says : (channel : Channel) (reader : Reader) (memory : List ℕ) (event : Event) (n : ℕ) (p : Piece) (r : Listened)
    → r ≡ record { answer = Ok event; taken = n; reader = reader }
    → record { taken = n; state = state_of reader memory; told = told_by event } ≡ p → reader.channel ≡ channel
    → TakeSays channel p memory r
take-says channel reader memory event n p r h e c =
    record {
      answers = ap (λ (x : Listened). told x.answer) h ∙ ap (λ (q : Piece). record { refusal = 0; event = q.told }) e;
      takes = ap (λ (x : Listened). x.taken) h ∙ ap (λ (q : Piece). q.taken) e;
      leaves =
          ap (λ (x : Listened). x.reader) h ∙ ap (λ (k : Channel). reader_of k (state_of reader memory)) c
          ∙ ap (λ (q : Piece). reader_of channel q.state) e;
      keeps = ap (λ (q : Piece). q.state.place.memory) e;
    }
