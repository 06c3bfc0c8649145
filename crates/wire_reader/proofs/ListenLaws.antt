-- What `listen` answers, by the refusal that its tests came to.
use Prim.Native.Nat.{ℕ, suc}
use mathlib.Core.Path.{◌≡◌, sym, ap, ◌∙◌}
use mathlib.Core.List.{List}
use Rattle.refusal.specs.Refusal.{if_accepted}
use Rattle.wire_reader.specs.declared.listening.Listened.{Listened}
use Rattle.wire_reader.specs.declared.reader.Reader.{Reader}
use Rattle.wire_reader.specs.Decoder as decoder
use Rattle.wire_reader.specs.Reader.{reader_of}
use Rattle.wire_reader.specs.Listening.{Listening, told, heard, refusal, ListenSays}
use Rattle.wire_reader.specs.Pending.{TakeSays}

module _ (reader : Reader) (samples before : List ℕ) where
  pub listen_refused : (n : ℕ) (answer : Listening) (r : Listened) → refusal reader before ≡ suc n
      → told answer ≡ record { refusal = suc n; event = decoder.nothing } → r ≡ record { answer = answer; taken = 0; reader = reader }
      → ListenSays reader samples before before r
  listen_refused n answer r e t q =
      let p = heard reader samples before in
      record {
        answers =
            ap (λ (x : Listened). told x.answer) q ∙ t
            ∙ ap (λ (k : ℕ). record { refusal = k; event = if_accepted k p.told decoder.nothing }) (sym e);
        takes = ap (λ (x : Listened). x.taken) q ∙ ap (λ (k : ℕ). if_accepted k p.taken 0) (sym e);
        leaves = ap (λ (x : Listened). x.reader) q ∙ ap (λ (k : ℕ). if_accepted k (reader_of reader.channel p.state) reader) (sym e);
        keeps = ap (λ (k : ℕ). if_accepted k p.state.place.memory before) (sym e);
      }

  pub listen_accepted : (after : List ℕ) (r : Listened) → refusal reader before ≡ 0
      → TakeSays reader.channel (heard reader samples before) after r → ListenSays reader samples before after r
  listen_accepted after r e t =
      let p = heard reader samples before in
      record {
        answers = t.answers ∙ ap (λ (k : ℕ). record { refusal = k; event = if_accepted k p.told decoder.nothing }) (sym e);
        takes = t.takes ∙ ap (λ (k : ℕ). if_accepted k p.taken 0) (sym e);
        leaves = t.leaves ∙ ap (λ (k : ℕ). if_accepted k (reader_of reader.channel p.state) reader) (sym e);
        keeps = t.keeps ∙ ap (λ (k : ℕ). if_accepted k p.state.place.memory before) (sym e);
      }
