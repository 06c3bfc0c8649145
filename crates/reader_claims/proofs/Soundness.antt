-- Soundness, of what opening and listening give, and of every state that is reached.
use Prim.Native.Nat.{ℕ, zero, suc}
use mathlib.Core.Path.{◌≡◌, refl, sym, ap, ◌∙◌}
use mathlib.Core.Bool.{Bool, true, false, not}
use mathlib.Core.List.{List, map}
use native.Mathlib.Omega.{arith}
use borrow.Author.Tests.{not-false, le-ltb, ltb-false}
use lib.ListN.{length}
use Rattle.refusal.specs.Refusal.{first, if_accepted, numbered}
use Rattle.refusal.proofs.FirstLaws.{start, passed, ◌then◌, first_at, first_none_left, not_refused, if_accepted_lem, if_refused}
use Rattle.base_types.specs.Channel.{not_a_channel, channel_of}
use Rattle.header.specs.Layout.{longest_frame}
use Rattle.wire_reader.specs.declared.reader.Reader.{Reader}
use Rattle.wire_reader.specs.declared.listening.Listened.{Listened}
use Rattle.wire_reader.specs.Reader.{fresh, state_of, reader_of, fresh_reader, no_reader}
use Rattle.wire_reader.specs.Sound.{sound}
use Rattle.wire_reader.specs.Opening.{opening_refusals}
use Rattle.wire_reader.specs.Listening.{is_high, heard, refusal, listen_refusals, ListenSays}
use Rattle.reader_claims.specs.Soundness.{OpenSound, ListenSound, ReachedSound}
use Rattle.reader_claims.proofs.Kept.{Ready, stays_ready, piece_keeps, run_keeps}

pub open_sound : OpenSound
open_sound channel r h = by (not_a_channel channel) refl
  where
    given : (n : ℕ) → first (opening_refusals channel) ≡ n → r.state ≡ if_accepted n (fresh_reader (channel_of channel)) no_reader
    given n e = h.leaves ∙ ap (λ (k : ℕ). if_accepted k (fresh_reader (channel_of channel)) no_reader) e

    by : (b : Bool) → not_a_channel channel ≡ b → sound r.state ≡ not (not_a_channel channel)
    by true e = ap sound (given 1 (first_at start e)) ∙ sym (ap not e)
    by false e = ap sound (given 0 (first_none_left (passed e))) ∙ sym (ap not e)

-- a call that is not refused
pub accepted_ready : (reader : Reader) (memory : List ℕ) → refusal reader memory ≡ 0 → Ready reader.channel (state_of reader memory)
unfolding numbered
accepted_ready reader memory e =
    record {
      sound = not-false (sound reader) (not_refused (listen_refusals reader memory) refl e 23);
      room = ltb-false (length memory) longest_frame (not_refused (listen_refusals reader memory) refl e 36);
    }

pub behind_ready : (reader : Reader) (samples memory : List ℕ) → refusal reader memory ≡ 0
    → Ready reader.channel (heard reader samples memory).state
behind_ready reader samples memory e =
    piece_keeps (Ready reader.channel) reader.channel (stays_ready reader.channel) (state_of reader memory) (map is_high samples)
    (accepted_ready reader memory e)

-- it is not refused the next time
pub ready_accepted : (reader : Reader) (memory : List ℕ) → Ready reader.channel (state_of reader memory) → refusal reader memory ≡ 0
ready_accepted reader memory h = first_none_left (passed (ap not h.sound) then le-ltb (length memory) longest_frame h.room)

pub behind_accepted : (reader : Reader) (samples before after : List ℕ) (r : Listened) → ListenSays reader samples before after r
    → refusal reader before ≡ 0 → refusal r.reader after ≡ 0
behind_accepted reader samples before after r h e =
    ap (λ (x : Reader). refusal x after) (h.leaves ∙ if_accepted_lem _ _ _ e)
    ∙ ap (refusal (reader_of reader.channel (heard reader samples before).state)) (h.keeps ∙ if_accepted_lem _ _ _ e)
    ∙ ready_accepted (reader_of reader.channel (heard reader samples before).state) (heard reader samples before).state.place.memory
    (behind_ready reader samples before e)

pub listen_sound : ListenSound
listen_sound reader samples before after r h = by (refusal reader before) refl
  where
    by : (n : ℕ) → refusal reader before ≡ n → sound r.reader ≡ sound reader
    by zero e =
        ap sound (h.leaves ∙ if_accepted_lem _ _ _ e) ∙ (behind_ready reader samples before e).sound ∙ sym (accepted_ready reader before e).sound
    by (suc n) e =
        let some : refusal reader before ≡ 0 → ⊥ = λ z. omega arith in
        ap sound (h.leaves ∙ if_refused _ _ _ some)

pub reached_sound : ReachedSound
reached_sound channel i memory samples room =
    (run_keeps (Ready channel) channel (stays_ready channel) i (fresh memory) samples (record { sound = refl; room = room })).sound
