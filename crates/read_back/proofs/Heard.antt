-- What a fresh reader's calls give of frames that were sent.
use Prim.Native.Nat.{ℕ, suc, ◌+◌, ◌≤◌}
use mathlib.Core.Path.{◌≡◌, refl, sym, ap, ◌∙◌}
use mathlib.Core.Bool.{Bool, false}
use mathlib.Core.List.{List, [], ◌∷◌, map, append-nil}
use native.Mathlib.Nat.{zero-add}
use native.Mathlib.Omega.{arith}
use lib.ListN.{length}
use Rattle.refusal.specs.Refusal.{if_accepted}
use Rattle.refusal.proofs.FirstLaws.{passed, first_none_left, if_accepted_lem}
use Rattle.division.specs.Division.{exor}
use Rattle.base_types.specs.declared.channel.Channel.{Channel}
use Rattle.base_types.specs.Channel.{not_a_channel, channel_of}
use Rattle.header.specs.Layout.{longest_frame}
use Rattle.wire_reader.specs.declared.reader.Reader.{Reader}
use Rattle.wire_reader.specs.declared.listening.Listened.{Listened}
use Rattle.wire_reader.specs.Decoder.{Place}
use Rattle.wire_reader.specs.Reader.{State, Event, Run, Piece, fresh, run, piece, fresh_reader, no_reader}
use Rattle.wire_reader.specs.Opening.{Opened, OpenSays}
use Rattle.wire_reader.specs.Listening as listening
use Rattle.wire_reader.specs.Listening.{is_high, told, heard, refusal, ListenSays}
use Rattle.reader_claims.specs.declared.Played.{Played}
use Rattle.reader_claims.specs.Playing.{frames_in, errors_in, all_of, PlayedSays}
use Rattle.reader_claims.proofs.Soundness.{ready_accepted}
use Rattle.reader_claims.proofs.Playing.{first_event}
use Rattle.read_back.specs.Sending.{Sending, none, ◌and◌, samples_of, samples_of_all, size_of, end_of, since_of, given, events_of}
use Rattle.read_back.specs.Disturbed as disturbed
use Rattle.read_back.specs.Disturbed.{GivenNearly}
use Rattle.read_back.specs.Witnesses.{Ready, FirstHeard, AllHeard}
use Rattle.read_back.proofs.ReadBack.{everything_read_back}
use Rattle.read_back.proofs.Undisturbed.{undisturbed}

-- ---- a fresh reader

opened_is : (channel : ℕ) (r : Opened) → OpenSays channel r → not_a_channel channel ≡ false → r.state ≡ fresh_reader (channel_of channel)
opened_is channel r h e =
    h.leaves ∙ ap (λ (n : ℕ). if_accepted n (fresh_reader (channel_of channel)) no_reader) (first_none_left (passed e))

accepted : (channel : Channel) (memory : List ℕ) → longest_frame ≤ length memory → refusal (fresh_reader channel) memory ≡ 0
accepted channel memory room = ready_accepted (fresh_reader channel) memory (record { sound = refl; room = room })

-- ---- one sending

one_sent : (s : Sending) → samples_of_all (s ∷ []) ≡ samples_of s
unfolding samples_of_all
one_sent s = append-nil (samples_of s)

one_event : (s : Sending) → events_of 0 (s ∷ []) ≡ given (0 + end_of s) (since_of s) s ∷ []
unfolding events_of
one_event s = refl

pub first_heard : (channel : ℕ) (samples before after : List ℕ) (opened : Opened) (r : Listened) → OpenSays channel opened
    → ListenSays opened.state samples before after r → FirstHeard channel samples before after r
first_heard channel samples before after opened r o h s ready right e =
    let ch = channel_of channel in
    let same = opened_is channel opened o ready.named in
    let ok : refusal opened.state before ≡ 0 = ap (λ (x : Reader). refusal x before) same ∙ accepted ch before ready.room in
    let p : heard opened.state samples before ≡ piece ch (fresh before) (samples_of s) =
    ap (λ (x : Reader). heard x samples before) same ∙ ap (piece ch (fresh before)) e in
    let back = everything_read_back (channel_of channel) 0 before (s ∷ []) ready.room (◌and◌ right none) in
    let k = first_event ch (fresh before) (samples_of s) (given (0 + end_of s) (since_of s) s) []
    (ap (λ (l : List Bool). (run ch 0 (fresh before) l).events) (sym (one_sent s)) ∙ back.events ∙ one_event s) in
    record {
      event =
          ap (λ (t : listening.Told). t.event) h.answers ∙ if_accepted_lem _ _ _ ok ∙ ap (λ (q : Piece). q.told) p ∙ k.0;
      taken = h.takes ∙ if_accepted_lem _ _ _ ok ∙ ap (λ (q : Piece). q.taken) p ∙ k.1 ∙ ap suc (zero-add (end_of s));
    }

-- ---- any number of them

frames_of : (i : ℕ) (l : List Sending) → (frames_in (events_of i l) ≡ length l) × (errors_in (events_of i l) ≡ 0)
unfolding frames_in errors_in events_of
frames_of i [] = (refl, refl)
frames_of i (s ∷ l) =
    let r = frames_of (i + size_of s) l in
    let f = r.0 in
    let g = r.1 in
    (omega arith, omega arith)

nearly_frames : {i : ℕ} {l : List Sending} {events : List Event} → GivenNearly i l events → (frames_in events ≡ length l) × (errors_in events ≡ 0)
unfolding frames_in errors_in
nearly_frames disturbed.none = (refl, refl)
nearly_frames (disturbed.one end reference e r rest) =
    let k = nearly_frames rest in
    let f = k.0 in
    let g = k.1 in
    (omega arith, omega arith)

pub all_heard : (channel : ℕ) (samples before after : List ℕ) (opened : Opened) (r : Played) → OpenSays channel opened
    → PlayedSays opened.state samples before after r → AllHeard channel samples before after r
all_heard channel samples before after opened r o h =
    record {
      clean = λ l ready right e.
          let back = everything_read_back (channel_of channel) 0 before l ready.room right in
          let events = whole ready (samples_of_all l) e in
          let k = frames_of 0 l in (
            frames-are ready ∙ ap (λ (x : Run State). frames_in x.events) events ∙ ap frames_in back.events ∙ k.0,
            errors-are ready ∙ ap (λ (x : Run State). errors_in x.events) events ∙ ap errors_in back.events ∙ k.1,
            memory_is ready ∙ ap (λ (x : Run State). x.state.place.memory) events ∙ ap (λ (p : Place). p.memory) back.place,
          );
      disturbed = λ l flips ready right size far e.
          let events = whole ready (exor flips (samples_of_all l)) e in
          let k = nearly_frames (undisturbed (channel_of channel) 0 before l flips ready.room right size far) in (
            frames-are ready ∙ ap (λ (x : Run State). frames_in x.events) events ∙ k.0,
            errors-are ready ∙ ap (λ (x : Run State). errors_in x.events) events ∙ k.1,
          );
    }
  where
    ok : Ready channel before → refusal opened.state before ≡ 0
    ok ready = ap (λ (x : Reader). refusal x before) (opened_is channel opened o ready.named) ∙ accepted (channel_of channel) before ready.room

    whole : Ready channel before → (l : List Bool) → map is_high samples ≡ l → all_of opened.state samples before ≡ run (channel_of channel) 0 (fresh before) l
    whole ready l e =
        ap (λ (x : Reader). all_of x samples before) (opened_is channel opened o ready.named) ∙ ap (run (channel_of channel) 0 (fresh before)) e

    frames-are : Ready channel before → r.frames ≡ frames_in (all_of opened.state samples before).events
    frames-are ready = h.frames ∙ if_accepted_lem _ _ _ (ok ready)

    errors-are : Ready channel before → r.errors ≡ errors_in (all_of opened.state samples before).events
    errors-are ready = h.errors ∙ if_accepted_lem _ _ _ (ok ready)

    memory_is : Ready channel before → after ≡ (all_of opened.state samples before).state.place.memory
    memory_is ready = h.keeps ∙ if_accepted_lem _ _ _ (ok ready)
