-- Frames sent one behind the other are told, each once, and nothing else is.
use Prim.Native.Nat.{ℕ, ◌+◌, ◌*◌, ◌-◌, ◌≤◌}
use mathlib.Core.Path.{◌≡◌, refl, sym, ap, ◌∙◌, subst}
use mathlib.Core.Bool.{Bool, true}
use mathlib.Core.List.{List, [], ◌∷◌}
use native.Mathlib.Omega.{arith}
use lib.ListN.{length}
use Rattle.lent_bytes.specs.Over.{over}
use Rattle.lent_bytes.proofs.OverLaws.{length_over}
use Rattle.base_types.specs.declared.channel.Channel.{Channel}
use Rattle.header.specs.Layout.{longest_frame}
use Rattle.wire_reader.specs.declared.phase.Phase.TheVariants.{Waiting}
use Rattle.wire_reader.specs.Decoder.{without}
use Rattle.wire_reader.specs.Reader.{State, Event, Run, fresh, run}
use Rattle.read_back.specs.Sending.{Sending, Right, AllRight, ◌and◌, samples_of_all, size_of, end_of, since_of, given, memory_after}
use Rattle.read_back.proofs.Accepted.{at_most_262}
use Rattle.read_back.proofs.Patterns.{Flips, Calm}
use Rattle.read_back.proofs.Clocks.{timely}
use Rattle.read_back.proofs.Lifting.{flipped, past4, Edge}
use Rattle.read_back.proofs.Sent.{waiting, Sent, from_waiting, from_fresh}

-- Each is told at the strobe of its end, with the samples since that of its reference point.
pub data Given (exact : Bool) : ℕ → List Sending → List Event → Type 0 where
  nil : {i : ℕ} → Given exact i [] []
  cons : {i : ℕ} {s : Sending} {l : List Sending} {events : List Event} (end reference : ℕ)
      → timely exact end ≡ true → timely exact reference ≡ true → Given exact (i + size_of s) l events
      → Given exact i (s ∷ l) (given (i + end_of s + end - 6) (since_of s + end - reference) s ∷ events)

pub record Read (exact : Bool) (channel : Channel) (i : ℕ) (before : State) (samples : List Bool) (l : List Sending) : Type 0 where
  pub events : Given exact i l (run channel i before samples).events
  pub place : (run channel i before samples).state.place ≡ without Waiting (memory_after l before.place.memory)

module _ (exact : Bool) (channel : Channel) where
  read_on : {i : ℕ} {before : State} {samples : List Bool} (s : Sending) (l : List Sending)
      (r : Sent exact channel i before samples s.idle s.start s.bytes before.place.memory (samples_of_all l))
      → let m = over s.bytes before.place.memory in
      Read exact channel (i + size_of s) (waiting r.edge m) (flipped (past4 r.edge.flips) (samples_of_all l)) l
      → Read exact channel i before samples (s ∷ l)
  unfolding memory_after
  read_on {i} {before} {samples} s l r q =
      let m = over s.bytes before.place.memory in
      let later = run channel (i + size_of s) (waiting r.edge m) (flipped (past4 r.edge.flips) (samples_of_all l)) in
      let sample : i + 8 * (s.idle + s.start + 1 + 10 * length s.bytes) + r.end ≡ i + end_of s + r.end - 6 = omega arith in
      let same : (run channel i before samples).events ≡ given (i + end_of s + r.end - 6) (since_of s + r.end - r.reference) s ∷ later.events =
      ap (λ (x : Run State). x.events) r.goes
      ∙ ap (λ (n : ℕ). given n (since_of s + r.end - r.reference) s ∷ later.events) sample in
      record {
        events = subst (Given exact i (s ∷ l)) (sym same) (cons r.end r.reference r.end_timed r.reference_timed q.events);
        place = ap (λ (x : Run State). x.state.place) r.goes ∙ q.place;
      }

  room_after : {s : Sending} (m : List ℕ) → Right channel s → longest_frame ≤ length m
      → (length s.bytes ≤ length m) × (longest_frame ≤ length (over s.bytes m))
  room_after {s} m right room =
      let fits : length s.bytes ≤ length m = omega (arith, at_most_262 channel s.bytes right.accepted) in
      (fits, omega (arith, length_over s.bytes m fits))

  all_read : (l : List Sending) (e : Edge exact) (i : ℕ) (m : List ℕ) → longest_frame ≤ length m → AllRight channel l
      → Read exact channel i (waiting e m) (flipped (past4 e.flips) (samples_of_all l)) l
  unfolding samples_of_all flipped run memory_after
  all_read [] e i m room all = record { events = nil; place = refl }
  all_read (s ∷ l) e i m room (◌and◌ right all) =
      let rooms = room_after m right room in
      let enough = right.enough in
      let r = from_waiting exact channel s.bytes right.accepted right.bytes m rooms.0 e i s.idle s.start (samples_of_all l)
      (omega arith) (omega arith) right.shortest right.longest in
      read_on s l r (all_read l r.edge (i + size_of s) (over s.bytes m) rooms.1 all)

  pub all_from_fresh : (l : List Sending) (f : Flips) → Calm exact f → (i : ℕ) (m : List ℕ) → longest_frame ≤ length m → AllRight channel l
      → Read exact channel i (fresh m) (flipped f (samples_of_all l)) l
  unfolding samples_of_all flipped run memory_after
  all_from_fresh [] f c i m room all = record { events = nil; place = refl }
  all_from_fresh (s ∷ l) f c i m room (◌and◌ right all) =
      let rooms = room_after m right room in
      let r = from_fresh exact channel s.bytes right.accepted right.bytes m rooms.0 f c i s.idle s.start (samples_of_all l)
      right.enough right.shortest right.longest in
      read_on s l r (all_read l r.edge (i + size_of s) (over s.bytes m) rooms.1 all)
