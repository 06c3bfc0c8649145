-- An event, by what was found of it: for the crates above.
use Prim.Native.Nat.{ℕ}
use mathlib.Core.Path.{◌≡◌, sym, ap, ◌∙◌}
use mathlib.Core.Bool.{true, false, not}
use mathlib.Core.List.{List}
use borrow.Author.Tests.{eq-eqb}
use Rattle.std.specs.Prelude.{Ok, Err}
use Rattle.refusal.specs.Refusal.{first, if_accepted}
use Rattle.refusal.proofs.FirstLaws.{start, passed, first_at, first_none_left, if_accepted_lem}
use Rattle.base_types.specs.declared.channel.Channel.{Channel}
use Rattle.header.specs.declared.Header.{Header}
use Rattle.header.specs.Layout.{no_header}
use Rattle.frame.specs.Read.{Told, header_read, refusals_on, rule_on, ReadOnSays}
use Rattle.slot.specs.declared.status.Status.{Status}
use Rattle.slot.specs.Judging.{Place, first_miss}
use Rattle.slot.specs.Sound.{sound}
use Rattle.slot_events.specs.Effect.{Event, arrival, kept_by, reason_by, of_refused, of_accepted, is_refused, brings, after}
use Rattle.slot_events.specs.Events.{event_refusals, EventSays}

-- ---- the reader's answer

pub brings_refused : (p : Place) (bytes : List ℕ) → is_refused p.channel bytes ≡ true
    → brings p (arrival bytes) ≡ of_refused (rule_on p.channel bytes).checksums
brings_refused p bytes out = rw out

-- an accepted answer: nothing is refused, and the header is the one that was read
pub accepted_none : (channel : Channel) (bytes : List ℕ) (h : Header) → ReadOnSays channel bytes (Ok h)
    → (first (refusals_on channel bytes) ≡ 0) × (header_read bytes ≡ h)
accepted_none channel bytes h says =
    let none : first (refusals_on channel bytes) ≡ 0 = sym (ap (λ (t : Told). t.number) says) in (
      none,
      sym (ap (λ (t : Told). t.header) says ∙ if_accepted_lem (first (refusals_on channel bytes)) (header_read bytes) no_header none),
    )

pub brings_frame : (p : Place) (bytes : List ℕ) (h : Header) → ReadOnSays p.channel bytes (Ok h)
    → brings p (arrival bytes) ≡ of_accepted (reason_by (first_miss p h)) (kept_by (first_miss p h) h)
brings_frame p bytes h says =
    let a = accepted_none p.channel bytes h says in
    let accepted : is_refused p.channel bytes ≡ false = ap not (eq-eqb (first (refusals_on p.channel bytes)) 0 a.0) in
    rw (accepted, a.1)

-- ---- the statement

pub event_refused : (s : Status) (e : Event) → sound s ≡ false → EventSays s e (record { answer = Err (record {}); state = s })
event_refused s e h =
    let n : first (event_refusals s) ≡ 23 = first_at start (ap not h) in
    record { answers = sym n; leaves = sym (ap (λ (k : ℕ). if_accepted k (after s e) s) n) }

pub event_recorded : (s : Status) (e : Event) → sound s ≡ true → EventSays s e (record { answer = Ok tt; state = after s e })
event_recorded s e h =
    let n : first (event_refusals s) ≡ 0 = first_none_left (passed (ap not h)) in
    record { answers = sym n; leaves = sym (ap (λ (k : ℕ). if_accepted k (after s e) s) n) }
