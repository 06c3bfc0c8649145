-- Claims about whole sequences of events, from the opening of a slot on. The customer's second condition asks that slot status is that of
-- 01's rules, and 01 speaks of what has occurred in a slot. So the rule of a history names no status: it works from the events alone,
-- with what the slot was opened with.
use Rattle.std.specs.Prelude.{ℕ, ◌≡◌, true, List, [], ◌∷◌, ◌++◌, ◌⊎◌, ◌↔◌, Some, Ok}
use Rattle.base_types.specs.declared.id.Slot.{Slot}
use Rattle.base_types.specs.declared.cycle.Cycle.{Cycle}
use Rattle.checksum.specs.declared.pair.ChecksumPair.{ChecksumPair}
use Rattle.checksum.specs.Pair.{no_checksums}
use Rattle.header.specs.declared.Header.{Header}
use Rattle.frame.specs.Read.{rule_on, ReadOnSays}
use Rattle.settings.specs.declared.Settings.{Settings}
use Rattle.slot.specs.declared.status.Miss.{Miss}
use Rattle.slot.specs.declared.status.Reason.TheVariants.{Missed, SecondGoodFrame}
use Rattle.slot.specs.declared.status.Status.{Status}
use Rattle.slot.specs.Judging.{Place, place_of, place_by}
use Rattle.slot.specs.Opening as opening
use Rattle.slot.specs.Opening.{Opened, OpenSays}
use Rattle.slot_events.specs.Effect.{Event, arrival, boundary_activity, own_sending}
use Rattle.slot_events.specs.Events as event
use Rattle.slot_events.specs.Events.{Judged, EventSays}
use Rattle.slot_claims.specs.Content.{Passes, FirstMissed}

-- ---- one event

-- Bytes arrived.
abbrev pub Arrives : Event → Type 0
Arrives e = (bytes : List ℕ) × (e ≡ arrival bytes)

-- Bytes arrived that reading refuses on the slot's channel: it accepts them with no header.
abbrev pub ArrivesRefused : Place → Event → Type 0
ArrivesRefused p e = (bytes : List ℕ) × (e ≡ arrival bytes) × ((h : Header) → ReadOnSays p.channel bytes (Ok h) → ⊥)

-- Bytes arrived of which reading tells these two checksums on the slot's channel.
abbrev pub ArrivesTelling : Place → ChecksumPair → Event → Type 0
ArrivesTelling p checksums e = (bytes : List ℕ) × (e ≡ arrival bytes) × ((rule_on p.channel bytes).checksums ≡ checksums)

-- A frame arrived whose first miss is this one.
abbrev pub ArrivesMissing : Place → Miss → Event → Type 0
ArrivesMissing p miss e =
    (bytes : List ℕ) × (e ≡ arrival bytes) × (h : Header) × ReadOnSays p.channel bytes (Ok h) × FirstMissed p h (Some miss)

-- A frame with this header arrived that passes all tests.
abbrev pub ArrivesPassing : Place → Header → Event → Type 0
ArrivesPassing p h e = (bytes : List ℕ) × (e ≡ arrival bytes) × ReadOnSays p.channel bytes (Ok h) × Passes p h

-- A frame arrived that misses some test, or passes all.
abbrev pub Misses : Place → Event → Type 0
Misses p e = (miss : Miss) × ArrivesMissing p miss e

abbrev pub PassesAll : Place → Event → Type 0
PassesAll p e = (h : Header) × ArrivesPassing p h e

-- ---- many events

-- What is said of an event may depend on the events before it. This holds of it whatever they were.
abbrev pub AnyTime : (Event → Type 0) → List Event → Event → Type 0
AnyTime P before e = P e

-- Of some event this holds, given those before it.
abbrev pub SomeEvent : (List Event → Event → Type 0) → List Event → Type 0
SomeEvent P events = (before : List Event) × (e : Event) × (after : List Event) × (events ≡ before ++ (e ∷ after)) × P before e

-- This event, with these before it, is the first of which it holds.
pub record First (P : List Event → Event → Type 0) (events before : List Event) (e : Event) : Type 0 where
  pub after : List Event
  pub parts : events ≡ before ++ (e ∷ after)
  pub holds : P before e
  pub earlier : SomeEvent P before → ⊥

-- The first event of which P holds is one of which Q holds too.
abbrev pub FirstIs : (P Q : List Event → Event → Type 0) → List Event → Type 0
FirstIs P Q events = (before : List Event) × (e : Event) × First P events before e × Q before e

-- This event is among them.
abbrev pub Occurs : Event → List Event → Type 0
Occurs e events = SomeEvent (AnyTime (λ x. x ≡ e)) events

-- "some frame passed after another had passed": this event is such a frame (02, C-15). The two may be equal.
abbrev pub PassesAgain : Place → List Event → Event → Type 0
PassesAgain p before e = SomeEvent (AnyTime (PassesAll p)) before × PassesAll p e

-- This event gives a content reason: a frame that misses a test, or one that passes after another had passed.
abbrev pub GivesReason : Place → List Event → Event → Type 0
GivesReason p before e = Misses p e ⊎ PassesAgain p before e

-- 01's sentences over all events of a slot that was opened so, with those of 02 (C-15, C-18).
pub record History (p : Place) (events : List Event) (s : Status) : Type 0 where
  pub place : place_of s ≡ p
  -- Syntax error exactly when some arrival was refused.
  pub syntax : (s.syntax_error ≡ true) ↔ SomeEvent (AnyTime (ArrivesRefused p)) events
  -- The two checksums are those that reading tells of the first such arrival, and 0 for both where there was none.
  pub checksums : (told : ChecksumPair)
      → ((s.syntax_error ≡ true) × (s.checksums ≡ told)) ↔ FirstIs (AnyTime (ArrivesRefused p)) (AnyTime (ArrivesTelling p told)) events
  pub none : (SomeEvent (AnyTime (ArrivesRefused p)) events → ⊥) → s.checksums ≡ no_checksums
  -- Content error exactly when some frame missed a test or some frame passed after another had passed. The reason is that of the first such
  -- event: the test that it missed, or (f).
  pub content : (s.content_error ≡ true) ↔ SomeEvent (GivesReason p) events
  pub reason : (miss : Miss) → (s.reason ≡ Some (Missed miss)) ↔ FirstIs (GivesReason p) (AnyTime (ArrivesMissing p miss)) events
  pub second : (s.reason ≡ Some SecondGoodFrame) ↔ FirstIs (GivesReason p) (PassesAgain p) events
  -- Valid exactly when some frame passed all tests, and the kept header is that of the first such.
  pub valid : (s.valid ≡ true) ↔ SomeEvent (AnyTime (PassesAll p)) events
  pub kept : (h : Header) → (s.kept ≡ Some h) ↔ FirstIs (AnyTime (PassesAll p)) (AnyTime (ArrivesPassing p h)) events
  -- Boundary violation exactly when there was boundary activity.
  pub boundary : (s.boundary_violation ≡ true) ↔ Occurs boundary_activity events
  -- Own sending exactly when it occurred, and conflict exactly when own sending and an arrival both did, in whatever order.
  pub sending : (s.own_sending ≡ true) ↔ Occurs own_sending events
  pub conflict : (s.conflict ≡ true) ↔ Occurs own_sending events × SomeEvent (AnyTime Arrives) events

-- A history leaves one status.
abbrev pub HistoryOne : Type 0
HistoryOne = (p : Place) (events : List Event) (s t : Status) → History p events s → History p events t → s ≡ t

-- ---- sequences of calls

-- From one status to another by one call for each event, each with any result that its statement allows.
abbrev pub Calls : Status → List Event → Status → Type 0
Calls s [] t = s ≡ t
Calls s (e ∷ events) t = (r : Judged) × EventSays s e r × Calls r.state events t

-- None of them is refused.
abbrev pub NoneRefused : (s : Status) (events : List Event) (t : Status) → Calls s events t → Type 0
NoneRefused s [] t calls = Unit
NoneRefused s (e ∷ events) t calls = (event.told calls.0.answer ≡ 0) × NoneRefused calls.0.state events t calls.2

-- After an accepted opening and any sequence of events no event was refused, and the status is that of the history.
abbrev pub Histories : Type 0
Histories =
    (settings : Settings) (channel : ℕ) (slot : Slot) (cycle : Cycle) (opened : Opened)
    → OpenSays settings channel slot cycle opened → (opening.told opened.answer).number ≡ 0
    → (sequence : List Event) (s : Status) (calls : Calls opened.state sequence s)
    → NoneRefused opened.state sequence s calls × History (place_by settings channel slot cycle) sequence s
