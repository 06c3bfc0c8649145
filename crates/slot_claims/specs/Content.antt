-- Claims about tests (a) to (e), in words: which test a frame misses first, if any. 01: "tested in this order, the first miss giving a
-- content reason".
use Rattle.std.specs.Prelude.{◌<◌, ◌≤◌, ◌≡◌, true, false, ◌⊎◌, ◌↔◌, Option, Some, None}
use Rattle.header.specs.declared.Header.{Header}
use Rattle.settings.specs.Sheet.{static_payload_words, static_slots}
use Rattle.slot.specs.declared.status.Miss.{Miss}
use Rattle.slot.specs.declared.status.Miss.TheVariants.{OtherId, OtherCycle, OtherWords, SyncOrStartup, NullFrame}
use Rattle.slot.specs.Judging.{Place, first_miss}

-- "static if slot is at most field 11"; any other slot is dynamic.
abbrev pub Static : Place → Type 0
Static p = p.slot.0 ≤ static_slots p.settings

abbrev pub Dynamic : Place → Type 0
Dynamic p = static_slots p.settings < p.slot.0

-- (a) "ID equals slot", and (b) "cycle equals cycle".
abbrev pub SameId : Place → Header → Type 0
SameId p h = h.id.0 ≡ p.slot.0

abbrev pub SameCycle : Place → Header → Type 0
SameCycle p h = h.cycle.0 ≡ p.cycle.0

-- The frame passes (a) to (e).
pub record Passes (p : Place) (h : Header) : Type 0 where
  pub a : SameId p h
  pub b : SameCycle p h
  -- "static: words equal field 10".
  pub c : Static p → h.words ≡ static_payload_words p.settings
  -- "dynamic: sync and startup clear".
  pub d : Dynamic p → (h.sync ≡ false) × (h.startup ≡ false)
  -- "dynamic: not a null frame", in which the bit would be 0.
  pub e : Dynamic p → h.null_frame_bit ≡ true

-- The frame passes all tests, or this is the first that it misses.
abbrev pub FirstMissed : Place → Header → Option Miss → Type 0
FirstMissed p h None = Passes p h
FirstMissed p h (Some OtherId) = SameId p h → ⊥
FirstMissed p h (Some OtherCycle) = SameId p h × (SameCycle p h → ⊥)
FirstMissed p h (Some OtherWords) = SameId p h × SameCycle p h × Static p × (h.words ≡ static_payload_words p.settings → ⊥)
FirstMissed p h (Some SyncOrStartup) = SameId p h × SameCycle p h × Dynamic p × ((h.sync ≡ true) ⊎ (h.startup ≡ true))
FirstMissed p h (Some NullFrame) = SameId p h × SameCycle p h × Dynamic p × (h.sync ≡ false) × (h.startup ≡ false) × (h.null_frame_bit ≡ false)

-- The rule gives what the tests give.
abbrev pub TestsExactly : Type 0
TestsExactly = (p : Place) (h : Header) (missed : Option Miss) → (first_miss p h ≡ missed) ↔ FirstMissed p h missed
