-- Claims about soundness. 01: "A slot status is sound if its settings, channel, slot and cycle would open a slot, a content reason stands
-- exactly with "content error", a frame is kept exactly with "valid", is one that a read could give and passes (a) to (e), and
-- "conflict" stands exactly when own sending is recorded and one of "syntax error", "content error" and "valid" stands", and "Every accepted
-- call returns a sound state." 02 adds: "(f) only with "valid"" (C-15), and of the checksums of the first syntax error "0, 0 without one, else
-- unsound" (C-18).
use Rattle.std.specs.Prelude.{ℕ, ◌≡◌, true, false, List, ◌⊎◌, ◌↔◌, Some, None, Ok}
use Rattle.division.specs.Bits.{AreBytes}
use Rattle.base_types.specs.declared.channel.Channel.{Channel}
use Rattle.base_types.specs.Channel.{number_of}
use Rattle.base_types.specs.declared.id.Slot.{Slot}
use Rattle.base_types.specs.declared.cycle.Cycle.{Cycle}
use Rattle.checksum.specs.Pair.{no_checksums}
use Rattle.header.specs.declared.Header.{Header}
use Rattle.frame.specs.Read.{ReadOnSays}
use Rattle.settings.specs.declared.Settings.{Settings}
use Rattle.slot.specs.declared.status.Reason.TheVariants.{SecondGoodFrame}
use Rattle.slot.specs.declared.status.Status.{Status}
use Rattle.slot.specs.Judging.{place_of, no_status}
use Rattle.slot.specs.Opening as opening
use Rattle.slot.specs.Opening.{Opened, OpenSays}
use Rattle.slot.specs.Sound.{could_be_read, sound}
use Rattle.slot_events.specs.Effect.{Event}
use Rattle.slot_events.specs.Events as event
use Rattle.slot_events.specs.Events.{Judged, EventSays}
use Rattle.slot_claims.specs.Content.{Passes}

-- Some byte string is accepted with this header on this channel.
abbrev pub Readable : Channel → Header → Type 0
Readable channel header = (bytes : List ℕ) × AreBytes bytes × ReadOnSays channel bytes (Ok header)

-- 01's sentence in words, with 02's.
pub record SoundStatus (s : Status) : Type 0 where
  pub opens : (r : Opened) × OpenSays s.settings (number_of s.channel) s.slot s.cycle r × ((opening.told r.answer).number ≡ 0)
  pub reason : (s.content_error ≡ true) ↔ (s.reason ≡ None → ⊥)
  pub valid : (s.valid ≡ true) ↔ ((h : Header) × (s.kept ≡ Some h))
  pub kept : (h : Header) → s.kept ≡ Some h → Readable s.channel h × Passes (place_of s) h
  pub second : s.reason ≡ Some SecondGoodFrame → s.valid ≡ true
  pub checksums : s.syntax_error ≡ false → s.checksums ≡ no_checksums
  pub conflict : (s.conflict ≡ true)
      ↔ (s.own_sending ≡ true) × ((s.syntax_error ≡ true) ⊎ ((s.content_error ≡ true) ⊎ (s.valid ≡ true)))

-- A header passes "one that a read could give" exactly when some byte string is accepted with it, on either channel.
abbrev pub CouldBeReadExactly : Type 0
CouldBeReadExactly = (channel : Channel) (h : Header) → (could_be_read h ≡ true) ↔ Readable channel h

-- The rule is the sentence: no stronger and no weaker.
abbrev pub SoundExactly : Type 0
SoundExactly = (s : Status) → (sound s ≡ true) ↔ SoundStatus s

-- "all zeros with clear flags, which isn't sound".
abbrev pub NoStatusUnsound : Type 0
NoStatusUnsound = sound no_status ≡ false

-- "Every accepted call returns a sound state."
abbrev pub OpenedSound : Type 0
OpenedSound =
    (settings : Settings) (channel : ℕ) (slot : Slot) (cycle : Cycle) (r : Opened) → OpenSays settings channel slot cycle r
    → (opening.told r.answer).number ≡ 0 → sound r.state ≡ true

abbrev pub EventSound : Type 0
EventSound =
    (status : Status) (e : Event) (r : Judged) → EventSays status e r → event.told r.answer ≡ 0 → sound r.state ≡ true
