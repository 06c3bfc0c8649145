-- Streams that were worked out by hand (docs/RULES.md, "Numbers to check against"), shown of the rule itself.
use Rattle.std.specs.Prelude.{ℕ, ◌≡◌, List, [], ◌∷◌, length}
use Rattle.wire.specs.Stream.{stream}
use Rattle.wire.specs.Packing.{packed}

-- The frame of ID 1, no payload and cycle 0 on channel A.
abbrev pub short_frame : List ℕ
short_frame = 0x20 ∷ 0x01 ∷ 0x01 ∷ 0xA7 ∷ 0xC0 ∷ 0xD0 ∷ 0x5E ∷ 0xEA ∷ []

-- With this start length it has so many bits, packed in these bytes.
abbrev pub Sends : ℕ → ℕ → List ℕ → Type 0
Sends start count bytes = (length (stream start short_frame) ≡ count) × (packed (stream start short_frame) ≡ bytes)

pub record KnownStreams : Type 0 where
  pub one : Sends 1 84 (0x62 ∷ 0x08 ∷ 0x06 ∷ 0x01 ∷ 0xA9 ∷ 0xEC ∷ 0x0B ∷ 0x42 ∷ 0x5E ∷ 0xBA ∷ 0x90 ∷ [])
  pub three : Sends 3 86 (0x18 ∷ 0x82 ∷ 0x01 ∷ 0x80 ∷ 0x6A ∷ 0x7B ∷ 0x02 ∷ 0xD0 ∷ 0x97 ∷ 0xAE ∷ 0xA4 ∷ [])
  pub fifteen : Sends 15 98 (0x00 ∷ 0x01 ∷ 0x88 ∷ 0x20 ∷ 0x18 ∷ 0x06 ∷ 0xA7 ∷ 0xB0 ∷ 0x2D ∷ 0x09 ∷ 0x7A ∷ 0xEA ∷ 0x40 ∷ [])
