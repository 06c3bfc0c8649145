-- Claims about the bits of a frame, and about what encoding leaves of them in the output.
use Rattle.std.specs.Prelude.{ℕ, ◌+◌, ◌*◌, ◌-◌, ◌<◌, ◌≤◌, ◌≡◌, List, ◌↔◌, length, take, drop, replicate, Ok}
use Rattle.division.specs.Bits.{bytes_bits, AreBytes}
use Rattle.frame_claims.specs.Exact.{IsFrame}
use Rattle.wire.specs.Stream.{low, stream}
use Rattle.wire.specs.Encode.{Encoding, EncodeSays}

-- "For n bytes and t start bits that is t + 10n + 3 bits".
abbrev pub bits_of : ℕ → List ℕ → ℕ
bits_of start bytes = start + 10 * length bytes + 3

abbrev pub StreamLength : Type 0
StreamLength = (start : ℕ) (bytes : List ℕ) → length (stream start bytes) ≡ bits_of start bytes

-- A stream tells its start length and its bytes, however long they are.
abbrev pub StreamTells : Type 0
StreamTells =
    (s t : ℕ) (x y : List ℕ) → AreBytes x → AreBytes y → stream s x ≡ stream t y → (s ≡ t) × (x ≡ y)

-- ---- what is encoded

-- These bytes are a frame, the start length is 1 to 15, and the output has room for as many bits.
pub record Encodable (channel : ℕ) (bytes : List ℕ) (start : ℕ) (output : List ℕ) : Type 0 where
  pub frame : IsFrame channel bytes
  pub start_length : (1 ≤ start) × (start ≤ 15)
  pub room : bits_of start bytes ≤ 8 * length output

-- Encoding accepts exactly these.
abbrev pub EncodeExactly : Type 0
EncodeExactly =
    (channel : ℕ) (bytes : List ℕ) (start : ℕ) (before after : List ℕ) (r : Encoding)
    → AreBytes bytes → EncodeSays channel bytes start before after r
    → (r ≡ Ok (bits_of start bytes)) ↔ Encodable channel bytes start before

-- ---- what lies in the output

-- The first bits of the output are the stream. `size` bytes, and no fewer, have room for them; what is left of the last of these is 0, and
-- the bytes behind it are as they were.
pub record Laid (start : ℕ) (bytes before after : List ℕ) : Type 0 where
  pub size : ℕ
  pub holds : (bits_of start bytes ≤ 8 * size) × (8 * size < bits_of start bytes + 8)
  pub first : take (bits_of start bytes) (bytes_bits after) ≡ stream start bytes
  pub spare : drop (bits_of start bytes) (bytes_bits (take size after)) ≡ replicate (8 * size - bits_of start bytes) low
  pub behind : drop size after ≡ drop size before
  pub same : length after ≡ length before

abbrev pub EncodeLays : Type 0
EncodeLays =
    (channel : ℕ) (bytes : List ℕ) (start : ℕ) (before after : List ℕ) (count : ℕ)
    → EncodeSays channel bytes start before after (Ok count) → (count ≡ bits_of start bytes) × Laid start bytes before after

-- ---- what the witnesses show

-- `encoded`: bits come back exactly where these can be encoded, and then as many as there are and as said in the output; otherwise none,
-- and the output is as it was.
pub record EncodedBits (channel : ℕ) (bytes : List ℕ) (start : ℕ) (before after : List ℕ) (count : ℕ) : Type 0 where
  pub exactly : (count ≡ bits_of start bytes) ↔ Encodable channel bytes start before
  pub laid : (count ≡ 0 → ⊥) → (count ≡ bits_of start bytes) × Laid start bytes before after
  pub refused : count ≡ 0 → after ≡ before

-- `both_encoded`: where the same bits lie in both outputs, the start lengths are the same and so are the bytes.
abbrev pub ToldApart : ℕ → List ℕ → List ℕ → ℕ → List ℕ → List ℕ → Type 0
ToldApart s x after_x t y after_y =
    take (bits_of s x) (bytes_bits after_x) ≡ take (bits_of t y) (bytes_bits after_y) → (s ≡ t) × (x ≡ y)
