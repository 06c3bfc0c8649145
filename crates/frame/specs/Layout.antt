-- What a frame is (01, "Frame layout"): which bits its header, payload and trailer make, in the order in which they are sent.
use Rattle.std.specs.Prelude.{ℕ, ◌*◌, ◌≤◌, ◌≡◌, Bool, true, List, ◌++◌, length}
use Rattle.base_types.specs.Cycle.{highest_cycle}
use Rattle.base_types.specs.Slot.{highest_id}
use Rattle.division.specs.Bits.{bits, bytes_bits, AreBytes}
use Rattle.base_types.specs.declared.channel.Channel.{Channel}
use Rattle.checksum.specs.Checksums.{frame_division}
use Rattle.header.specs.declared.Header.{Header}
use Rattle.header.specs.Layout.{most_words, whole_header, header_checksum_of}

-- "Five header bytes, payload, three trailer bytes".
abbrev pub frame_bits : Header → List ℕ → ℕ → List Bool
frame_bits header payload trailer = whole_header header ++ (bytes_bits payload ++ bits 24 trailer)

-- The frame checksum that belongs behind a header and a payload: "over the whole header (its checksum included) and the payload".
abbrev pub frame_checksum_of : Channel → Header → List ℕ → ℕ
frame_checksum_of channel header payload = frame_division channel (whole_header header ++ bytes_bits payload)

-- These bytes are a frame on this channel, with this header and this payload.
pub record Frame (channel : Channel) (bytes : List ℕ) (header : Header) (payload : List ℕ) : Type 0 where
  -- A byte string is one of numbers below 256, and so is a payload.
  pub are_bytes : AreBytes bytes
  pub payload_are_bytes : AreBytes payload
  -- The bytes' bits are those of the layout, the frame checksum that belongs there included.
  pub layout : bytes_bits bytes ≡ frame_bits header payload (frame_checksum_of channel header payload)
  -- The header checksum is the one that belongs there.
  pub checksum : header.checksum ≡ header_checksum_of header
  -- "frame ID, 1 to 2047".
  pub id : (1 ≤ header.id.0) × (header.id.0 ≤ highest_id)
  -- The payload length, in words, which is the payload's.
  pub words : header.words ≤ most_words
  pub payload_length : length payload ≡ 2 * header.words
  -- "cycle, 0 to 63".
  pub cycle : header.cycle.0 ≤ highest_cycle
  -- Startup is set only with sync.
  pub startup : header.startup ≡ true → header.sync ≡ true
