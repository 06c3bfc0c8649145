-- Claims about what is accepted and what is written. The customer's second condition: a byte string is accepted exactly when 01 calls it
-- a frame, and writing gives exactly the bytes that read back as the same frame.
use Rattle.std.specs.Prelude.{ℕ, ◌<◌, ◌≤◌, ◌≡◌, Bool, true, false, cond, List, [], ◌⊎◌, ◌↔◌, eqb, length, get_or, take, drop, Ok, Err}
use Rattle.refusal.specs.Refusal.{InOrder}
use Rattle.division.specs.Bits.{AreBytes}
use Rattle.base_types.specs.declared.channel.Channel.{Channel}
use Rattle.base_types.specs.Channel.{named_by}
use Rattle.header.specs.declared.Header.{Header}
use Rattle.header.specs.declared.Fields.{Fields}
use Rattle.writing.specs.declared.WriteRefusal.TheVariants.{ReservedSet, NullFrameNotEmpty}
use Rattle.frame.specs.Layout.{Frame}
use Rattle.frame.specs.Read.{Reading, ReadSays, PayloadSays}
use Rattle.frame.specs.Read.{refusals as read_refusals}
use Rattle.lent_bytes.specs.Over.{over}
use Rattle.writing.specs.Write.{Writing, told, refusal, WriteSays}

-- These bytes are a frame on the channel that this number names, with this header and this payload.
pub record FrameOn (channel : ℕ) (bytes : List ℕ) (header : Header) (payload : List ℕ) : Type 0 where
  pub on : Channel
  pub named : named_by channel ≡ Ok on
  pub frame : Frame on bytes header payload

-- These bytes are a frame there, with some header and some payload.
abbrev pub IsFrame : ℕ → List ℕ → Type 0
IsFrame channel bytes = (header : Header) × (payload : List ℕ) × FrameOn channel bytes header payload

-- The seven fields of a header that are free when it is written.
abbrev pub fields_of : Header → Fields
fields_of h =
    record {
      reserved = h.reserved;
      preamble = h.preamble;
      null_frame_bit = h.null_frame_bit;
      sync = h.sync;
      startup = h.startup;
      id = h.id;
      cycle = h.cycle;
    }

-- `read` accepts with a header, and `payload` gives a part, exactly when the bytes are a frame with them.
abbrev pub ReadExactly : Type 0
ReadExactly =
    (channel : ℕ) (bytes : List ℕ) (r : Reading) (part : List ℕ)
    → AreBytes bytes → ReadSays channel bytes r → PayloadSays channel bytes part
    → (header : Header) (payload : List ℕ)
    → (r ≡ Ok header) × (part ≡ payload) ↔ FrameOn channel bytes header payload

-- What an accepted write leaves at the front of the output is a frame with these fields and this payload; behind it all stays.
abbrev pub WriteGivesFrame : Type 0
WriteGivesFrame =
    (channel : ℕ) (fields : Fields) (payload before after : List ℕ) (size : ℕ)
    → AreBytes payload → WriteSays channel fields payload before after (Ok size)
    → (header : Header) × (fields_of header ≡ fields) × FrameOn channel (take size after) header payload × (drop size after ≡ drop size before)

-- And no other bytes are one.
abbrev pub WriteGivesOnly : Type 0
WriteGivesOnly =
    (channel : ℕ) (fields : Fields) (payload before after : List ℕ) (size : ℕ)
    → AreBytes payload → WriteSays channel fields payload before after (Ok size)
    → (bytes : List ℕ) (header : Header) → fields_of header ≡ fields → FrameOn channel bytes header payload
    → bytes ≡ take size after

-- ---- null frames (02, C-16), by the null frame bit, which is 0 in a null frame, and the payload

-- "all payload bytes of a null frame are zero". (Past the end of a list `get_or` gives the 0 that stands here.)
abbrev pub EmptyIfNull : Bool → List ℕ → Type 0
EmptyIfNull bit payload = bit ≡ false → (i : ℕ) → get_or payload i 0 ≡ 0

-- "a null frame with a payload byte other than 0".
abbrev pub NullNotEmpty : Bool → List ℕ → Type 0
NullNotEmpty bit payload = (bit ≡ false) × (i : ℕ) × (get_or payload i 0 ≡ 0 → ⊥)

-- What is written is empty if it is a null frame.
abbrev pub WriteGivesEmpty : Type 0
WriteGivesEmpty =
    (channel : ℕ) (fields : Fields) (payload before after : List ℕ) (size : ℕ)
    → WriteSays channel fields payload before after (Ok size)
    → EmptyIfNull fields.null_frame_bit payload

-- ---- both round trips

-- `read` accepts these bytes with a header, `payload` gives a part of them, and `write` answers w for what was read.
pub record ReadAndWritten (channel : ℕ) (bytes : List ℕ) (header : Header) (part before after : List ℕ) (w : Writing) : Type 0 where
  pub are_bytes : AreBytes bytes
  pub reads : ReadSays channel bytes (Ok header)
  pub gives : PayloadSays channel bytes part
  pub writes : WriteSays channel (fields_of header) part before after w

-- Neither exception holds, and there is room.
abbrev pub ComesBack : Header → List ℕ → List ℕ → List ℕ → Type 0
ComesBack header payload bytes before =
    (header.reserved ≡ false) × EmptyIfNull header.null_frame_bit payload × (length bytes ≤ length before)

-- "Reading then writing gives the same bytes".
abbrev pub ReadThenWrite : Type 0
ReadThenWrite =
    (channel : ℕ) (bytes : List ℕ) (header : Header) (part before after : List ℕ) (w : Writing)
    → ReadAndWritten channel bytes header part before after w
    → ComesBack header part bytes before
    → (w ≡ Ok (length bytes)) × (after ≡ over bytes before)

-- "unless the reserved bit is 1 (refusal 12)".
abbrev pub ReservedNotWritten : Type 0
ReservedNotWritten =
    (channel : ℕ) (bytes : List ℕ) (header : Header) (part before after : List ℕ) (w : Writing)
    → ReadAndWritten channel bytes header part before after w
    → header.reserved ≡ true
    → (w ≡ Err ReservedSet) × (after ≡ before)

-- The other exception (02, C-16): a null frame that is not empty (refusal 26).
abbrev pub NullNotWritten : Type 0
NullNotWritten =
    (channel : ℕ) (bytes : List ℕ) (header : Header) (part before after : List ℕ) (w : Writing)
    → ReadAndWritten channel bytes header part before after w
    → header.reserved ≡ false → NullNotEmpty header.null_frame_bit part
    → (w ≡ Err NullFrameNotEmpty) × (after ≡ before)

-- The number that writing gives for what was read: 0, that of an exception, or 13 for want of room. No two of the four conditions can hold
-- together, so that each number is given exactly where its own holds; and there is no third exception.
abbrev pub WrittenAgain : Header → List ℕ → List ℕ → List ℕ → ℕ → Type 0
WrittenAgain header payload bytes before n =
    ((n ≡ 0) × ComesBack header payload bytes before)
    ⊎ ((n ≡ 12) × (header.reserved ≡ true))
    ⊎ ((n ≡ 26) × (header.reserved ≡ false) × NullNotEmpty header.null_frame_bit payload)
    ⊎ ((n ≡ 13) × (header.reserved ≡ false) × EmptyIfNull header.null_frame_bit payload × (length before < length bytes))

abbrev pub TwoExceptions : Type 0
TwoExceptions =
    (channel : ℕ) (bytes : List ℕ) (header : Header) (part before after : List ℕ) (w : Writing)
    → ReadAndWritten channel bytes header part before after w
    → WrittenAgain header part bytes before (told w).number

-- "Writing then reading gives the same fields and payload."
abbrev pub WriteThenRead : Type 0
WriteThenRead =
    (channel : ℕ) (fields : Fields) (payload before after : List ℕ) (size : ℕ)
    → AreBytes payload → WriteSays channel fields payload before after (Ok size)
    → (r : Reading) (part : List ℕ) → ReadSays channel (take size after) r → PayloadSays channel (take size after) part
    → (header : Header) × (r ≡ Ok header) × (fields_of header ≡ fields) × (part ≡ payload)

-- ---- what the witnesses show

-- `accepts`: the answer is yes exactly when the bytes are a frame.
abbrev pub AcceptsFrames : ℕ → List ℕ → Bool → Type 0
AcceptsFrames channel bytes r = (r ≡ true) ↔ IsFrame channel bytes

-- `reading_of`: it is accepted with a header exactly when the bytes are a frame with that header.
abbrev pub ReadingOf : ℕ → List ℕ → Reading → Type 0
ReadingOf channel bytes r = (header : Header) → (r ≡ Ok header) ↔ (payload : List ℕ) × FrameOn channel bytes header payload

-- `payload_of`: of a frame its payload, and of any other bytes nothing.
pub record PayloadOf (channel : ℕ) (bytes part : List ℕ) : Type 0 where
  pub frame : (header : Header) (payload : List ℕ) → FrameOn channel bytes header payload → part ≡ payload
  pub other : (IsFrame channel bytes → ⊥) → part ≡ []

-- `written`: where nothing is refused, the front of the output, of the size that comes back, is a frame with these fields and this
-- payload, no other bytes are one, a null frame is empty, and what stands behind it is as it was. With a refusal the size is 0 and the
-- output as it was.
pub record Wrote (channel : ℕ) (fields : Fields) (payload before after : List ℕ) (size : ℕ) : Type 0 where
  pub frame : refusal channel fields payload before ≡ 0
      → (header : Header) × (fields_of header ≡ fields) × FrameOn channel (take size after) header payload
  pub only : refusal channel fields payload before ≡ 0
      → (bytes : List ℕ) (header : Header) → fields_of header ≡ fields → FrameOn channel bytes header payload → bytes ≡ take size after
  pub empty : refusal channel fields payload before ≡ 0 → EmptyIfNull fields.null_frame_bit payload
  pub behind : drop size after ≡ drop size before
  pub refused : (refusal channel fields payload before ≡ 0 → ⊥) → (size ≡ 0) × (after ≡ before)

-- `rewritten`: bytes come back as they were exactly when they are a frame, its reserved bit is 0, it is empty if it is a null frame, and
-- there is room. Otherwise nothing is touched; the number is writing's, as said above, or reading's where the bytes are no frame.
pub record Rewritten (channel : ℕ) (bytes before after : List ℕ) (n : ℕ) : Type 0 where
  pub exactly : (n ≡ 0)
      ↔ (header : Header) × (payload : List ℕ) × FrameOn channel bytes header payload × ComesBack header payload bytes before
  pub frame : (header : Header) (payload : List ℕ) → FrameOn channel bytes header payload → WrittenAgain header payload bytes before n
  pub other : (IsFrame channel bytes → ⊥) → InOrder (read_refusals channel bytes) n
  pub output : after ≡ cond (eqb n 0) (over bytes before) before

-- `sent`, under the next two: what was written is a frame with these fields and this payload.
abbrev pub Sent : ℕ → Fields → List ℕ → List ℕ → List ℕ → Type 0
Sent channel fields payload before bytes =
    refusal channel fields payload before ≡ 0
    → (header : Header) × (fields_of header ≡ fields) × FrameOn channel bytes header payload

-- `reread`: what was written is read as a header with the same fields.
abbrev pub Reread : ℕ → Fields → List ℕ → List ℕ → Reading → Type 0
Reread channel fields payload before r =
    refusal channel fields payload before ≡ 0 → (header : Header) × (r ≡ Ok header) × (fields_of header ≡ fields)

-- `reread_payload`: and its payload is the one that was given.
abbrev pub RereadPayload : ℕ → Fields → List ℕ → List ℕ → List ℕ → Type 0
RereadPayload channel fields payload before part = refusal channel fields payload before ≡ 0 → part ≡ payload
