-- The claims about what is accepted and what is written, from the statements and from what reading tries.
use Prim.Native.Nat.{ℕ, suc, ◌+◌, ◌/◌, ◌%◌, ◌≤◌}
use mathlib.Core.Path.{◌≡◌, refl, sym, ap, ap₂, ◌∙◌, subst}
use mathlib.Core.Bool.{Bool, true, false}
use mathlib.Core.List.{List, [], ◌∷◌, ◌++◌, append_assoc}
use mathlib.Core.Logic.{inl, inr}
use native.Mathlib.Omega.{arith}
use borrow.Author.Tests.{ltb-true, ltb-false, eqb-false, le-ltb}
use lib.Dec.{ltb}
use lib.ListN.{length, take, drop}
use Rattle.std.specs.Prelude.{Ok, Err}
use Rattle.refusal.specs.Refusal.{if_accepted, ◌when◌, first, numbered}
use Rattle.refusal.proofs.FirstLaws.{first_zero, first_skip, first_here, first_end, if_accepted_lem, not_refused}
use Rattle.numbers.proofs.Truth.{neither}
use Rattle.numbers.proofs.Walk.{cases}
use Rattle.division.specs.Bits.{odd, bits, bytes_bits, bytes_of, AreBytes}
use Rattle.division.proofs.BitsLaws.{length-bits}
use Rattle.division.proofs.BytesLaws.{bytes_append, bytes_inj, are_bytes_of, are_bytes_append, bits_bytes_of}
use Rattle.base_types.specs.declared.channel.Channel.{Channel}
use Rattle.base_types.specs.Channel.{not_a_channel, channel_of}
use Rattle.checksum.specs.Checksums.{frame_division, frame_checksum}
use Rattle.checksum.specs.Pair.{no_checksums}
use Rattle.base_types.proofs.SlotLaws.{id_range}
use Rattle.base_types.proofs.ChannelLaws.{named_is, is_named, one_channel}
use Rattle.header.specs.declared.Header.{Header}
use Rattle.header.specs.declared.Fields.{Fields}
use Rattle.header.specs.Layout.{most_payload, whole_header, no_header}
use Rattle.base_types.specs.Slot.{not_an_id}
use Rattle.base_types.specs.Cycle.{highest_cycle, cycle_too_high}
use Rattle.header.specs.Refusals.{startup_without_sync}
use Rattle.writing.specs.declared.WriteRefusal.{WriteRefusal}
use Rattle.writing.specs.declared.WriteRefusal.TheVariants.{ReservedSet, NullFrameNotEmpty}
use Rattle.frame.specs.Layout.{frame_bits, frame_checksum_of, Frame}
use Rattle.writing.specs.Refusals.{bad_payload, null_frame_not_empty, output_too_short}
use Rattle.frame.specs.Read as read
use Rattle.frame.specs.Read.{header_read, payload_read, refusals_on, ReadSays, PayloadSays}
use Rattle.writing.specs.Write as write
use Rattle.lent_bytes.specs.Over.{over}
use Rattle.writing.specs.Write.{header_of, header_and_payload, frame_bytes, Writing, WriteSays}
use Rattle.lent_bytes.proofs.OverLaws.{take-over, drop-over, length_over}
use Rattle.writing.proofs.WriteLaws.{length-frame}
use Rattle.frame_claims.specs.Exact.{FrameOn, fields_of, ReadExactly, WriteGivesFrame, WriteGivesOnly, EmptyIfNull, NullNotEmpty, WriteGivesEmpty, ReadAndWritten, ComesBack, ReadThenWrite, ReservedNotWritten, NullNotWritten, WrittenAgain, TwoExceptions, WriteThenRead}
use Rattle.frame_claims.proofs.Answers.{read_one, write_one}
use Rattle.frame_claims.proofs.FrameLaws.{length_whole, frame_size, good_payload, from_fields}
use Rattle.frame_claims.proofs.NullFrames.{empty_by, not_empty_by, by_empty, by_not_empty}
use Rattle.frame_claims.proofs.Reading.{only_with_lem, with_only, accepted_frame, frame_header, frame_payload, frame_accepted}

-- ---- reading

pub frame_of_lem : (channel : ℕ) (bytes : List ℕ) → AreBytes bytes → first (read.refusals channel bytes) ≡ 0
    → FrameOn channel bytes (header_read bytes) (payload_read bytes)
frame_of_lem channel bytes are none =
    let z = first_zero 0 (not_a_channel channel) (refusals_on (channel_of channel) bytes) none in
    record {
      on = channel_of channel;
      named = is_named channel z.0;
      frame = accepted_frame (channel_of channel) bytes are z.1;
    }

-- a frame: nothing is refused, it is accepted with its header, and its payload comes back
module _ {channel : ℕ} {bytes : List ℕ} {header : Header} {payload : List ℕ} (f : FrameOn channel bytes header payload) where
  pub frame_none : first (read.refusals channel bytes) ≡ 0
  frame_none =
      let c = named_is channel f.on f.named in
      first_skip 1 _ c.0 ∙ ap (λ (k : Channel). first (refusals_on k bytes)) c.1 ∙ frame_accepted f.frame

  pub frame_says : ReadSays channel bytes (Ok header)
  frame_says =
      ap (λ (h : Header). record { number = 0; header = h; checksums = no_checksums }) (sym (frame_header f.frame))
      ∙ ap (λ (n : ℕ). read.tells n (channel_of channel) bytes) (sym frame_none)

  pub frame_part : {part : List ℕ} → PayloadSays channel bytes part → part ≡ payload
  frame_part gives = gives ∙ if_accepted_lem (first (read.refusals channel bytes)) (payload_read bytes) [] frame_none ∙ frame_payload f.frame

pub read_exactly : ReadExactly
read_exactly channel bytes r part are says gives header payload = (there, back)
  where
    there : (r ≡ Ok header) × (part ≡ payload) → FrameOn channel bytes header payload
    there e =
        let n = first (read.refusals channel bytes) in
        let accepted : ReadSays channel bytes (Ok header) = subst (ReadSays channel bytes) e.0 says in
        let none : n ≡ 0 = sym (ap (λ (t : read.Told). t.number) accepted) in
        let same_header : header ≡ header_read bytes = ap (λ (t : read.Told). t.header) accepted ∙ if_accepted_lem n (header_read bytes) no_header none in
        let same-payload : payload ≡ payload_read bytes = sym e.1 ∙ gives ∙ if_accepted_lem n (payload_read bytes) [] none in
        subst (λ (h : Header). FrameOn channel bytes h payload) (sym same_header)
        (subst (FrameOn channel bytes (header_read bytes)) (sym same-payload) (frame_of_lem channel bytes are none))

    back : FrameOn channel bytes header payload → (r ≡ Ok header) × (part ≡ payload)
    back f = (read_one channel bytes r (Ok header) says (frame_says f), frame_part f gives)

-- ---- writing

-- the bits of what is written are those of the layout
start_bits : (fields : Fields) (payload : List ℕ)
    → bytes_bits (header_and_payload fields payload) ≡ whole_header (header_of fields (length payload / 2)) ++ bytes_bits payload
unfolding header_and_payload
start_bits fields payload =
    let w = whole_header (header_of fields (length payload / 2)) in
    bytes_append (bytes_of 5 w) payload ∙ ap (λ (x : List Bool). x ++ bytes_bits payload) (bits_bytes_of 5 w (length_whole (header_of fields (length payload / 2))))

written_bits : (channel : Channel) (fields : Fields) (payload : List ℕ)
    → let h = header_of fields (length payload / 2) in
    bytes_bits (frame_bytes channel fields payload) ≡ frame_bits h payload (frame_checksum_of channel h payload)
unfolding frame_bytes
written_bits channel fields payload =
    let h = header_of fields (length payload / 2) in
    let start = header_and_payload fields payload in
    let c = frame_checksum channel start in
    bytes_append start (bytes_of 3 (bits 24 c))
    ∙ ap₂ ◌++◌ (start_bits fields payload)
    (bits_bytes_of 3 (bits 24 c) (length-bits 24 c) ∙ ap (λ (x : List Bool). bits 24 (frame_division channel x)) (start_bits fields payload))
    ∙ append_assoc (whole_header h) (bytes_bits payload) (bits 24 (frame_checksum_of channel h payload))

written_are : (channel : Channel) (fields : Fields) (payload : List ℕ) → AreBytes payload → AreBytes (frame_bytes channel fields payload)
unfolding frame_bytes header_and_payload
written_are channel fields payload are =
    are_bytes_append (header_and_payload fields payload) (bytes_of 3 (bits 24 (frame_checksum channel (header_and_payload fields payload))))
    (are_bytes_append (bytes_of 5 (whole_header (header_of fields (length payload / 2)))) payload (are_bytes_of 5 _) are) (are_bytes_of 3 _)

-- what is written where nothing is refused is a frame
module _ (channel : Channel) (fields : Fields) (payload : List ℕ) (are : AreBytes payload) where
  pub written_frame : not_an_id fields.id.0 ≡ false → bad_payload payload ≡ false → cycle_too_high fields.cycle.0 ≡ false
      → startup_without_sync fields.startup fields.sync ≡ false
      → Frame channel (frame_bytes channel fields payload) (header_of fields (length payload / 2)) payload
  written_frame id size cycle startup =
      let sizes = neither (odd (length payload)) (ltb most_payload (length payload)) size in
      let at_most : length payload ≤ most_payload = ltb-false most_payload (length payload) sizes.1 in
      let even = eqb-false (length payload % 2) 1 sizes.0 in
      record {
        are_bytes = written_are channel fields payload are;
        payload_are_bytes = are;
        layout = written_bits channel fields payload;
        checksum = refl;
        id = (id_range fields.id.0).0 id;
        words = omega arith;
        payload_length = omega arith;
        cycle = ltb-false highest_cycle fields.cycle.0 cycle;
        startup = only_with_lem fields.startup fields.sync startup;
      }

-- a write where nothing is refused: what it says of the fields, and what lies in the output
module _ (channel : ℕ) (fields : Fields) (payload before after : List ℕ) (w : Writing)
    (says : WriteSays channel fields payload before after w) (none : write.refusal channel fields payload before ≡ 0) where
  abbrev frame : List ℕ
  frame = frame_bytes (channel_of channel) fields payload

  abbrev size : ℕ
  size = (write.told w).length

  pub size_is : size ≡ 8 + length payload
  size_is = ap (λ (t : write.Told). t.length) says.answers ∙ if_accepted_lem (write.refusal channel fields payload before) (8 + length payload) 0 none

  long : length frame ≡ size
  long = length-frame (channel_of channel) fields payload ∙ sym size_is

  pub room : 8 + length payload ≤ length before
  unfolding numbered
  room = ltb-false (length before) (8 + length payload) (not_refused (write.refusals channel fields payload before) refl none 13)

  pub null_empty : EmptyIfNull fields.null_frame_bit payload
  unfolding numbered
  null_empty = empty_by fields.null_frame_bit payload (not_refused (write.refusals channel fields payload before) refl none 26)

  after_is : after ≡ over frame before
  after_is = says.writes ∙ if_accepted_lem (write.refusal channel fields payload before) (over frame before) before none

  pub same_length : length after ≡ length before
  same_length = ap length after_is ∙ length_over frame before (omega (arith, long, size_is, room))

  pub rest_is : drop size after ≡ drop size before
  rest_is = ap (drop size) after_is ∙ drop-over frame before size long

  module _ (are : AreBytes payload) where
    pub front-frame : FrameOn channel (take size after) (header_of fields (length payload / 2)) payload
    unfolding numbered
    front-frame =
        let passed = not_refused (write.refusals channel fields payload before) refl none in
        record {
          on = channel_of channel;
          named = is_named channel (passed 1);
          frame =
              subst (λ (x : List ℕ). Frame (channel_of channel) x (header_of fields (length payload / 2)) payload)
              (sym (ap (take size) after_is ∙ take-over frame before size long))
              (written_frame (channel_of channel) fields payload are (passed 9) (passed 10) (passed 11) (passed 7));
        }

    -- no other bytes are a frame with these fields and this payload
    pub front-only : (bytes : List ℕ) (header : Header) → fields_of header ≡ fields → FrameOn channel bytes header payload → bytes ≡ take size after
    front-only bytes header same f =
        let on = one_channel channel f.on front-frame.on f.named front-frame.named in
        let h : header ≡ header_of fields (length payload / 2) =
        sym (from_fields header payload f.frame.payload_length f.frame.checksum) ∙ ap (λ (g : Fields). header_of g (length payload / 2)) same in
        bytes_inj bytes (take size after) f.frame.are_bytes front-frame.frame.are_bytes
        (f.frame.layout ∙ ap₂ (λ (k : Channel) (g : Header). frame_bits g payload (frame_checksum_of k g payload)) on h ∙ sym front-frame.frame.layout)

-- the answer is a size: nothing is refused
none_by : {channel : ℕ} {fields : Fields} {payload before after : List ℕ} {size : ℕ}
    → WriteSays channel fields payload before after (Ok size) → write.refusal channel fields payload before ≡ 0
none_by says = sym (ap (λ (t : write.Told). t.number) says.answers)

pub write_gives_frame : WriteGivesFrame
write_gives_frame channel fields payload before after size are says = (
  header_of fields (length payload / 2),
  refl,
  front-frame channel fields payload before after (Ok size) says (none_by says) are,
  rest_is channel fields payload before after (Ok size) says (none_by says),
)

pub write_gives_only : WriteGivesOnly
write_gives_only channel fields payload before after size are says =
    front-only channel fields payload before after (Ok size) says (none_by says) are

pub write_gives_empty : WriteGivesEmpty
write_gives_empty channel fields payload before after size says =
    null_empty channel fields payload before after (Ok size) says (none_by says)

-- ---- both round trips

pub write_then_read : WriteThenRead
write_then_read channel fields payload before after size are says r part reads gives =
    let header = header_of fields (length payload / 2) in
    let front = front-frame channel fields payload before after (Ok size) says (none_by says) are in
    let both = (read_exactly channel (take size after) r part front.frame.are_bytes reads gives header payload).1 front in
    (header, both.0, refl, both.1)

-- a refusal with its number, and the output as it was
write_refused : (channel : ℕ) (fields : Fields) (payload output : List ℕ) (refused : WriteRefusal) (n : ℕ)
    → write.number_of refused ≡ suc n → write.refusal channel fields payload output ≡ suc n
    → WriteSays channel fields payload output output (Err refused)
write_refused channel fields payload output refused n t e =
    record {
      answers =
          ap (λ (k : ℕ). record { number = k; length = 0 }) t
          ∙ ap (λ (k : ℕ). record { number = k; length = if_accepted k (8 + length payload) 0 }) (sym e);
      writes = ap (λ (k : ℕ). if_accepted k (over (frame_bytes (channel_of channel) fields payload) output) output) (sym e);
    }

-- no refusal, and the frame over the output's front
write_accepted : (channel : ℕ) (fields : Fields) (payload output after : List ℕ) (n : ℕ)
    → write.refusal channel fields payload output ≡ 0 → n ≡ 8 + length payload
    → after ≡ over (frame_bytes (channel_of channel) fields payload) output
    → WriteSays channel fields payload output after (Ok n)
write_accepted channel fields payload output after n e s w =
    record {
      answers =
          ap (λ (k : ℕ). record { number = 0; length = k }) s
          ∙ ap (λ (k : ℕ). record { number = k; length = if_accepted k (8 + length payload) 0 }) (sym e);
      writes = w ∙ ap (λ (k : ℕ). if_accepted k (over (frame_bytes (channel_of channel) fields payload) output) output) (sym e);
    }

-- of a frame's own fields and payload, all that could be refused is the reserved bit, a null frame that is not empty, or the room
module _ (channel : ℕ) (bytes : List ℕ) (header : Header) (payload before : List ℕ) (f : FrameOn channel bytes header payload) where
  to_reserved : write.refusal channel (fields_of header) payload before
      ≡ first (12 when header.reserved ∷ 26 when null_frame_not_empty header.null_frame_bit payload ∷ 13 when output_too_short payload before ∷ [])
  to_reserved =
      let g = f.frame in
      first_skip 1 _ (named_is channel f.on f.named).0
      ∙ first_skip 9 _ ((id_range header.id.0).1 g.id)
      ∙ first_skip 10 _ (good_payload payload header.words g.payload_length g.words)
      ∙ first_skip 11 _ (le-ltb highest_cycle header.cycle.0 g.cycle)
      ∙ first_skip 7 _ (with_only header.startup header.sync g.startup)

  pub reserved_refused : header.reserved ≡ true → WriteSays channel (fields_of header) payload before before (Err ReservedSet)
  reserved_refused set =
      write_refused channel (fields_of header) payload before ReservedSet 11 refl (to_reserved ∙ first_here 12 _ set)

  pub null_refused : header.reserved ≡ false → NullNotEmpty header.null_frame_bit payload
      → WriteSays channel (fields_of header) payload before before (Err NullFrameNotEmpty)
  null_refused clear full =
      write_refused channel (fields_of header) payload before NullFrameNotEmpty 25 refl
      (to_reserved ∙ first_skip 12 _ clear ∙ first_here 26 _ (by_not_empty header.null_frame_bit payload full))

  long_again : length bytes ≡ 8 + length payload
  long_again = frame_size f.frame ∙ omega (arith, f.frame.payload_length)

  pub written_again : ComesBack header payload bytes before
      → WriteSays channel (fields_of header) payload before (over bytes before) (Ok (length bytes))
  written_again back =
      let g = f.frame in
      let empty = by_empty header.null_frame_bit payload back.1 in
      let fits : output_too_short payload before ≡ false = le-ltb (length before) (8 + length payload) (omega (arith, back.2, long_again)) in
      let none = to_reserved ∙ first_skip 12 _ back.0 ∙ first_skip 26 _ empty ∙ first_skip 13 _ fits ∙ first_end in
      let channel-is : channel_of channel ≡ f.on = (named_is channel f.on f.named).1 in
      let again : frame_bytes (channel_of channel) (fields_of header) payload ≡ bytes =
      bytes_inj (frame_bytes (channel_of channel) (fields_of header) payload) bytes (written_are (channel_of channel) (fields_of header) payload g.payload_are_bytes) g.are_bytes
      (written_bits (channel_of channel) (fields_of header) payload
      ∙ ap₂ (λ (k : Channel) (h : Header). frame_bits h payload (frame_checksum_of k h payload)) channel-is
      (from_fields header payload g.payload_length g.checksum)
      ∙ sym g.layout) in
      write_accepted channel (fields_of header) payload before (over bytes before) (length bytes) none long_again
      (ap (λ (x : List ℕ). over x before) (sym again))

  -- the number, whichever it is
  pub number_again : {n : ℕ} → n ≡ write.refusal channel (fields_of header) payload before → WrittenAgain header payload bytes before n
  number_again e =
      let bit = header.null_frame_bit in
      cases header.reserved
      (λ set. inr (inl (e ∙ to_reserved ∙ first_here 12 _ set, set)))
      (λ clear.
      let past12 = e ∙ to_reserved ∙ first_skip 12 _ clear in
      cases (null_frame_not_empty bit payload)
      (λ full. inr (inr (inl (past12 ∙ first_here 26 _ full, clear, not_empty_by bit payload full))))
      (λ none.
      let past26 = past12 ∙ first_skip 26 _ none in
      let empty = empty_by bit payload none in
      cases (output_too_short payload before)
      (λ short. inr (inr (inr (past26 ∙ first_here 13 _ short, clear, empty, omega (arith, ltb-true (length before) (8 + length payload) short, long_again)))))
      (λ fits. inl (past26 ∙ first_skip 13 _ fits ∙ first_end, (clear, empty, omega (arith, ltb-false (length before) (8 + length payload) fits, long_again))))))

-- what was read is a frame
frame_read : (channel : ℕ) (bytes : List ℕ) (header : Header) (part before after : List ℕ) (w : Writing)
    → ReadAndWritten channel bytes header part before after w → FrameOn channel bytes header part
frame_read channel bytes header part before after w h =
    (read_exactly channel bytes (Ok header) part h.are_bytes h.reads h.gives header part).0 (refl, refl)

pub read_then_write : ReadThenWrite
read_then_write channel bytes header part before after w h back =
    write_one channel (fields_of header) part before after (over bytes before) w (Ok (length bytes)) h.writes
    (written_again channel bytes header part before (frame_read channel bytes header part before after w h) back)

pub reserved_not_written : ReservedNotWritten
reserved_not_written channel bytes header part before after w h set =
    write_one channel (fields_of header) part before after before w (Err ReservedSet) h.writes
    (reserved_refused channel bytes header part before (frame_read channel bytes header part before after w h) set)

pub null_not_written : NullNotWritten
null_not_written channel bytes header part before after w h clear full =
    write_one channel (fields_of header) part before after before w (Err NullFrameNotEmpty) h.writes
    (null_refused channel bytes header part before (frame_read channel bytes header part before after w h) clear full)

pub two_exceptions : TwoExceptions
two_exceptions channel bytes header part before after w h =
    number_again channel bytes header part before (frame_read channel bytes header part before after w h)
    (ap (λ (t : write.Told). t.number) h.writes.answers)
