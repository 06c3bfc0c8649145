-- What each witness shows, from the statements of the entries that it calls.
use Prim.Native.Nat.{ℕ, ◌+◌, ◌/◌, ◌≤◌}
use mathlib.Core.Path.{◌≡◌, refl, sym, ap, ap₂, ◌∙◌, subst}
use mathlib.Core.Bool.{Bool, true, false, false≢true, cond}
use mathlib.Core.List.{List, []}
use mathlib.Core.Logic.{inl, inr}
use native.Mathlib.Omega.{arith}
use borrow.Author.Tests.{eqb-true, eqb-false, eq-eqb, ne_eqb}
use lib.Dec.{eqb}
use lib.ListN.{length, take, drop}
use Rattle.numbers.proofs.Walk.{cases, cases_in}
use Rattle.std.specs.Prelude.{Ok, Err}
use Rattle.std.specs.Result.{is_ok, result_unwrap_or}
use Rattle.refusal.specs.Refusal.{first}
use Rattle.refusal.proofs.FirstLaws.{if_refused}
use Rattle.division.specs.Bits.{AreBytes}
use Rattle.base_types.specs.declared.channel.Channel.{Channel}
use Rattle.base_types.specs.declared.channel.Channel.TheVariants.{A, B}
use Rattle.base_types.specs.Channel.{channel_of}
use Rattle.base_types.proofs.ChannelLaws.{named_is, one_channel}
use Rattle.header.specs.declared.Header.{Header}
use Rattle.header.specs.declared.Fields.{Fields}
use Rattle.frame.specs.Layout.{Frame}
use Rattle.frame.specs.declared.ReadRefusal.{ReadRefusal}
use Rattle.frame.proofs.AnswerLaws.{refusal_in_range}
use Rattle.frame.specs.Read as read
use Rattle.frame.specs.Read.{header_read, payload_read, Reading, ReadSays, PayloadSays}
use Rattle.writing.specs.Write as write
use Rattle.lent_bytes.specs.Over.{over}
use Rattle.writing.specs.Write.{header_of, frame_bytes, Writing, WriteSays}
use Rattle.frame_claims.specs.Damage.{BothAccepted}
use Rattle.frame_claims.specs.Exact.{FrameOn, fields_of, AcceptsFrames, ReadingOf, PayloadOf, Wrote, ComesBack, WrittenAgain, Rewritten, Sent, Reread, RereadPayload}
use Rattle.frame_claims.proofs.Answers.{read_one, write_one, read_in_order, refused_unchanged}
use Rattle.frame_claims.proofs.Exact.{frame_of_lem, frame_none, frame_says, frame_part, read_exactly, size_is, room, null_empty, same_length, rest_is, front-frame, front-only, number_again, written_again}
use Rattle.frame_claims.proofs.Damage.{frames_apart, not_on_both}

-- ---- accepted or not

-- a header is what has the number 0
ok_number : (r : Reading) → is_ok r ≡ eqb (read.told r).number 0
ok_number (Ok header) = refl
ok_number (Err refusal) = sym (ne_eqb (read.number_of refusal) 0 (λ e. omega (arith, refusal_in_range refusal)))

pub accepts_frames : (channel : ℕ) (bytes : List ℕ) (r : Reading) → AreBytes bytes → ReadSays channel bytes r
    → AcceptsFrames channel bytes (is_ok r)
accepts_frames channel bytes r are says =
    let number : (read.told r).number ≡ first (read.refusals channel bytes) = ap (λ (t : read.Told). t.number) says in (
      λ e. (header_read bytes, payload_read bytes, frame_of_lem channel bytes are (sym number ∙ eqb-true (read.told r).number 0 (sym (ok_number r) ∙ e))),
      λ f. ok_number r ∙ eq-eqb (read.told r).number 0 (number ∙ frame_none f.2),
    )

-- with the part that belongs to these bytes
pub reading_of : (channel : ℕ) (bytes : List ℕ) (r : Reading) → AreBytes bytes → ReadSays channel bytes r → ReadingOf channel bytes r
reading_of channel bytes r are says header =
    let part = read.part_rule (first (read.refusals channel bytes)) bytes in
    let exactly = read_exactly channel bytes r part are says refl header in
    (λ e. (part, (exactly part).0 (e, refl)), λ f. ((exactly f.0).1 f.1).0)

pub never_both : (bytes : List ℕ) (r s : Bool) → AcceptsFrames 0 bytes r → r ≡ true → AcceptsFrames 1 bytes s → s ≡ false
unfolding channel_of
never_both bytes r false on_a e on_b = refl
never_both bytes r true on_a e on_b =
    let a = on_a.0 e in
    let b = on_b.0 refl in
    let is_a : a.2.on ≡ A = sym (named_is 0 a.2.on a.2.named).1 in
    let is_b : b.2.on ≡ B = sym (named_is 1 b.2.on b.2.named).1 in
    absurd
    (not_on_both bytes a.0 b.0 a.1 b.1 (subst (λ (k : Channel). Frame k bytes a.0 a.1) is_a a.2.frame)
    (subst (λ (k : Channel). Frame k bytes b.0 b.1) is_b b.2.frame))

pub not_both : (channel : ℕ) (x y : List ℕ) (r : Bool) → AcceptsFrames channel x r → r ≡ false → BothAccepted channel x y r
not_both channel x y r on_x e =
    record {
      accepted = (λ t. absurd (false≢true (sym e ∙ t)), λ f. on_x.1 f.0);
      apart = λ t. absurd (false≢true (sym e ∙ t));
    }

pub both_apart : (channel : ℕ) (x y : List ℕ) (r s : Bool) → AcceptsFrames channel x r → r ≡ true → AcceptsFrames channel y s
    → BothAccepted channel x y s
both_apart channel x y r s on_x e on_y =
    record {
      accepted = (λ t. (on_x.0 e, on_y.0 t), λ f. on_y.1 f.1);
      apart =
          λ t long differ.
          let a = on_x.0 e in
          let b = on_y.0 t in
          let same : b.2.on ≡ a.2.on = one_channel channel b.2.on a.2.on b.2.named a.2.named in
          frames_apart a.2.on x y a.0 b.0 a.1 b.1 a.2.frame
          (subst (λ (k : Channel). Frame k y b.0 b.1) same b.2.frame) long differ;
    }

pub of_frames : (channel : ℕ) (bytes part : List ℕ) → AreBytes bytes → PayloadSays channel bytes part → PayloadOf channel bytes part
of_frames channel bytes part are gives =
    record {
      frame = λ header payload f. frame_part f gives;
      other =
          λ none.
          gives
          ∙ if_refused (first (read.refusals channel bytes)) (payload_read bytes) []
          (λ e. none (header_read bytes, payload_read bytes, frame_of_lem channel bytes are e));
    }

-- ---- read, then written

-- no two of the four conditions hold together, so that 0 is given exactly where its own holds
module _ (header : Header) (payload bytes before : List ℕ) {n : ℕ} where
  zero_exactly : WrittenAgain header payload bytes before n → ComesBack header payload bytes before → n ≡ 0
  zero_exactly (inl z) back = z.0
  zero_exactly (inr (inl r)) back = absurd (false≢true (sym back.0 ∙ r.1))
  zero_exactly (inr (inr (inl m))) back = absurd (m.2.2 (back.1 m.2.0 m.2.1))
  zero_exactly (inr (inr (inr s))) back = absurd (omega (arith, s.3, back.2))

  exactly_zero : WrittenAgain header payload bytes before n → n ≡ 0 → ComesBack header payload bytes before
  exactly_zero (inl z) e = z.1
  exactly_zero (inr (inl r)) e = absurd (omega (arith, r.0))
  exactly_zero (inr (inr (inl m))) e = absurd (omega (arith, m.0))
  exactly_zero (inr (inr (inr s))) e = absurd (omega (arith, s.0))

pub not_rewritten : (channel : ℕ) (bytes before : List ℕ) (refusal : ReadRefusal) → ReadSays channel bytes (Err refusal)
    → Rewritten channel bytes before before (read.number_of refusal)
not_rewritten channel bytes before refusal says =
    let refused : read.number_of refusal ≡ 0 → ⊥ = λ e. omega (arith, refusal_in_range refusal) in
    let frame_refused : (header : Header) (payload : List ℕ) → FrameOn channel bytes header payload → ⊥ =
    λ header payload f. refused (ap (λ (t : read.Told). t.number) says ∙ frame_none f) in
    record {
      exactly = (λ e. absurd (refused e), λ f. absurd (frame_refused f.0 f.1 f.2));
      frame = λ header payload f. absurd (frame_refused header payload f);
      other = λ none. read_in_order channel bytes (Err refusal) says;
      output = ap (λ (b : Bool). cond b (over bytes before) before) (sym (ne_eqb (read.number_of refusal) 0 refused));
    }

module _ (channel : ℕ) (bytes before after part : List ℕ) (got : Header) (w : Writing)
    (are : AreBytes bytes) (reads : ReadSays channel bytes (Ok got)) (gives : PayloadSays channel bytes part)
    (writes : WriteSays channel (fields_of got) part before after w) where
  here : FrameOn channel bytes got part
  here = (read_exactly channel bytes (Ok got) part are reads gives got part).0 (refl, refl)

  -- of one string of bytes there is one header and one payload
  again : (header : Header) (payload : List ℕ) → FrameOn channel bytes header payload
      → WrittenAgain header payload bytes before (write.told w).number
  again header payload f =
      let e = (read_exactly channel bytes (Ok got) part are reads gives header payload).1 f in
      let same : got ≡ header = ap (λ (x : Reading). result_unwrap_or x got) e.0 in
      number_again channel bytes header payload before f
      (ap (λ (t : write.Told). t.number) writes.answers ∙ ap₂ (λ (h : Header) (p : List ℕ). write.refusal channel (fields_of h) p before) same e.1)

  back : (write.told w).number ≡ 0 → ComesBack got part bytes before
  back = exactly_zero got part bytes before (again got part here)

  -- where nothing was refused, it is what it was
  was_written : (write.told w).number ≡ 0 → after ≡ over bytes before
  was_written e =
      (write_one channel (fields_of got) part before after (over bytes before) w (Ok (length bytes)) writes
      (written_again channel bytes got part before here (back e))).1

  pub was_rewritten : Rewritten channel bytes before after (write.told w).number
  was_rewritten =
      record {
        exactly = (λ e. (got, part, here, back e), λ f. zero_exactly f.0 f.1 bytes before (again f.0 f.1 f.2) f.3);
        frame = again;
        other = λ none. absurd (none (got, part, here));
        output =
            cases_in (λ b. after ≡ cond b (over bytes before) before) (eqb (write.told w).number 0)
            (λ t. was_written (eqb-true (write.told w).number 0 t))
            (λ t. refused_unchanged channel (fields_of got) part before after w writes (eqb-false (write.told w).number 0 t));
      }

-- ---- written, then read

module _ (channel : ℕ) (fields : Fields) (payload before after : List ℕ) (w : Writing)
    (says : WriteSays channel fields payload before after w) where
  -- with a refusal the size is 0, and the output as it was
  unchanged : (write.refusal channel fields payload before ≡ 0 → ⊥) → ((write.told w).length ≡ 0) × (after ≡ before)
  unchanged refused = (
    ap (λ (t : write.Told). t.length) says.answers ∙ if_refused (write.refusal channel fields payload before) (8 + length payload) 0 refused,
    says.writes
        ∙ if_refused (write.refusal channel fields payload before) (over (frame_bytes (channel_of channel) fields payload) before) before refused,
  )

  -- what was written is within the output
  pub size_within : (write.told w).length ≤ length after
  size_within =
      cases (eqb (write.refusal channel fields payload before) 0)
      (λ t.
      let none = eqb-true (write.refusal channel fields payload before) 0 t in
      omega (
        arith,
        size_is channel fields payload before after w says none,
        room channel fields payload before after w says none,
        same_length channel fields payload before after w says none,
      ))
      (λ t. omega (arith, (unchanged (eqb-false (write.refusal channel fields payload before) 0 t)).0))

  module _ (are : AreBytes payload) where
    pub was_sent : Sent channel fields payload before (take (write.told w).length after)
    was_sent none = (header_of fields (length payload / 2), refl, front-frame channel fields payload before after w says none are)

    pub wrote : Wrote channel fields payload before after (write.told w).length
    wrote =
        record {
          frame = was_sent;
          only = λ none. front-only channel fields payload before after w says none are;
          empty = null_empty channel fields payload before after w says;
          behind =
              cases (eqb (write.refusal channel fields payload before) 0)
              (λ t. rest_is channel fields payload before after w says (eqb-true (write.refusal channel fields payload before) 0 t))
              (λ t. ap (drop (write.told w).length) (unchanged (eqb-false (write.refusal channel fields payload before) 0 t)).1);
          refused = unchanged;
        }

-- what was sent, as it is read
pub was_reread : (channel : ℕ) (fields : Fields) (payload before bytes : List ℕ) (r : Reading)
    → Sent channel fields payload before bytes → ReadSays channel bytes r → Reread channel fields payload before r
was_reread channel fields payload before bytes r sent reads none =
    let f = sent none in
    (f.0, read_one channel bytes r (Ok f.0) reads (frame_says f.2), f.1)

pub payload_reread : (channel : ℕ) (fields : Fields) (payload before bytes part : List ℕ)
    → Sent channel fields payload before bytes → PayloadSays channel bytes part → RereadPayload channel fields payload before part
payload_reread channel fields payload before bytes part sent gives none = frame_part (sent none).2 gives
