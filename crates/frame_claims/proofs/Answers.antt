-- The claims about the answers, from the statements alone.
use mathlib.Core.Path.{◌≡◌, refl, sym, ap, ◌∙◌}
use mathlib.Core.List.{[], ◌∷◌}
use lib.ListN.{get_or}
use Rattle.refusal.proofs.AnswerLaws.{one_answer}
use Rattle.refusal.specs.Refusal.{numbered}
use Rattle.refusal.proofs.FirstLaws.{told_in_order, if_refused}
use Rattle.base_types.specs.Channel.{channel_of}
use Rattle.frame.specs.declared.ReadRefusal.TheVariants as reading
use Rattle.writing.specs.declared.WriteRefusal.TheVariants as writing
use Rattle.std.specs.Prelude.{Ok, Err}
use Rattle.frame.specs.Read as read
use Rattle.frame.specs.Read.{Reading}
use Rattle.lent_bytes.specs.Over.{over}
use Rattle.writing.specs.Write as write
use Rattle.writing.specs.Write.{Writing}
use Rattle.frame_claims.specs.Answers.{ReadOne, ReadOnOne, PayloadOne, WriteOne, ReadInOrder, WriteInOrder, RefusedUnchanged, RefusedEmpty}

-- ---- one answer

pub reading_by : read.Told → Reading
reading_by t =
    get_or
    (Ok t.header ∷ Err reading.NotAChannel ∷ Err reading.TooShort ∷ Err reading.BadSize ∷ Err (reading.HeaderChecksumDiffers t.checksums)
    ∷ Err reading.WordsNotSize ∷ Err reading.IdZero ∷ Err reading.StartupWithoutSync ∷ [])
    t.number (Err (reading.FrameChecksumDiffers t.checksums))

pub reading_by_lem : (r : Reading) → reading_by (read.told r) ≡ r
unfolding reading_by
reading_by_lem (Ok h) = refl
reading_by_lem (Err reading.NotAChannel) = refl
reading_by_lem (Err reading.TooShort) = refl
reading_by_lem (Err reading.BadSize) = refl
reading_by_lem (Err (reading.HeaderChecksumDiffers checksums)) = refl
reading_by_lem (Err reading.WordsNotSize) = refl
reading_by_lem (Err reading.IdZero) = refl
reading_by_lem (Err reading.StartupWithoutSync) = refl
reading_by_lem (Err (reading.FrameChecksumDiffers checksums)) = refl

pub read_one : ReadOne
read_one channel bytes = one_answer read.told reading_by reading_by_lem

pub read_on_one : ReadOnOne
read_on_one channel bytes = one_answer read.told reading_by reading_by_lem

pub payload_one : PayloadOne
payload_one channel bytes place p q at at' hp lp hq lq = (hp ∙ sym hq, lp ∙ sym lq)

writing_by : write.Told → Writing
writing_by t =
    let other = Err writing.NotAChannel in
    get_or
    (Ok t.length ∷ other ∷ other ∷ other ∷ other ∷ other ∷ other ∷ Err writing.StartupWithoutSync ∷ other ∷ Err writing.NotAnId
    ∷ Err writing.BadPayload ∷ Err writing.CycleTooHigh ∷ Err writing.ReservedSet ∷ Err writing.OutputTooShort ∷ [])
    t.number (Err writing.NullFrameNotEmpty)

writing_by_lem : (r : Writing) → writing_by (write.told r) ≡ r
unfolding writing_by
writing_by_lem (Ok size) = refl
writing_by_lem (Err writing.NotAChannel) = refl
writing_by_lem (Err writing.NotAnId) = refl
writing_by_lem (Err writing.BadPayload) = refl
writing_by_lem (Err writing.CycleTooHigh) = refl
writing_by_lem (Err writing.StartupWithoutSync) = refl
writing_by_lem (Err writing.ReservedSet) = refl
writing_by_lem (Err writing.NullFrameNotEmpty) = refl
writing_by_lem (Err writing.OutputTooShort) = refl

pub write_one : WriteOne
write_one channel fields payload before after after' r s hr hs =
    (one_answer write.told writing_by writing_by_lem r s hr.answers hs.answers, hr.writes ∙ sym hs.writes)

-- ---- in order

pub read_in_order : ReadInOrder
unfolding numbered
read_in_order channel bytes r h = told_in_order _ refl (ap (λ (t : read.Told). t.number) h)

pub write_in_order : WriteInOrder
unfolding numbered
write_in_order channel fields payload before after r h = told_in_order _ refl (ap (λ (t : write.Told). t.number) h.answers)

-- ---- a refusal

pub refused_unchanged : RefusedUnchanged
refused_unchanged channel fields payload before after r h refused =
    let number : (write.told r).number ≡ write.refusal channel fields payload before = ap (λ (t : write.Told). t.number) h.answers in
    h.writes ∙ if_refused _ (over (write.frame_bytes (channel_of channel) fields payload) before) before (λ e. refused (number ∙ e))

pub refused_empty : RefusedEmpty
refused_empty channel bytes payload r h p refused =
    let number = ap (λ (t : read.Told). t.number) h in
    p ∙ if_refused _ (read.payload_read bytes) [] (λ e. refused (number ∙ e))
