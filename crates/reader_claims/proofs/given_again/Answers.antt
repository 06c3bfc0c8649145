-- What is told as a frame is read again.
use Rattle.std.proofs.Common.{ℕ, List, true, sym, ap, ◌∙◌, ◌≡◌, refl, arith, length-take}
use Rattle.std.specs.Prelude.{is_ok, Result, Some, Ok, Err}
use Rattle.frame.specs.Read as read
use Rattle.frame.specs.Read.{Reading}
use Rattle.frame.proofs.AnswerLaws.{refusal_in_range}
use Rattle.wire_reader.specs.declared.event.Heard.{Heard}
use Rattle.wire_reader.specs.declared.event.WireError.{WireError}
use Rattle.wire_reader.specs.declared.reader.Reader.{Reader}
use Rattle.wire_reader.specs.declared.listening.Listened.{Listened}
use Rattle.wire_reader.specs.Event.{Event}
use Rattle.wire_reader.specs.Listening.{told_by, told, ListenSays}
use Rattle.reader_claims.specs.Given.{IsFrame}
use Rattle.reader_claims.proofs.Given.{given}
use Rattle.reader_claims.proofs.given_again.Goals as goal

-- the frame that was told
is-frame : (reader : Reader) (samples before after : List ℕ) (r : Listened) (e : Event) (t : Result Heard WireError) (heard : Heard)
    → ListenSays reader samples before after r → told_by e ≡ (told r.answer).event → e ≡ Some t → t ≡ Ok heard
    → IsFrame reader.channel after heard.header heard.size
is-frame reader samples before after r e t heard h same is is-ok =
    given reader samples before after r heard.header heard.size heard.since h
    (sym same ∙ ap told_by (is ∙ ap (λ (x : Result Heard WireError). Some x) is-ok))

accepts : (r : Reading) → (read.told r).number ≡ 0 → is_ok r ≡ true
accepts (Ok header) e = refl
accepts (Err refusal) e = let range = refusal_in_range refusal in absurd (omega arith)

pub returns-then-memory-told : goal.returns-then-memory-told
returns-then-memory-told c =
    let heard = c.in-Some-Ok.told in
    let frame = is-frame c.args.reader c.args.samples.now c.args.memory.now c.listen-heard.new.memory c.listen-heard.result c.unwrap_or.result _ heard
    c.listen-heard.ensures (ap told_by c.unwrap_or.ensures) c.in-Some-Ok.is c.in-Some-Ok.field-0-is in
    let long = frame.sized in
    let shorter = length-take heard.size c.listen-heard.new.memory in
    absurd (omega arith)

pub returns : goal.returns
returns c =
    let heard = c.in-Some-Ok.told in
    let frame = is-frame c.args.reader c.args.samples.now c.args.memory.now c.listen-heard.new.memory c.listen-heard.result c.unwrap_or.result _ heard
    c.listen-heard.ensures (ap told_by c.unwrap_or.ensures) c.in-Some-Ok.is c.in-Some-Ok.field-0-is in
    c.is_ok.ensures.value
    ∙ accepts c.read_on.result (ap (λ (x : read.Told). x.number) c.read_on.ensures ∙ frame.accepted)
