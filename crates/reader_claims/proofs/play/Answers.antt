-- Samples played to their end: what was counted and what is left make the whole, call after call.
use Rattle.std.proofs.Common.{◌≡◌, refl, ℕ, ◌+◌, ◌-◌, Bool, true, false, not, List, length, take, drop, Fits, w64, sym, ap, ◌∙◌, subst, arith, rules, length-drop}
use lib.Seq.{take_all}
use Rattle.std.specs.Prelude.{is_ok, Result, Some, None, Ok, Err}
use Rattle.std.specs.Int.{from_bool}
use Rattle.division.specs.Bits.{bit}
use Rattle.wire_reader.specs.declared.event.Heard.{Heard}
use Rattle.wire_reader.specs.declared.event.WireError.{WireError}
use Rattle.wire_reader.specs.Event.{Event}
use Rattle.wire_reader.specs.Decoder.{is_nothing}
use Rattle.wire_reader.specs.Listening.{told_by, told}
use Rattle.wire_reader.proofs.PieceLaws.{told_some}
use Rattle.reader_claims.specs.Given.{is_frame}
use Rattle.reader_claims.specs.Pending.{SoFar}
use Rattle.reader_claims.proofs.Playing.{taken_most, loud_taken, goes_on, ends_quiet, ends_all}
use Rattle.reader_claims.proofs.play.Goals as goal

-- the piece that is lent is what is left
left : (l : List ℕ) (at : ℕ) → take (length l - at) (drop at l) ≡ drop at l
left l at = take_all (length l - at) (drop at l) (omega (arith, length-drop at l))

abbrev nothing_in : Event → Bool
nothing_in event = is_nothing (told_by event)

ok_is_frame : (told : Result Heard WireError) → is_ok told ≡ is_frame (told_by (Some told))
ok_is_frame (Ok heard) = refl
ok_is_frame (Err error) = refl

bit_is : (b : Bool) → from_bool b ≡ bit b
bit_is true = refl
bit_is false = refl

pub overflow_add-at : goal.overflow_add-at
overflow_add-at c =
    let l = c.loop-at in
    let samples = c.args.samples.now in
    let most = taken_most c.args.reader samples c.args.memory.now l.memory _ l.state l.at l.frames l.errors c.listen-heard.result _
    (left samples l.at) l.invariant c.listen-heard.ensures in
    let within = l.invariant.within in
    let size : Fits w64 (length samples) = search rules in
    let small = size.fits in
    record { fits = omega arith }

pub returns-in_default : goal.returns-in_default
returns-in_default c =
    let l = c.loop-at in
    let samples = c.args.samples.now in
    ends_quiet c.args.reader samples c.args.memory.now l.memory _ l.state l.at l.frames l.errors c.listen-heard.result _
    (left samples l.at) l.invariant c.listen-heard.ensures
    (ap nothing_in (sym c.unwrap_or.ensures ∙ c.in_default.is))

-- ---- something was told

pub loop-at-smaller : goal.loop-at-smaller
loop-at-smaller c =
    let l = c.loop-at in
    let samples = c.args.samples.now in
    let loud : is_nothing (told c.listen-heard.result.answer).event ≡ false =
    ap nothing_in (sym c.unwrap_or.ensures ∙ c.in-Some.is) ∙ told_some (Some c.in-Some.told) refl in
    let some = loud_taken c.args.reader samples c.args.memory.now l.memory _ l.state l.at l.frames l.errors c.listen-heard.result _
    (left samples l.at) l.invariant c.listen-heard.ensures loud in
    let most = taken_most c.args.reader samples c.args.memory.now l.memory _ l.state l.at l.frames l.errors c.listen-heard.result _
    (left samples l.at) l.invariant c.listen-heard.ensures in
    let within = l.invariant.within in
    omega arith

pub loop-at-preserved : goal.loop-at-preserved
loop-at-preserved c =
    let l = c.loop-at in
    let samples = c.args.samples.now in
    let reader = c.args.reader in
    let before = c.args.memory.now in
    let after = c.listen-heard.new.memory in
    let r = c.listen-heard.result in
    let loud : is_nothing (told r.answer).event ≡ false =
    ap nothing_in (sym c.unwrap_or.ensures ∙ c.in-Some.is) ∙ told_some (Some c.in-Some.told) refl in
    let b : c.is_ok-is_frame.result ≡ is_frame (told r.answer).event =
    c.is_ok-is_frame.ensures.value ∙ ok_is_frame c.in-Some.told ∙ ap (λ (e : Event). is_frame (told_by e)) (sym c.in-Some.is ∙ c.unwrap_or.ensures) in
    let frame-bit : c.from-frames.result ≡ bit (is_frame (told r.answer).event) = c.from-frames.ensures ∙ bit_is _ ∙ ap bit b in
    let error-bit : c.from-errors.result ≡ bit (not (is_frame (told r.answer).event)) =
    c.from-errors.ensures ∙ bit_is _ ∙ ap (λ (x : Bool). bit (not x)) b in
    subst (λ (n : ℕ). SoFar reader samples before after r.reader (l.at + r.taken) n (l.errors + c.from-errors.result))
    (ap (λ (n : ℕ). l.frames + n) (sym frame-bit))
    (subst (λ (n : ℕ). SoFar reader samples before after r.reader (l.at + r.taken) (l.frames + bit (is_frame (told r.answer).event)) n)
    (ap (λ (n : ℕ). l.errors + n) (sym error-bit))
    (goes_on reader samples before l.memory after l.state l.at l.frames l.errors r _
    (left samples l.at) l.invariant c.listen-heard.ensures loud))

pub returns : goal.returns
returns c =
    let l = c.loop-at in
    ends_all c.args.reader c.args.samples.now c.args.memory.now l.memory l.state l.at l.frames l.errors l.invariant c.loop-at-test.false
