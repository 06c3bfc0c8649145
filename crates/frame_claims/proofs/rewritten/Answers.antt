-- `rewritten`: what was read and written again is what it was, and otherwise nothing is touched.
use mathlib.Core.Path.{◌≡◌, subst}
use Rattle.std.proofs.Common.{rules, Ok, Err}
use Rattle.refusal.specs.Answer.{number_in}
use Rattle.header.specs.declared.Fields.{Fields}
use Rattle.frame.specs.Read as read
use Rattle.writing.specs.Write as write
use Rattle.writing.specs.Write.{WriteSays}
use Rattle.frame_claims.specs.Rewriting.{number_of}
use Rattle.frame_claims.proofs.Witnesses.{not_rewritten, was_rewritten}
use Rattle.frame_claims.proofs.rewritten.Goals as goal

pub returns-in_err-header : goal.returns-in_err-header
returns-in_err-header c =
    let same : number_in number_of c.from_residual.result ≡ read.number_of c.in_err-header.field-0.0 = search rules in
    rw same (not_rewritten c.args.channel c.args.bytes.now c.args.output.now c.in_err-header.field-0.0 c.in_err-header.ensures)

pub returns-in_err-write : goal.returns-in_err-write
returns-in_err-write c =
    let bytes = c.args.bytes.now in
    let output = c.args.output.now in
    let after = c.write.new.output in
    let part = c.payload-part.result.now in
    let w = Err c.in_err-write.field-0.0 in
    let same : number_in number_of c.from_residual-in_err-write.result ≡ write.number_of c.in_err-write.field-0.0 = search rules in
    rw same
    (was_rewritten c.args.channel bytes output after part c.in_ok-header.header w (λ i. (c.type_inv.bytes i).fits) c.in_ok-header.ensures
    c.payload-part.ensures.payload_says (subst (λ (f : Fields). WriteSays c.args.channel f part output after w) c.fields_of.ensures c.in_err-write.ensures))

pub returns : goal.returns
returns c =
    let bytes = c.args.bytes.now in
    let output = c.args.output.now in
    let after = c.write.new.output in
    let part = c.payload-part.result.now in
    let w = Ok c.in_ok-write.field-0 in
    was_rewritten c.args.channel bytes output after part c.in_ok-header.header w (λ i. (c.type_inv.bytes i).fits) c.in_ok-header.ensures
    c.payload-part.ensures.payload_says (subst (λ (f : Fields). WriteSays c.args.channel f part output after w) c.fields_of.ensures c.in_ok-write.ensures)
