-- `write_number` is told by 01's order, and with a refusal the output is as it was.
use mathlib.Core.Path.{sym, ◌∙◌, subst}
use Rattle.refusal.specs.Refusal.{InOrder}
use Rattle.writing.specs.Write.{refusals}
use Rattle.frame_claims.proofs.Answers.{write_in_order, refused_unchanged}
use Rattle.frame_claims.proofs.write_number.Goals as goal

pub returns : goal.returns
returns c =
    let a = c.args in
    let payload = a.payload.now in
    let output = a.output.now in
    let after = c.write.new.output in record {
      in_order = subst (InOrder (refusals a.channel a.fields payload output)) (sym c.number.ensures)
          (write_in_order a.channel a.fields payload output after c.write.result c.write.ensures);
      output_unchanged = λ refused. refused_unchanged a.channel a.fields payload output after c.write.result c.write.ensures (λ e. refused (c.number.ensures ∙ e));
    }
