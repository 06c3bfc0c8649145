-- The number is in order, and a refusal changes nothing.
use Rattle.std.proofs.Common.{sym, ◌∙◌, subst}
use Rattle.refusal.specs.Refusal.{InOrder}
use Rattle.wire_reader.specs.Listening.{listen_refusals}
use Rattle.reader_claims.proofs.Answers.{listen_in_order, listen_refused}
use Rattle.reader_claims.proofs.listen_number.Goals as goal

pub returns : goal.returns
returns c =
    let r = c.args.reader in
    record {
      order =
          subst (InOrder (listen_refusals r c.args.memory.now)) (sym c.number.ensures)
          (listen_in_order r c.args.samples.now c.args.memory.now _ c.listen.result c.listen.ensures);
      refused = λ not-0.
          (listen_refused r c.args.samples.now c.args.memory.now _ c.listen.result c.listen.ensures
          (λ e. not-0 (c.number.ensures ∙ e))).2;
    }
