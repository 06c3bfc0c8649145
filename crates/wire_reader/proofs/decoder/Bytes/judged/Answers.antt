-- `judged` meets its contract: reading decides.
use mathlib.Core.Path.{ap, ◌∙◌}
use Rattle.frame.specs.Read as read
use Rattle.wire_reader.specs.Decoder.{judged}
use Rattle.wire_reader.specs.Pending.{decoded_by}
use Rattle.wire_reader.proofs.AfterLaws.{refused_fails}
use Rattle.wire_reader.proofs.decoder.Bytes.judged.Goals as goal

pub returns-in-Err : goal.returns-in-Err
returns-in-Err c =
    let m = c.args.memory.now in
    ap (λ x. decoded_by x m) c.failed.ensures
    ∙ refused_fails c.in-Err.refusal c.args.self.count c.args.self.since m
    ∙ ap (λ (x : read.Told). judged x c.args.self.count c.args.self.since m) c.in-Err.ensures

pub returns-in-Ok : goal.returns-in-Ok
returns-in-Ok c =
    let m = c.args.memory.now in
    ap (λ x. decoded_by x m) c.told.ensures
    ∙ ap (λ (x : read.Told). judged x c.args.self.count c.args.self.since m) c.in-Ok.ensures
