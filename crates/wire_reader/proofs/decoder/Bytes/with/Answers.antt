-- `with` meets its contract, by what stands behind the byte.
use mathlib.Core.Path.{ap, ◌∙◌}
use Prim.Native.Nat.{◌+◌}
use native.Mathlib.Omega.{arith}
use lib.ListN.{set, length-set}
use Rattle.std.specs.Prelude.{Ok, Err}
use Rattle.wire_reader.specs.Pending.{decoded_by}
use Rattle.wire_reader.proofs.AfterLaws.{behind_is}
use Rattle.wire_reader.proofs.decoder.Bytes.with.Goals as goal

pub slice_bounds-behind-end : goal.slice_bounds-behind-end
slice_bounds-behind-end c = simp length-set (omega arith)

pub returns-in-Err : goal.returns-in-Err
returns-in-Err c =
    let memory = set c.args.memory.now c.args.self.count c.args.value in
    ap (λ r. decoded_by r memory) c.failed.ensures
    ∙ behind_is (Err c.in-Err.refusal) (c.args.self.count + 1) c.args.self.since memory c.in-Err.ensures

pub returns-in-Ok : goal.returns-in-Ok
returns-in-Ok c =
    let memory = set c.args.memory.now c.args.self.count c.args.value in
    ap (λ r. decoded_by r memory) c.moved_to.ensures
    ∙ behind_is (Ok c.in-Ok.phase) (c.args.self.count + 1) c.args.self.since memory c.in-Ok.ensures
