-- `null_frame_not_empty` meets its contract: its closure tests a byte.
use mathlib.Core.Path.{◌≡◌}
use mathlib.Core.Bool.{not}
use lib.Dec.{eqb}
use Rattle.std.proofs.Common.{rules, tests}
use Rattle.std.proofs.lemmas.Iterator.{YieldsList-from_slice}
use Rattle.std.proofs.lemmas.Iterator.Search.{any_from_yields_List}
use Rattle.writing.specs.Refusals.{some_not_zero}
use Rattle.writing.proofs.null_frame_not_empty.Goals as goal

pub returns-then-not-null_frame_bit : goal.returns-then-not-null_frame_bit
returns-then-not-null_frame_bit c =
    let payload = c.args.payload.now in
    let some : c.any.result ≡ some_not_zero payload =
    any_from_yields_List (λ byte. not (eqb byte 0)) _ _ c.any.result c.any.ensures.ran (YieldsList-from_slice payload cc) (λ x b q k. search (rules, tests)) in
    search (rules, some)
