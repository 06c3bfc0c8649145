-- `rate_values` meets its contract: the values of the rows passed are in their array.
use mathlib.Core.Path.{refl}
use native.Mathlib.Omega.{arith}
use Rattle.sync_list.specs.Lists.{listed}
use Rattle.sync_list.specs.Rows.{blank}
use Rattle.list_values.specs.Values.{present}
use Rattle.list_values.proofs.ValueLaws.{has_room, is_filled, row_passed, all_passed}
use Rattle.list_values.proofs.rate_values.Invariants.{rate_of}
use Rattle.list_values.proofs.rate_values.Goals as goal

pub loop-row-init : goal.loop-row-init
unfolding present
loop-row-init c = refl

pub lay-requires-clause-room : goal.lay-requires-clause-room
lay-requires-clause-room c =
    let k = c.loop-row in has_room (rate_of (listed c.args.even)) c.listed-rows.result.now c.listed-rows.ensures.few k.row-index k.values k.invariant c.loop-row-test.true

pub lay-requires-clause-zeros : goal.lay-requires-clause-zeros
lay-requires-clause-zeros c =
    let k = c.loop-row in is_filled (rate_of (listed c.args.even)) c.listed-rows.result.now c.listed-rows.ensures.few k.row-index k.values k.invariant c.loop-row-test.true

pub loop-row-preserved : goal.loop-row-preserved
loop-row-preserved c =
    let k = c.loop-row in
    let value = rw (c.deviations.ensures, c.deviations-in-loop-row.ensures, c.row_of-even_row.ensures) at c.rate_value.ensures in
    row_passed (rate_of (listed c.args.even)) c.listed-rows.result.now c.listed-rows.ensures.few k.row-index k.values k.invariant (blank (record { 0 = 0 })) c.loop-row-test.true c.lay.new.values c.rate_value.result value c.lay.ensures

pub returns-clause-result_value : goal.returns-clause-result_value
returns-clause-result_value c =
    let k = c.loop-row in
    rw (← c.listed-rows.ensures.value)
    (all_passed (rate_of (listed c.args.even)) c.listed-rows.result.now c.listed-rows.ensures.few k.row-index k.values k.invariant (omega arith) c.loop-row-test.false)
