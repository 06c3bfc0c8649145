-- `offset_values` meets its contract: the values of the rows passed are in their array.
use mathlib.Core.Path.{refl, ap, ◌∙◌}
use native.Mathlib.Omega.{arith}
use Rattle.correction.specs.Values.{offset_value}
use Rattle.sync_list.specs.Rows.{blank}
use Rattle.list_values.specs.Values.{present}
use Rattle.list_values.proofs.ValueLaws.{has_room, is_filled, row_passed, all_passed}
use Rattle.list_values.proofs.offset_values.Invariants.{offset_of}
use Rattle.list_values.proofs.offset_values.Goals as goal

pub loop-row-init : goal.loop-row-init
unfolding present
loop-row-init c = refl

pub lay-requires-clause-room : goal.lay-requires-clause-room
lay-requires-clause-room c =
    let k = c.loop-row in has_room offset_of c.listed-rows.result.now c.listed-rows.ensures.few k.row-index k.values k.invariant c.loop-row-test.true

pub lay-requires-clause-zeros : goal.lay-requires-clause-zeros
lay-requires-clause-zeros c =
    let k = c.loop-row in is_filled offset_of c.listed-rows.result.now c.listed-rows.ensures.few k.row-index k.values k.invariant c.loop-row-test.true

pub loop-row-preserved : goal.loop-row-preserved
loop-row-preserved c =
    let k = c.loop-row in
    let value = c.offset_value.ensures ∙ ap offset_value c.deviations.ensures in
    row_passed offset_of c.listed-rows.result.now c.listed-rows.ensures.few k.row-index k.values k.invariant (blank (record { 0 = 0 })) c.loop-row-test.true c.lay.new.values c.offset_value.result value c.lay.ensures

pub returns-clause-result_value : goal.returns-clause-result_value
returns-clause-result_value c =
    let k = c.loop-row in
    rw (← c.listed-rows.ensures.value)
    (all_passed offset_of c.listed-rows.result.now c.listed-rows.ensures.few k.row-index k.values k.invariant (omega arith) c.loop-row-test.false)
