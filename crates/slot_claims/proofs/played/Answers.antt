-- The events before the loop's place have happened, and the rest are still to come.
use mathlib.Core.Path.{◌≡◌, ◌∙◌}
use mathlib.Core.List.{[]}
use native.Mathlib.Numerals.{add-one}
use lib.ListN.{drop, drop_of_length-le}
use lib.Seq.{drop-cons}
use Rattle.slot_claims.specs.declared.SlotEvent.TheVariants.{Boundary}
use Rattle.slot_claims.specs.Witnesses.{events_of}
use Rattle.slot_claims.proofs.Witnesses.{left, was_played}
use Rattle.slot_claims.proofs.played.Goals as goal

pub loop-event-preserved : goal.loop-event-preserved
unfolding left
loop-event-preserved c =
    let l = c.loop-event in
    l.invariant
    ∙ rw (drop-cons c.args.events.now l.event-index Boundary c.loop-event-test.true, c.happened-status.ensures, add-one l.event-index)

pub returns : goal.returns
unfolding left
returns c =
    let a = c.args in
    let l = c.loop-event in
    let none : drop l.event-index a.events.now ≡ [] = drop_of_length-le a.events.now {i = l.event-index} c.loop-event-test.false in
    was_played a.settings a.channel a.slot a.cycle c.open_slot.result (events_of a.events.now) l.status c.open_slot.ensures
    (l.invariant ∙ rw none)
