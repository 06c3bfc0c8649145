-- The events before the loop's place have happened, and the rest are still to come.
use mathlib.Core.Path.{◌≡◌}
use lib.ListN.{drop}
use Rattle.slot_claims.specs.Witnesses.{events_of}
use Rattle.slot_claims.proofs.Witnesses.{left}
use Rattle.slot_claims.proofs.played.Given as goal

abbrev pub invariant-loop-event : goal.invariant-loop-event
invariant-loop-event l = left l.initial.status (events_of l.events) ≡ left l.status (events_of (drop l.event-index l.events))
