-- A number that names a channel gets a fresh reader on it, any other is refused.
use mathlib.Core.Path.{refl, sym}
use Rattle.refusal.specs.Refusal.{first}
use Rattle.base_types.proofs.ChannelLaws.{named_is, named_not}
use Rattle.wire_reader.proofs.opening.open_reader.Goals as goal

pub returns-in-Err : goal.returns-in-Err
unfolding first
returns-in-Err c =
    let e = named_not c.args.channel (sym c.in-Err.ensures) in
    rw (c.refused.ensures, c.none.ensures) (record { answers = rw e refl; leaves = rw e refl })

pub returns-in-Ok : goal.returns-in-Ok
unfolding first
returns-in-Ok c =
    let e = named_is c.args.channel c.in-Ok.named (sym c.in-Ok.ensures) in
    rw (c.accepted.ensures, c.fresh.ensures) (record { answers = rw e.0 refl; leaves = rw (e.0, e.1) refl })
