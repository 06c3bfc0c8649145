-- `number_with_room`: output of the size that the crate names is never too short.
use mathlib.Core.Path.{sym, ◌∙◌}
use Prim.Native.Nat.{ℕ}
use native.Mathlib.Omega.{arith}
use lib.ListN.{replicate, length-replicate}
use Rattle.wire.specs.Packing.{most_packed}
use Rattle.wire_claims.proofs.Answers.{room_for_all}
use Rattle.wire_claims.proofs.number_with_room.Goals as goal

pub returns : goal.returns
returns c =
    let a = c.args in
    let short =
    room_for_all a.channel a.bytes.now a.start (replicate most_packed 0) c.encode.new.output c.encode.result c.encode.ensures in
    λ is. omega (arith, short (sym c.number.ensures ∙ is), length-replicate {A = ℕ} most_packed 0)
