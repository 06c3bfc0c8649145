-- There is room for one byte more.
use Prim.Native.Nat.{◌^◌, ◌<◌}
use native.Mathlib.Omega.{arith}
use lib.ListN.{take, length-take}
use lib.Seq.{get_or-take}
use Rattle.lent_bytes.proofs.NumberLaws.{room_number}
use Rattle.lent_bytes.proofs.number_in.Goals as goal
use Rattle.lent_bytes.proofs.number_in.Goals.{In-loop-byte}

room : (c : In-loop-byte) → c.loop-byte.number < 2 ^ 56
room c =
    let first = take c.min.result c.args.bytes.now in
    let here : c.loop-byte.byte-index < 8 = omega (arith, length-take c.min.result c.args.bytes.now) in
    rw c.loop-byte.invariant (room_number first c.loop-byte.byte-index here)

pub overflow_mul-number : goal.overflow_mul-number
overflow_mul-number c = omega (arith, room c)

pub overflow_add-number : goal.overflow_add-number
overflow_add-number c =
    let i = c.loop-byte.byte-index in
    let here : i < c.min.result = omega (arith, length-take c.min.result c.args.bytes.now) in
    omega (arith, room (goal.at.overflow_add-number c).In-loop-byte, get_or-take c.min.result c.args.bytes.now i 0 here, c.type_inv.bytes i)
