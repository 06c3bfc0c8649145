-- `feed` meets its contract. The invariant: the register, with the bits still to come, gives the answer.
use mathlib.Core.Path.{◌≡◌}
use Prim.Native.Nat.{◌^◌, ◌<◌}
use Rattle.division.specs.Bits.{bits}
use Rattle.division.specs.Division.{checksum}
use Rattle.checksum.specs.Checksums.{header_polynomial}
use Rattle.checksum.proofs.feed.Given as goal

abbrev pub invariant-loop-place : goal.invariant-loop-place
invariant-loop-place l = (l.r < 2 ^ 11)
    × (checksum 11 header_polynomial l.r (bits l.place l.n) ≡ checksum 11 header_polynomial l.register (bits l.count l.n))
