-- `feed_bytes` meets its contract. The invariant: the register, with the bytes still to come, gives the answer.
use mathlib.Core.Path.{◌≡◌}
use Prim.Native.Nat.{◌^◌, ◌<◌}
use lib.ListN.{drop}
use Rattle.division.specs.Bits.{bytes_bits}
use Rattle.division.specs.Division.{checksum}
use Rattle.checksum.specs.Checksums.{frame_polynomial}
use Rattle.checksum.proofs.feed_bytes.Given as goal

abbrev pub invariant-loop-byte : goal.invariant-loop-byte
invariant-loop-byte l = (l.r < 2 ^ 24)
    × (checksum 24 frame_polynomial l.r (bytes_bits (drop l.byte-index l.bytes)) ≡ checksum 24 frame_polynomial l.register (bytes_bits l.bytes))
