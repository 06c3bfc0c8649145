-- What has been read makes the number.
use mathlib.Core.Path.{◌≡◌}
use lib.ListN.{take}
use Rattle.division.specs.Bits.{number, bytes_bits}
use Rattle.lent_bytes.proofs.number_in.Given as goal

abbrev pub invariant-loop-byte : goal.invariant-loop-byte
invariant-loop-byte l = l.number ≡ number (bytes_bits (take l.byte-index l.first))
