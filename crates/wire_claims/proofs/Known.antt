-- The known streams, each worked out.
use mathlib.Core.Path.{refl}
use Rattle.division.specs.Bits.{bits, number, bytes_of}
use Rattle.wire.specs.Stream.{coded, stream}
use Rattle.wire.specs.Packing.{packed}
use Rattle.wire_claims.specs.Known.{KnownStreams}

pub known_streams : KnownStreams
unfolding bits number bytes_of coded stream packed
known_streams = record { one = (refl, refl); three = (refl, refl); fifteen = (refl, refl) }
