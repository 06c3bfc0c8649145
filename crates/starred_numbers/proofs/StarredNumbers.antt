-- The starred numbers, each worked out.
use mathlib.Core.Path.{refl}
use Rattle.division.specs.Bits.{bits, number, bytes_of}
use Rattle.division.specs.Division.{step, feed, checksum, exor, only_if}
use Rattle.base_types.specs.Channel.{not_a_channel}
use Rattle.writing.specs.Write.{header_and_payload}
use Rattle.refusal.specs.Refusal.{first}
use Rattle.midpoint.specs.Midpoint.{insert, sort, midpoint}
use Rattle.starred_numbers.specs.StarredNumbers.{StarredNumbers}

pub starred_numbers : StarredNumbers
unfolding bits number bytes_of step feed checksum exor only_if not_a_channel first header_and_payload insert sort midpoint
starred_numbers =
    record {
      twelve = refl;
      each = ((refl, refl), ((refl, refl), (refl, (refl, (refl, (refl, (refl, (refl, (refl, (refl, ((refl, refl, refl), (refl, tt))))))))))));
    }
