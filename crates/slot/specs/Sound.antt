-- Which statuses are sound (01, "Refusal numbers": "A slot status is sound if").
use Rattle.std.specs.Prelude.{Bool, true, false, not, ◌&&◌, ◌||◌, eqb, leb, Option, Some, None, is_some, is_none}
use Rattle.refusal.specs.Refusal.{first}
use Rattle.base_types.specs.Channel.{number_of}
use Rattle.checksum.specs.Pair as pair
use Rattle.header.specs.declared.Header.{Header}
use Rattle.header.specs.Layout.{most_words, header_checksum_of}
use Rattle.base_types.specs.Slot.{not_an_id}
use Rattle.base_types.specs.Cycle.{cycle_too_high}
use Rattle.header.specs.Refusals.{startup_without_sync}
use Rattle.slot.specs.declared.status.Status.{Status}
use Rattle.slot.specs.Judging.{Place, place_of, first_miss, is_second_good_frame, has_arrival}
use Rattle.slot.specs.Opening.{opening_refusals}

-- "its settings, channel, slot and cycle would open a slot".
abbrev pub would_open : Place → Bool
would_open p = eqb (first (opening_refusals p.settings (number_of p.channel) p.slot p.cycle)) 0

-- "one that a read could give": ID, words and cycle are in 01's ranges, startup is set only with sync, and the header checksum is the
-- one that belongs there.
abbrev pub could_be_read : Header → Bool
could_be_read h =
    not (not_an_id h.id.0)
    && (leb h.words most_words && (not (cycle_too_high h.cycle.0) && (not (startup_without_sync h.startup h.sync) && eqb h.checksum (header_checksum_of h))))

-- "is one that a read could give and passes (a) to (e)". Where no frame is kept, nothing is asked.
abbrev pub keeps_well : Place → Option Header → Bool
keeps_well p None = true
keeps_well p (Some h) = could_be_read h && is_none (first_miss p h)

-- "stands exactly with".
abbrev pub exactly_with : Bool → Bool → Bool
exactly_with true b = b
exactly_with false b = not b

-- "only with".
abbrev pub only_with : Bool → Bool → Bool
only_with a b = not a || b

-- "A slot status is sound if": the clauses of 01, in their order, and before the last those of 02: "(f) only with "valid"" (C-15), and "0, 0
-- without one, else unsound" of the checksums that the first syntax error told (C-18).
abbrev pub sound : Status → Bool
sound s =
    would_open (place_of s)
    && exactly_with s.content_error (is_some s.reason)
    && exactly_with s.valid (is_some s.kept)
    && keeps_well (place_of s) s.kept
    && only_with (is_second_good_frame s.reason) s.valid
    && only_with (not (pair.is_none s.checksums)) s.syntax_error
    && exactly_with s.conflict (s.own_sending && has_arrival s)
