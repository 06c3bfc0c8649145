-- The conditions behind the refusals of writing, each alone (01, "Refusal numbers": "given exactly when"), but for 7, which is in the
-- crate `header`, and for 1, 9 and 11, which are in the crate `base_types`.
use Rattle.std.specs.Prelude.{ℕ, ◌+◌, Bool, not, ◌&&◌, ◌||◌, List, eqb, ltb, length}
use Rattle.std.specs.List.{list_any}
use Rattle.division.specs.Bits.{odd}
use Rattle.header.specs.Layout.{most_payload}

-- 10: "payload to write is odd or above 254 bytes".
abbrev pub bad_payload : List ℕ → Bool
bad_payload payload = odd (length payload) || ltb most_payload (length payload)

-- 12, "reserved bit to write is 1", is the bit itself.

-- Some byte is other than 0.
abbrev pub some_not_zero : List ℕ → Bool
some_not_zero bytes = list_any (λ byte. not (eqb byte 0)) bytes

-- 26: "a null frame with a payload byte other than 0" (02, C-16). In a null frame the bit is 0.
abbrev pub null_frame_not_empty : Bool → List ℕ → Bool
null_frame_not_empty null_frame_bit payload = not null_frame_bit && some_not_zero payload

-- 13: "output shorter than the frame", which has 8 bytes more than its payload.
abbrev pub output_too_short : List ℕ → List ℕ → Bool
output_too_short payload output = ltb (length output) (8 + length payload)
