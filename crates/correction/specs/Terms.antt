-- Both terms, before the external term is added (01, "Clock").
use Rattle.std.specs.Prelude.{ℕ, Bool, true, false, ◌||◌, cond, List, [], ◌∷◌, ◌++◌, leb, ℤ, pos, neg_ℤ, ◌+ℤ◌, ◌-ℤ◌, take, Option, None, Some}
use Rattle.std.specs.Int.Signed.{lt_z}
use Rattle.midpoint.specs.Midpoint.{midpoint}
use Rattle.base_types.specs.Microtick.{whole}
use Rattle.base_types.specs.declared.microtick.SignedMicrotick.{SignedMicrotick}
use Rattle.correction.specs.declared.term.Term.{Term}
use Rattle.correction.specs.declared.term.Values.{Values}

-- The most IDs that a list holds: the highest value of field 4.
abbrev pub most_ids : ℕ
most_ids = 15

-- The values in an array: its first numbers. A count that leaves no room for this node's own zero counts as none.
abbrev pub values_in : Values → List ℤ
values_in v = cond (leb v.count most_ids) (take v.count v.numbers) []

-- "add one value 0 if this node sends sync (H)".
abbrev pub with_own : Bool → List ℤ → List ℤ
with_own sends_sync values = values ++ cond sends_sync (pos 0 ∷ []) []

-- "Otherwise add one value 0 if this node sends sync (H), and take the midpoint": none where there is no value.
abbrev pub middle_of : Bool → List ℤ → Option SignedMicrotick
middle_of sends_sync [] = None
middle_of sends_sync (v ∷ vs) = Some (record { 0 = midpoint (with_own sends_sync (v ∷ vs)) })

-- "then damp by d: x > d gives x - d, x < -d gives x + d, else 0".
abbrev pub damped : ℕ → ℤ → ℤ
damped d x = cond (lt_z (pos d) x) (x -ℤ pos d) (cond (lt_z x (neg_ℤ (pos d))) (x +ℤ pos d) (pos 0))

-- "a term outside plus or minus its limit".
abbrev pub is_outside : ℕ → ℤ → Bool
is_outside limit x = lt_z (pos limit) x || lt_z x (neg_ℤ (pos limit))

-- "is set to that limit".
abbrev pub within : ℕ → ℤ → ℤ
within limit x = cond (lt_z (pos limit) x) (pos limit) (cond (lt_z x (neg_ℤ (pos limit))) (neg_ℤ (pos limit)) x)

-- "and flagged".
abbrev pub limited : ℕ → ℤ → Term
limited limit x = record { value = record { 0 = within limit x }; is_missing = false; is_limited = is_outside limit x }

-- A term that is missing, with what stands for it.
abbrev pub missing : ℤ → Term
missing x = record { value = record { 0 = x }; is_missing = true; is_limited = false }

-- "No ID received: "offset missing", term 0. Otherwise add one value 0 if this node sends sync (H), and take the midpoint."
abbrev pub offset_term : List ℤ → Bool → ℕ → Term
offset_term [] sends_sync limit = missing (pos 0)
offset_term (v ∷ vs) sends_sync limit = limited limit (midpoint (with_own sends_sync (v ∷ vs)))

-- "None: "rate missing", stored rate kept as it is (H). Otherwise add the 0 as above, midpoint, plus stored rate; then damp". `hold`
-- says how the sum is held: whole, or as its type holds it.
abbrev pub rate_term_by : (ℤ → ℤ) → List ℤ → Bool → ℤ → ℕ → ℕ → Term
rate_term_by hold [] sends_sync stored d limit = missing stored
rate_term_by hold (v ∷ vs) sends_sync stored d limit = limited limit (damped d (hold (midpoint (with_own sends_sync (v ∷ vs)) +ℤ stored)))

abbrev pub rate_term : List ℤ → Bool → ℤ → ℕ → ℕ → Term
rate_term = rate_term_by whole
