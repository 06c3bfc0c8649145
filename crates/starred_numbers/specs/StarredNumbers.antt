-- The starred numbers (01, "Numbers to check against": "Starred ones (12) are shown of the rules themselves, collected as one list
-- under a single claim").
use Rattle.std.specs.Prelude.{ℕ, ◌≡◌, true, false, List, [], ◌∷◌, ℤ, pos, neg_ℤ, length}
use Rattle.refusal.specs.Refusal.{first}
use Rattle.header.specs.declared.Fields.{Fields}
use Rattle.frame.specs.Read.{refusals}
use Rattle.writing.specs.Write.{header_of, header_and_payload}
use Rattle.midpoint.specs.Midpoint.{midpoint}
use Rattle.correction.specs.declared.term.Term.{Term}
use Rattle.correction.specs.Deviation.{deviation}
use Rattle.correction.specs.Terms.{rate_term}
use Rattle.correction.specs.External.{with_external}

-- "Header of ID 1, all indicators 0 but null frame bit 1, 0 words, cycle 0".
abbrev pub plain_fields : Fields
plain_fields =
    record {
      reserved = false;
      preamble = false;
      null_frame_bit = true;
      sync = false;
      startup = false;
      id = record { 0 = 1 };
      cycle = record { 0 = 0 };
    }

-- A number below zero.
abbrev pub minus : ℕ → ℤ
minus n = neg_ℤ (pos n)

-- A closing in an odd cycle of a node that sends no sync frame, with one pair whose difference, which is then the midpoint, is given:
-- the term, by the stored rate, the damping d and the limit.
abbrev pub rate_after : ℤ → ℤ → ℕ → ℕ → Term
rate_after stored midpoint d limit = rate_term (midpoint ∷ []) false stored d limit

-- "Stored 5, midpoint 10, d 2, limit 10", and "Next midpoint 0".
abbrev pub first_rate : Term
first_rate = rate_after (pos 5) (pos 10) 2 10

abbrev pub next_rate : Term
next_rate = rate_after first_rate.value.0 (pos 0) 2 10

-- What 01 stars, in its order.
abbrev pub starred : List (Type 0)
starred =
    (((header_of plain_fields 0).checksum ≡ 0x69F) × (header_and_payload plain_fields [] ≡ 0x20 ∷ 0x01 ∷ 0x01 ∷ 0xA7 ∷ 0xC0 ∷ []))
    ∷ ((first (refusals 0 []) ≡ 2) × (first (refusals 1 []) ≡ 2))
    ∷ (midpoint (pos 15 ∷ pos 13 ∷ pos 6 ∷ minus 3 ∷ minus 5 ∷ []) ≡ pos 5)
    ∷ (midpoint (pos 8 ∷ pos 9 ∷ []) ≡ pos 8)
    ∷ (midpoint (pos 8 ∷ minus 25 ∷ []) ≡ minus 8)
    ∷ (midpoint (minus 7 ∷ pos 100 ∷ minus 10 ∷ []) ≡ minus 7)
    ∷ (midpoint (pos 1 ∷ pos 2 ∷ pos 3 ∷ pos 4 ∷ pos 5 ∷ pos 6 ∷ pos 7 ∷ []) ≡ pos 4)
    ∷ (midpoint (pos 1 ∷ pos 2 ∷ pos 3 ∷ pos 4 ∷ pos 5 ∷ pos 6 ∷ pos 7 ∷ pos 8 ∷ []) ≡ pos 4)
    ∷ (deviation 1000 56 40 900 ≡ pos 4)
    ∷ (deviation 1000 56 44 900 ≡ pos 0)
    ∷ ((first_rate.value.0 ≡ pos 10) × (first_rate.is_limited ≡ true) × (with_external first_rate.value.0 (minus 1) 3 ≡ pos 7))
    ∷ (next_rate.value.0 ≡ pos 8)
    ∷ []

-- Every statement of a list holds.
abbrev pub Each : List (Type 0) → Type 0
Each [] = Unit
Each (statement ∷ rest) = statement × Each rest

-- The claim.
pub record StarredNumbers : Type 1 where
  pub twelve : length starred ≡ 12
  pub each : Each starred
