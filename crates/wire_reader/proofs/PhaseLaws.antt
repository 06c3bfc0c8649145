-- A sound phase, as facts about its numbers.
use Prim.Native.Nat.{ℕ, zero, suc, ◌+◌, ◌*◌, ◌/◌, ◌^◌, ◌≤◌}
use mathlib.Core.Path.{◌≡◌}
use mathlib.Core.Bool.{Bool, true, false, ◌&&◌}
use native.Mathlib.Omega.{arith}
use borrow.Author.Tests.{le-leb, leb-true, eq-eqb, eqb-true}
use lib.Dec.{eqb, leb}
use Rattle.numbers.proofs.Truth.{both_true, true_both}
use Rattle.division.specs.Bits.{bit}
use Rattle.wire_reader.specs.declared.phase.Phase.{Phase}
use Rattle.wire_reader.specs.declared.phase.Phase.TheVariants.{Waiting, Start, FrameStart, ByteStart, ByteStartLow, Byte, End, EndHigh}
use Rattle.wire_reader.specs.Sound.{within, no_bytes, most_since, sound_phase}
use Rattle.wire_reader.specs.Pending.{RoomFor}

abbrev pub Fine : Phase → ℕ → ℕ → ℕ → Type 0
Fine Waiting count since slack = (count ≡ 0) × (since ≡ 0)
Fine (Start n) count since slack = (1 ≤ n) × (n ≤ 17) × (count ≡ 0) × (since ≡ 0)
Fine (FrameStart n) count since slack = (1 ≤ n) × (n ≤ 3) × (count ≡ 0) × (since ≡ 0)
Fine ByteStart count since slack = (1 ≤ count) × (count ≤ 261) × (since ≤ 12 * (10 * count) + slack)
Fine ByteStartLow count since slack = (1 ≤ count) × (count ≤ 261) × (since ≤ 12 * (10 * count + 1) + slack)
Fine (Byte n value) count since slack = (n ≤ 7) × (value / 2 ^ n ≡ 0) × (count ≤ 261) × (since ≤ 12 * (10 * count + 2 + n) + slack)
Fine End count since slack = (8 ≤ count) × (count ≤ 262) × (since ≤ 12 * (10 * count) + slack)
Fine EndHigh count since slack = (count ≡ 0) × (since ≡ 0)

-- ---- the tests one by one

none_is : (count since : ℕ) → no_bytes count since ≡ true → (count ≡ 0) × (since ≡ 0)
none_is count since e = let h = both_true (eqb count 0) (eqb since 0) e in (eqb-true count 0 h.0, eqb-true since 0 h.1)

is_none_lem : (count since : ℕ) → count ≡ 0 → since ≡ 0 → no_bytes count since ≡ true
is_none_lem count since c s = true_both (eqb count 0) (eqb since 0) (eq-eqb count 0 c) (eq-eqb since 0 s)

between : (a b n : ℕ) → within a b n ≡ true → (a ≤ n) × (n ≤ b)
between a b n e = let h = both_true (leb a n) (leb n b) e in (leb-true a n h.0, leb-true n b h.1)

is_between : (a b n : ℕ) → a ≤ n → n ≤ b → within a b n ≡ true
is_between a b n g h = true_both (leb a n) (leb n b) (le-leb a n g) (le-leb n b h)

-- ---- all of them

pub fine : (phase : Phase) (count since slack : ℕ) → sound_phase phase count since slack ≡ true → Fine phase count since slack
fine Waiting count since slack e = none_is count since e
fine (Start n) count since slack e =
    let h = both_true (within 1 17 n) (no_bytes count since) e in
    let w = between 1 17 n h.0 in
    let z = none_is count since h.1 in
    (w.0, w.1, z.0, z.1)
fine (FrameStart n) count since slack e =
    let h = both_true (within 1 3 n) (no_bytes count since) e in
    let w = between 1 3 n h.0 in
    let z = none_is count since h.1 in
    (w.0, w.1, z.0, z.1)
fine ByteStart count since slack e =
    let most = most_since (10 * count) slack in
    let h = both_true (within 1 261 count) (leb since most) e in
    let w = between 1 261 count h.0 in
    (w.0, w.1, leb-true since most h.1)
fine ByteStartLow count since slack e =
    let most = most_since (10 * count + 1) slack in
    let h = both_true (within 1 261 count) (leb since most) e in
    let w = between 1 261 count h.0 in
    (w.0, w.1, leb-true since most h.1)
fine (Byte n value) count since slack e =
    let most = most_since (10 * count + 2 + n) slack in
    let h = both_true (leb n 7 && eqb (value / 2 ^ n) 0) (leb count 261 && leb since most) e in
    let v = both_true (leb n 7) (eqb (value / 2 ^ n) 0) h.0 in
    let c = both_true (leb count 261) (leb since most) h.1 in
    (leb-true n 7 v.0, eqb-true (value / 2 ^ n) 0 v.1, leb-true count 261 c.0, leb-true since most c.1)
fine End count since slack e =
    let most = most_since (10 * count) slack in
    let h = both_true (within 8 262 count) (leb since most) e in
    let w = between 8 262 count h.0 in
    (w.0, w.1, leb-true since most h.1)
fine EndHigh count since slack e = none_is count since e

pub is_sound : (phase : Phase) (count since slack : ℕ) → Fine phase count since slack → sound_phase phase count since slack ≡ true
is_sound Waiting count since slack f = is_none_lem count since f.0 f.1
is_sound (Start n) count since slack f =
    true_both (within 1 17 n) (no_bytes count since) (is_between 1 17 n f.0 f.1) (is_none_lem count since f.2 f.3)
is_sound (FrameStart n) count since slack f =
    true_both (within 1 3 n) (no_bytes count since) (is_between 1 3 n f.0 f.1) (is_none_lem count since f.2 f.3)
is_sound ByteStart count since slack f =
    let most = most_since (10 * count) slack in
    true_both (within 1 261 count) (leb since most) (is_between 1 261 count f.0 f.1) (le-leb since most f.2)
is_sound ByteStartLow count since slack f =
    let most = most_since (10 * count + 1) slack in
    true_both (within 1 261 count) (leb since most) (is_between 1 261 count f.0 f.1) (le-leb since most f.2)
is_sound (Byte n value) count since slack f =
    let most = most_since (10 * count + 2 + n) slack in
    true_both (leb n 7 && eqb (value / 2 ^ n) 0) (leb count 261 && leb since most)
    (true_both (leb n 7) (eqb (value / 2 ^ n) 0) (le-leb n 7 f.0) (eq-eqb (value / 2 ^ n) 0 f.1))
    (true_both (leb count 261) (leb since most) (le-leb count 261 f.2) (le-leb since most f.3))
is_sound End count since slack f =
    let most = most_since (10 * count) slack in
    true_both (within 8 262 count) (leb since most) (is_between 8 262 count f.0 f.1) (le-leb since most f.2)
is_sound EndHigh count since slack f = is_none_lem count since f.0 f.1

-- ---- the bits of a byte

pub at_most_127 : (n value : ℕ) → n ≤ 7 → value / 2 ^ n ≡ 0 → value ≤ 127
at_most_127 zero value h e = omega arith
at_most_127 (suc zero) value h e = omega arith
at_most_127 (suc (suc zero)) value h e = omega arith
at_most_127 (suc (suc (suc zero))) value h e = omega arith
at_most_127 (suc (suc (suc (suc zero)))) value h e = omega arith
at_most_127 (suc (suc (suc (suc (suc zero))))) value h e = omega arith
at_most_127 (suc (suc (suc (suc (suc (suc zero)))))) value h e = omega arith
at_most_127 (suc (suc (suc (suc (suc (suc (suc zero))))))) value h e = omega arith
at_most_127 (suc (suc (suc (suc (suc (suc (suc (suc n)))))))) value h e = absurd (omega arith)

pub one_more_bit : (n value : ℕ) (b : Bool) → n ≤ 6 → value / 2 ^ n ≡ 0 → (value * 2 + bit b) / 2 ^ (n + 1) ≡ 0
one_more_bit n value b h e = with-bit n value (bit b) (bit_le b) h e
  where
    bit_le : (b : Bool) → bit b ≤ 1
    bit_le true = omega arith
    bit_le false = omega arith

    with-bit : (n value k : ℕ) → k ≤ 1 → n ≤ 6 → value / 2 ^ n ≡ 0 → (value * 2 + k) / 2 ^ (n + 1) ≡ 0
    with-bit zero value k g h e = omega arith
    with-bit (suc zero) value k g h e = omega arith
    with-bit (suc (suc zero)) value k g h e = omega arith
    with-bit (suc (suc (suc zero))) value k g h e = omega arith
    with-bit (suc (suc (suc (suc zero)))) value k g h e = omega arith
    with-bit (suc (suc (suc (suc (suc zero))))) value k g h e = omega arith
    with-bit (suc (suc (suc (suc (suc (suc zero)))))) value k g h e = omega arith
    with-bit (suc (suc (suc (suc (suc (suc (suc n))))))) value k g h e = absurd (omega arith)

-- ---- what a bit needs

pub room_for : (phase : Phase) (count since slack : ℕ) → Fine phase count since slack → RoomFor phase count
room_for Waiting count since slack f = record { bytes = omega arith; bits = omega arith }
room_for (Start n) count since slack f = record { bytes = omega arith; bits = omega arith }
room_for (FrameStart n) count since slack f = record { bytes = omega arith; bits = omega arith }
room_for ByteStart count since slack f = record { bytes = omega arith; bits = omega arith }
room_for ByteStartLow count since slack f = record { bytes = omega arith; bits = omega arith }
room_for (Byte n value) count since slack f = record { bytes = f.2; bits = at_most_127 n value f.0 f.1 }
room_for End count since slack f = record { bytes = omega arith; bits = omega arith }
room_for EndHigh count since slack f = record { bytes = omega arith; bits = omega arith }

-- the samples since the reference point are far from the end of their type
pub since_small : (phase : Phase) (count since slack : ℕ) → slack ≤ 11 → Fine phase count since slack → since ≤ 40000
since_small Waiting count since slack h f = omega arith
since_small (Start n) count since slack h f = omega arith
since_small (FrameStart n) count since slack h f = omega arith
since_small ByteStart count since slack h f = omega arith
since_small ByteStartLow count since slack h f = omega arith
since_small (Byte n value) count since slack h f = omega arith
since_small End count since slack h f = omega arith
since_small EndHigh count since slack h f = omega arith
