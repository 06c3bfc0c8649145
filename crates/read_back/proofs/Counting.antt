-- What is counted from sample to sample: the timer, and the samples since the reference point.
use Prim.Native.Nat.{ℕ, zero, suc, ◌+◌, ◌*◌, ◌-◌, ◌≤◌, min}
use mathlib.Core.Path.{◌≡◌, refl, ap, ◌∙◌}
use mathlib.Core.Bool.{Bool, true, false, cond}
use mathlib.Core.List.{List}
use native.Mathlib.Omega.{arith}
use lib.Dec.{eqb, ltb}
use lib.ListN.{take, set}
use Rattle.division.specs.Bits.{bit}
use Rattle.base_types.specs.declared.channel.Channel.{Channel}
use Rattle.frame.specs.Read.{rule_on, refused_with, refused}
use Rattle.wire_reader.specs.declared.phase.Phase.{Phase}
use Rattle.wire_reader.specs.declared.phase.Phase.TheVariants.{Waiting, Start, FrameStart, ByteStart, ByteStartLow, Byte, End, EndHigh}
use Rattle.wire_reader.specs.Decoder.{Place, Decoded, moved, without, entered, failed, header_wrong, checksums_of, complete, behind_byte, decoded, is_timed, most_low, most_high, frame}
use Rattle.wire_reader.specs.Reader.{tick}
use Rattle.read_back.proofs.Course.{plus8, meant, reached}

-- ---- the timer

-- So many samples later.
unfoldable pub ticks : ℕ → ℕ → ℕ
ticks zero t = t
ticks (suc n) t = ticks n (tick t)

pub ticks_min : (n t : ℕ) → t ≤ 88 → ticks n t ≡ min 88 (t + n)
unfolding ticks
ticks_min zero t h = omega arith
ticks_min (suc n) t h = ticks_min n (tick t) (omega arith) ∙ omega arith

pub ticks_le : (n t : ℕ) → t ≤ 88 → ticks n t ≤ 88
ticks_le n t h = omega (arith, ticks_min n t h)

-- ---- the samples since the reference point

unfoldable pub counts : ℕ → Bool → ℕ → ℕ
counts zero timed since = since
counts (suc n) timed since = counts n timed (cond timed (suc since) 0)

counts_timed : (n since : ℕ) → counts n true since ≡ since + n
unfolding counts
counts_timed zero since = omega arith
counts_timed (suc n) since = counts_timed n (suc since) ∙ omega arith

pub counts_none : (n : ℕ) → counts n false 0 ≡ 0
unfolding counts
counts_none zero = refl
counts_none (suc n) = counts_none n

pub counts_some : (n : ℕ) (timed : Bool) (since : ℕ) → counts (suc n) timed since ≡ cond timed (since + suc n) 0
unfolding counts
counts_some n true since = counts_timed (suc n) since
counts_some n false since = counts_none n

-- So many samples later, where none strobes.
abbrev pub later : ℕ → Place → Place
later n p = record { phase = p.phase; count = p.count; since = counts n (is_timed p.phase) p.since; memory = p.memory }

-- ---- a bit keeps the count, or has none

abbrev Kept : Bool → ℕ → Decoded → Type 0
Kept timed since d = d.place.since ≡ cond (is_timed d.place.phase) (cond timed since 0) 0

either_kept : (b timed : Bool) (since : ℕ) (d e : Decoded) → Kept timed since d → Kept timed since e → Kept timed since (cond b d e)
either_kept true timed since d e h g = h
either_kept false timed since d e h g = g

byte_kept : (whole : Bool) (count since : ℕ) (memory : List ℕ) → Kept true since (moved (cond whole End ByteStart) count since memory)
byte_kept true count since memory = refl
byte_kept false count since memory = refl

decoded_kept : (phase : Phase) (b : Bool) (channel : Channel) (idle : Bool) (count since : ℕ) (memory : List ℕ)
    → Kept (is_timed phase) since (decoded phase b channel idle count since memory)
decoded_kept Waiting true channel idle count since memory = refl
decoded_kept Waiting false channel true count since memory = refl
decoded_kept Waiting false channel false count since memory = refl
decoded_kept (Start n) false channel idle count since memory =
    either_kept (ltb n most_low) false since (entered (Start (n + 1)) memory) (failed (refused 30) memory) refl refl
decoded_kept (Start n) true channel idle count since memory = refl
decoded_kept (FrameStart n) true channel idle count since memory =
    either_kept (ltb n most_high) false since (entered (FrameStart (n + 1)) memory) (failed (refused 31) memory) refl refl
decoded_kept (FrameStart n) false channel idle count since memory = refl
decoded_kept ByteStart true channel idle count since memory = refl
decoded_kept ByteStart false channel idle count since memory = refl
decoded_kept ByteStartLow false channel idle count since memory = refl
decoded_kept ByteStartLow true channel idle count since memory = refl
decoded_kept (Byte n value) b channel idle count since memory =
    let v = value * 2 + bit b in
    let m = set memory count v in
    let l = take (count + 1) m in
    either_kept (ltb n 7) true since (moved (Byte (n + 1) v) count since memory) (behind_byte (count + 1) since m) refl
    (either_kept (header_wrong l) true since (failed (refused_with 4 (checksums_of l)) m) (moved (cond (complete l) End ByteStart) (count + 1) since m) refl
    (byte_kept (complete l) (count + 1) since m))
decoded_kept End false channel idle count since memory =
    let t = rule_on channel (take count memory) in
    either_kept (eqb t.number 0) true since (record { place = without EndHigh memory; told = frame t.header count since }) (failed t memory) refl refl
decoded_kept End true channel idle count since memory = refl
decoded_kept EndHigh true channel idle count since memory = refl
decoded_kept EndHigh false channel idle count since memory = refl

-- ---- from the beginning of a bit to its end

since_at_end : (after before : Bool) (since j n : ℕ) → j + suc n ≡ 8
    → counts n after (cond after (cond before (cond before (since + suc j) 0) 0) 0) ≡ cond after (cond before (plus8 since) (7 - j)) 0
since_at_end true true since j n e = counts_timed n (since + suc j) ∙ omega arith
since_at_end true false since j n e = counts_timed n 0 ∙ omega arith
since_at_end false before since j n e = counts_none n

-- the strobe is in sample j of the eight, and n come behind it
pub at_end : (channel : Channel) (idle : Bool) (j n : ℕ) (p : Place) (b : Bool) → j + suc n ≡ 8
    → let q = (meant channel idle j p b).place in later n q ≡ reached j p q
at_end channel idle j n p b e =
    let q = (meant channel idle j p b).place in
    let s = cond (is_timed p.phase) (p.since + suc j) 0 in
    ap (λ (k : ℕ). record { phase = q.phase; count = q.count; since = k; memory = q.memory })
    (ap (counts n (is_timed q.phase)) (decoded_kept p.phase b channel idle p.count s p.memory)
    ∙ since_at_end (is_timed q.phase) (is_timed p.phase) p.since j n e)
