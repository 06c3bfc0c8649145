-- What stands behind a byte, and at the low bit of the end.
use Prim.Native.Nat.{ℕ, ◌+◌, ◌*◌, ◌<◌}
use mathlib.Core.Path.{◌≡◌, refl, ap, ◌∙◌}
use mathlib.Core.Bool.{Bool, true, false, cond}
use mathlib.Core.List.{List}
use native.Mathlib.Omega.{arith}
use borrow.Author.Tests.{ne_eqb, eq-eqb, lt-leb}
use lib.Dec.{leb}
use lib.ListN.{length, take}
use Rattle.checksum.specs.declared.pair.ChecksumPair.{ChecksumPair}
use Rattle.frame.specs.Refusals.{header_checksum_differs}
use Rattle.frame.specs.Read as read
use Rattle.std.specs.Prelude.{Result, Ok, Err}
use Rattle.frame.specs.declared.ReadRefusal.{ReadRefusal}
use Rattle.frame.specs.declared.ReadRefusal.TheVariants.{HeaderChecksumDiffers}
use Rattle.frame.specs.declared.ReadRefusal.TheVariants as refusals
use Rattle.wire_reader.specs.declared.phase.Phase.{Phase}
use Rattle.wire_reader.specs.declared.phase.Phase.TheVariants.{ByteStart, End}
use Rattle.wire_reader.specs.Decoder.{Decoded, moved, failed, header_wrong, checksums_of, complete, behind_byte, judged}
use Rattle.wire_reader.specs.Pending.{after_of}

-- ---- by how many bytes there are

pub fewer_than_5 : (bytes : List ℕ) → length bytes < 5 → Ok ByteStart ≡ after_of bytes
unfolding header_wrong complete
fewer_than_5 bytes h =
    rw (ne_eqb (length bytes) 5 (λ e. omega arith), lt-leb (8 + 2 * (read.header_read bytes).words) (length bytes) (omega arith)) refl

pub five_wrong : (bytes : List ℕ) → length bytes ≡ 5 → header_checksum_differs (read.header_read bytes) ≡ true
    → Err (HeaderChecksumDiffers (checksums_of bytes)) ≡ after_of bytes
unfolding header_wrong
five_wrong bytes h e = rw (eq-eqb (length bytes) 5 h, e) refl

pub five_right : (bytes : List ℕ) → length bytes ≡ 5 → header_checksum_differs (read.header_read bytes) ≡ false → Ok ByteStart ≡ after_of bytes
unfolding header_wrong complete
five_right bytes h e =
    rw (eq-eqb (length bytes) 5 h, e, lt-leb (8 + 2 * (read.header_read bytes).words) (length bytes) (omega arith)) refl

pub more_than_5 : (bytes : List ℕ) (b : Bool) → (length bytes ≡ 5 → ⊥) → leb (8 + 2 * (read.header_read bytes).words) (length bytes) ≡ b
    → Ok (cond b End ByteStart) ≡ after_of bytes
unfolding header_wrong complete
more_than_5 bytes b h e = rw (ne_eqb (length bytes) 5 h, e) refl

-- ---- what it makes of the memory

abbrev pub behind_by : Result Phase ReadRefusal → ℕ → ℕ → List ℕ → Decoded
behind_by (Err refusal) count since memory = failed (read.refused_with (read.number_of refusal) (read.checksums_of refusal)) memory
behind_by (Ok phase) count since memory = moved phase count since memory

by_tests : (w : Bool) (phase : Phase) (checksums : ChecksumPair) (count since : ℕ) (memory : List ℕ)
    → behind_by (cond w (Err (HeaderChecksumDiffers checksums)) (Ok phase)) count since memory
    ≡ cond w (failed (read.refused_with 4 checksums) memory) (moved phase count since memory)
by_tests true phase checksums count since memory = refl
by_tests false phase checksums count since memory = refl

pub behind_is : (b : Result Phase ReadRefusal) (count since : ℕ) (memory : List ℕ) → b ≡ after_of (take count memory)
    → behind_by b count since memory ≡ behind_byte count since memory
behind_is b count since memory e =
    ap (λ (x : Result Phase ReadRefusal). behind_by x count since memory) e
    ∙ by_tests (header_wrong (take count memory)) (cond (complete (take count memory)) End ByteStart) (checksums_of (take count memory)) count since memory

-- ---- at the low bit of the end

pub refused_fails : (refusal : ReadRefusal) (count since : ℕ) (memory : List ℕ)
    → failed (read.told (Err refusal)) memory ≡ judged (read.told (Err refusal)) count since memory
refused_fails refusals.NotAChannel count since memory = refl
refused_fails refusals.TooShort count since memory = refl
refused_fails refusals.BadSize count since memory = refl
refused_fails (refusals.HeaderChecksumDiffers checksums) count since memory = refl
refused_fails refusals.WordsNotSize count since memory = refl
refused_fails refusals.IdZero count since memory = refl
refused_fails refusals.StartupWithoutSync count since memory = refl
refused_fails (refusals.FrameChecksumDiffers checksums) count since memory = refl
