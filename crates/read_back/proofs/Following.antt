-- The bits of a frame, read as bits, in whichever of their samples they are strobed.
use Prim.Native.Nat.{ℕ, zero, suc, ◌+◌, ◌*◌, ◌-◌, ◌<◌, ◌≤◌}
use mathlib.Core.Path.{◌≡◌, refl, sym, ap, ap₂, ◌∙◌}
use mathlib.Core.Bool.{Bool, cond}
use mathlib.Core.List.{List, [], ◌∷◌, ◌++◌, append_assoc}
use native.Mathlib.Nat.{zero-add}
use native.Mathlib.Omega.{arith}
use borrow.Author.Tests.{lt-ltb}
use lib.ListN.{length, set, replicate, length-append}
use lib.Seq.{append_snoc}
use Rattle.refusal.specs.Refusal.{first}
use Rattle.division.specs.Bits.{bits, AreBytes}
use Rattle.lent_bytes.specs.Over.{over}
use Rattle.lent_bytes.proofs.OverLaws.{take-over}
use Rattle.base_types.specs.declared.channel.Channel.{Channel}
use Rattle.frame.specs.Read as read
use Rattle.frame.specs.Read.{header_read, refusals_on, rule_on, tells, refused}
use Rattle.wire.specs.Stream.{high, low, coded}
use Rattle.wire_reader.specs.declared.phase.Phase.{Phase}
use Rattle.wire_reader.specs.declared.phase.Phase.TheVariants.{Waiting, Start, ByteStart, Byte, End}
use Rattle.wire_reader.specs.Decoder.{frame, Place, Decoded, moved, without, entered, failed, behind_byte, judged, is_timed}
use Rattle.wire_reader.specs.Reader.{Run, noted}
use Rattle.read_back.proofs.Accepted.{phase_before, next_phase, at_least_8}
use Rattle.read_back.proofs.Bytes.{value_of, value_of_lem, over_one}
use Rattle.read_back.proofs.Course.{Course, next, plus8, reached, follow}

-- The end of a frame.
abbrev tail : List Bool
tail = low ∷ high ∷ []

-- A place with these bytes so far.
abbrev at : List ℕ → Phase → ℕ → List ℕ → Place
at m phase since done = record { phase = phase; count = length done; since = since; memory = over done m }

-- A frame is told, lies in the memory, and the reader waits.
abbrev pub told : List ℕ → ℕ → ℕ → List ℕ → Run Place
told m i since bytes =
    record {
      state = without Waiting (over bytes m);
      events = record { sample = i; told = frame (header_read bytes) (length bytes) since; bytes = bytes } ∷ [];
    }

-- ---- a byte

abbrev next7 : Course → Course
next7 o = next (next (next (next (next (next (next o))))))

abbrev plus56 : ℕ → ℕ
plus56 i = plus8 (plus8 (plus8 (plus8 (plus8 (plus8 (plus8 i))))))

abbrev gone_on : Channel → Course → ℕ → ℕ → List Bool → Decoded → Run Place
gone_on channel o i since l d =
    let q = d.place in
    let s = cond (is_timed q.phase) (plus8 (plus56 since)) 0 in
    noted (plus56 i + (next7 o).strobe 0) d.told q.memory
    (follow l channel (next (next7 o)) (plus8 (plus56 i)) (record { phase = q.phase; count = q.count; since = s; memory = q.memory }))

byte_bits : (channel : Channel) (o : Course) (i since x : ℕ) (m done : List ℕ) (l : List Bool)
    → follow (bits 8 x ++ l) channel o i (at m (Byte 0 0) since done)
    ≡ gone_on channel o i since l
    (behind_byte (length done + 1) (plus56 since + suc ((next7 o).strobe 0)) (set (over done m) (length done) (value_of x)))
unfolding follow bits
byte_bits channel o i since x m done l = refl

module _ (channel : Channel) (bytes : List ℕ) (none : first (refusals_on channel bytes) ≡ 0) (m : List ℕ) (room : length bytes ≤ length m) where
  one_byte : (o : Course) (i since x : ℕ) (done rest : List ℕ) (l : List Bool) → x < 256 → done ++ (x ∷ rest) ≡ bytes
      → follow (bits 8 x ++ l) channel o i (at m (Byte 0 0) since done)
      ≡ gone_on channel o i since l
      (moved (phase_before rest) (length (done ++ (x ∷ []))) (plus56 since + suc ((next7 o).strobe 0)) (over (done ++ (x ∷ [])) m))
  one_byte o i since x done rest l h e =
      let more = done ++ (x ∷ []) in
      let s = plus56 since + suc ((next7 o).strobe 0) in
      let n = sym (length-append done (x ∷ rest)) ∙ ap length e in
      byte_bits channel o i since x m done l
      ∙ ap (λ (v : ℕ). gone_on channel o i since l (behind_byte (length done + 1) s (set (over done m) (length done) v))) (value_of_lem x h)
      ∙ ap₂ (λ (n : ℕ) (memory : List ℕ). gone_on channel o i since l (behind_byte n s memory)) (sym (length-append done (x ∷ [])))
      (over_one done m x (omega arith))
      ∙ ap (gone_on channel o i since l) (next_phase channel bytes none more rest (append_snoc done x rest ∙ e) s m)

  -- ---- the end

  ended : Course → ℕ → ℕ → read.Told → Run Place
  ended o i since t =
      let d = judged t (length bytes) (since + suc (o.strobe 0)) (over bytes m) in
      noted (i + o.strobe 0) d.told d.place.memory
      (follow (high ∷ []) channel (next o) (plus8 i) (reached (o.strobe 0) (at m End since bytes) d.place))

  end_bits : (o : Course) (i since : ℕ)
      → follow tail channel o i (at m End since bytes) ≡ told m (i + o.strobe 0) (since + suc (o.strobe 0)) bytes
  unfolding follow ended
  end_bits o i since =
      let whole = take-over bytes m (length bytes) refl in
      ap (ended o i since) (ap (rule_on channel) whole ∙ ap (λ (n : ℕ). tells n channel bytes) none)
      ∙ ap (λ (l : List ℕ). record {
        state = without Waiting (over bytes m);
        events =
            record { sample = i + o.strobe 0; told = frame (header_read bytes) (length bytes) (since + suc (o.strobe 0)); bytes = l } ∷ [];
      }) whole

  -- ---- byte after byte

  two_bits : (o : Course) (i since : ℕ) (done : List ℕ) (l : List Bool)
      → follow (high ∷ low ∷ l) channel o i (at m ByteStart since done)
      ≡ follow l channel (next (next o)) (plus8 (plus8 i)) (at m (Byte 0 0) (plus8 (plus8 since)) done)
  unfolding follow
  two_bits o i since done l = refl

  from_byte : (rest : List ℕ) (o : Course) (i since x e : ℕ) (done : List ℕ) → AreBytes (x ∷ rest) → done ++ (x ∷ rest) ≡ bytes
      → o.strobe (8 + 10 * length rest) ≡ e
      → follow (bits 8 x ++ (coded rest ++ tail)) channel o i (at m (Byte 0 0) since done)
      ≡ told m (i + 64 + 80 * length rest + e) (since + 65 + 80 * length rest + e) bytes
  unfolding coded
  from_byte [] o i since x e done are is end =
      one_byte o i since x done [] tail (are 0) is
      ∙ ap (λ (l : List ℕ). follow tail channel (next (next7 o)) (plus8 (plus56 i)) (at m End (plus8 (plus56 since)) l)) is
      ∙ end_bits (next (next7 o)) (plus8 (plus56 i)) (plus8 (plus56 since))
      ∙ ap (λ (j : ℕ). told m (plus8 (plus56 i) + j) (plus8 (plus56 since) + suc j) bytes) end
      ∙ ap₂ (λ (n k : ℕ). told m n k bytes) (omega arith) (omega arith)
  from_byte (y ∷ rest) o i since x e done are is end =
      let more = done ++ (x ∷ []) in
      let i2 = plus8 (plus56 i) in
      let s2 = plus8 (plus56 since) in
      let o8 = next (next7 o) in
      let is2 : more ++ (y ∷ rest) ≡ bytes = append_snoc done x (y ∷ rest) ∙ is in
      let index : suc (suc (plus8 (8 + 10 * length rest))) ≡ 8 + 10 * length (y ∷ rest) = omega arith in
      one_byte o i since x done (y ∷ rest) (coded (y ∷ rest) ++ tail) (are 0) is
      ∙ two_bits o8 i2 s2 more ((bits 8 y ++ coded rest) ++ tail)
      ∙ ap (λ (l : List Bool). follow l channel (next (next o8)) (plus8 (plus8 i2)) (at m (Byte 0 0) (plus8 (plus8 s2)) more))
      (append_assoc (bits 8 y) (coded rest) tail)
      ∙ from_byte rest (next (next o8)) (plus8 (plus8 i2)) (plus8 (plus8 s2)) y e more (λ k. are (suc k)) is2 (ap o.strobe index ∙ end)
      ∙ ap₂ (λ (n k : ℕ). told m n k bytes) (omega arith) (omega arith)

  -- ---- the start

  three_bits : (o : Course) (i k : ℕ) (l : List Bool)
      → follow (high ∷ high ∷ low ∷ l) channel o i (without (Start k) m)
      ≡ follow l channel (next (next (next o))) (plus8 (plus8 (plus8 i))) (at m (Byte 0 0) (7 - o.strobe 2) [])
  unfolding follow over
  three_bits o i k l = refl

  from_high : (l : List ℕ) (o : Course) (i k e r : ℕ) → AreBytes l → l ≡ bytes → o.strobe (1 + 10 * length l) ≡ e → o.strobe 2 ≡ r → r ≤ 7
      → follow (high ∷ (coded l ++ tail)) channel o i (without (Start k) m)
      ≡ told m (i + 8 + 80 * length l + e) (80 * length l - 8 + e - r) bytes
  unfolding coded
  from_high [] o i k e r are is end reference small = absurd (omega (arith, at_least_8 channel bytes none, ap length is))
  from_high (x ∷ rest) o i k e r are is end reference small =
      let o3 = next (next (next o)) in
      let i3 = plus8 (plus8 (plus8 i)) in
      let index : suc (suc (suc (8 + 10 * length rest))) ≡ 1 + 10 * length (x ∷ rest) = omega arith in
      three_bits o i k ((bits 8 x ++ coded rest) ++ tail)
      ∙ ap (λ (l : List Bool). follow l channel o3 i3 (at m (Byte 0 0) (7 - o.strobe 2) [])) (append_assoc (bits 8 x) (coded rest) tail)
      ∙ ap (λ (j : ℕ). follow (bits 8 x ++ (coded rest ++ tail)) channel o3 i3 (at m (Byte 0 0) (7 - j) [])) reference
      ∙ from_byte rest o3 i3 (7 - r) x e [] are is (ap o.strobe index ∙ end)
      ∙ ap₂ (λ (n k : ℕ). told m n k bytes) (omega arith) (omega arith)

  started : Course → ℕ → ℕ → List Bool → Bool → Run Place
  started o i k l b =
      let d = cond b (entered (Start (k + 1)) m) (failed (refused 30) m) in
      noted (i + o.strobe 0) d.told d.place.memory
      (follow l channel (next o) (plus8 i) (reached (o.strobe 0) (without (Start k) m) d.place))

  start_low : (o : Course) (i k : ℕ) (l : List Bool) → k < 17
      → follow (low ∷ l) channel o i (without (Start k) m) ≡ follow l channel (next o) (plus8 i) (without (Start (k + 1)) m)
  unfolding follow started
  start_low o i k l h = ap (started o i k l) (lt-ltb k 17 h)

  -- From behind the first low bit on: the frame is told at the strobe e of the low bit of its end, and r is that of its reference point.
  pub frame_follow : (n : ℕ) (o : Course) (i k e r : ℕ) → n + k ≤ 17 → AreBytes bytes
      → o.strobe (n + (1 + 10 * length bytes)) ≡ e → o.strobe (n + 2) ≡ r → r ≤ 7
      → follow (replicate n low ++ (high ∷ (coded bytes ++ tail))) channel o i (without (Start k) m)
      ≡ told m (i + 8 * (n + 1 + 10 * length bytes) + e) (80 * length bytes - 8 + e - r) bytes
  frame_follow zero o i k e r h are end reference small =
      from_high bytes o i k e r are refl (ap o.strobe (sym (zero-add (1 + 10 * length bytes))) ∙ end) reference small
      ∙ ap (λ (n : ℕ). told m n (80 * length bytes - 8 + e - r) bytes) (omega arith)
  frame_follow (suc n) o i k e r h are end reference small =
      let one : (j : ℕ) → suc (n + j) ≡ suc n + j = λ j. omega arith in
      start_low o i k (replicate n low ++ (high ∷ (coded bytes ++ tail))) (omega arith)
      ∙ frame_follow n (next o) (plus8 i) (k + 1) e r (omega arith) are
      (ap o.strobe (one (1 + 10 * length bytes)) ∙ end) (ap o.strobe (one 2) ∙ reference) small
      ∙ ap (λ (n : ℕ). told m n (80 * length bytes - 8 + e - r) bytes) (omega arith)
