-- The reader over bits, where it is left open in which of its eight samples a bit is strobed.
use Prim.Native.Nat.{ℕ, suc, ◌+◌, ◌-◌}
use mathlib.Core.Bool.{Bool, cond}
use mathlib.Core.List.{List, [], ◌∷◌}
use Rattle.base_types.specs.declared.channel.Channel.{Channel}
use Rattle.wire_reader.specs.Decoder.{Place, Decoded, decoded, is_timed}
use Rattle.wire_reader.specs.Reader.{Run, noted}

-- For each bit, by its number: whether the channel is idle at its strobe, and in which of its samples the strobe falls.
pub record Course : Type 0 where
  pub idle : ℕ → Bool
  pub strobe : ℕ → ℕ

abbrev pub next : Course → Course
next o = record { idle = (λ n. o.idle (suc n)); strobe = (λ n. o.strobe (suc n)) }

-- Eight samples later.
abbrev pub plus8 : ℕ → ℕ
plus8 i = suc (suc (suc (suc (suc (suc (suc (suc i)))))))

-- What a bit means that is strobed in its sample j, at a place that is the reader's when the bit begins.
abbrev pub meant : Channel → Bool → ℕ → Place → Bool → Decoded
meant channel idle j p b =
    decoded p.phase b channel idle p.count (cond (is_timed p.phase) (p.since + suc j) 0) p.memory

-- The place when the bit ends: q, but for the samples since the reference point.
abbrev pub reached : ℕ → Place → Place → Place
reached j p q =
    record {
      phase = q.phase;
      count = q.count;
      since = cond (is_timed q.phase) (cond (is_timed p.phase) (plus8 p.since) (7 - j)) 0;
      memory = q.memory;
    }

-- From the bit whose first sample is number i on.
unfoldable pub follow : List Bool → Channel → Course → ℕ → Place → Run Place
follow [] channel o i p = record { state = p; events = [] }
follow (b ∷ l) channel o i p =
    let d = meant channel (o.idle 0) (o.strobe 0) p b in
    noted (i + o.strobe 0) d.told d.place.memory (follow l channel (next o) (plus8 i) (reached (o.strobe 0) p d.place))
