-- The values of both terms over lists of measurements (01, "Clock"): "per ID", in whatever order they were measured.
use Rattle.std.specs.Prelude.{ℕ, Bool, ◌&&◌, cond, List, [], ◌∷◌, map, eqb, ℤ, None}
use Rattle.base_types.specs.declared.channel.Channel.{Channel}
use Rattle.base_types.specs.declared.channel.Channel.TheVariants.{A, B}
use Rattle.correction.specs.declared.value.Deviations.{Deviations}
use Rattle.correction.specs.Values.{Value, is, smaller, rate_value}
use Rattle.list_values.specs.Values.{present}
use Rattle.measurements.specs.Measurements.{Taken, different_ids, same_channel}

-- The deviations of the measurements that are meant.
unfoldable pub deviations_if : (Taken → Bool) → List Taken → List ℤ
deviations_if meant [] = []
deviations_if meant (m ∷ ms) = cond (meant m) (m.measurement.deviation.0 ∷ deviations_if meant ms) (deviations_if meant ms)

-- The smallest of some numbers, by sign; none where there is none.
unfoldable pub smallest : List ℤ → Value
smallest [] = None
smallest (d ∷ ds) = smaller (is d) (smallest ds)

-- "per ID the smaller of its deviations in this cycle", of the measurements of one cycle.
abbrev pub offset_of : List Taken → ℕ → Value
offset_of ms id = smallest (deviations_if (λ (m : Taken). eqb m.id id) ms)

abbrev pub offset_values_of : List Taken → List ℤ
offset_values_of ms = present (map (offset_of ms) (different_ids ms))

-- The deviation of an ID on a channel. There is at most one in a cycle.
abbrev pub deviation_on : Channel → List Taken → ℕ → Value
deviation_on channel ms id = smallest (deviations_if (λ (m : Taken). eqb m.id id && same_channel m.channel channel) ms)

abbrev pub deviations_on : List Taken → ℕ → Deviations
deviations_on ms id = record { on_a = deviation_on A ms id; on_b = deviation_on B ms id }

-- "per ID and channel with both measurements, odd minus even; two channels: half the sum", of the measurements of both cycles.
abbrev pub rate_of : List Taken → List Taken → ℕ → Value
rate_of odd even id = rate_value (deviations_on odd id) (deviations_on even id)

abbrev pub rate_values_of : List Taken → List Taken → List ℤ
rate_values_of odd even = present (map (rate_of odd even) (different_ids odd))
