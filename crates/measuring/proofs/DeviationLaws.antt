-- The deviation that a sound clock state and accepted times make is one of 01's range, and fits its type: it is held whole, and with it
-- the measurement.
use mathlib.Core.Path.{◌≡◌, ap}
use mathlib.Core.Bool.{true, false}
use Prim.Native.Nat.{◌≤◌}
use native.Mathlib.Omega.{arith}
use borrow.Author.Tests.{ltb-false}
use lib.Dec.{lit<}
use lib.IntN.{ℤ, pos, ◌-ℤ◌}
use lib.Signed.{le_z}
use Rattle.numbers.proofs.Signed.{sub_sums, le_sums, sums_le, sfits_by}
use Rattle.numbers.proofs.Truth.{both_true, true_both}
use Rattle.base_types.specs.declared.channel.Channel.{Channel}
use Rattle.base_types.specs.declared.channel.Channel.TheVariants.{A, B}
use Rattle.settings.specs.declared.Settings.{Settings}
use Rattle.settings.specs.Sheet.{out_of_range, decoding_correction}
use Rattle.slot.specs.declared.status.Status.{Status}
use Rattle.base_types.specs.declared.microtick.Microtick.{Microtick}
use Rattle.base_types.specs.Microtick.{time_limit, above_time_limit, lowest_deviation, highest_deviation, is_deviation, held}
use Rattle.base_types.proofs.HeldLaws.{held_fits}
use Rattle.clock.specs.declared.state.Clock.{Clock}
use Rattle.clock.proofs.SoundLaws.{highest, at_most}
use Rattle.measuring.specs.Measuring.{delay_on, deviation_by, measurement_with, measurement_by}

delay_small : (channel : Channel) (s : Settings) → out_of_range s ≡ false → delay_on channel s ≤ highest 2
delay_small A s e = at_most s e 2 (lit< tt)
delay_small B s e = at_most s e 3 (lit< tt)

module _ (clock : Clock) (status : Status) (observed action_point : Microtick) (settings : out_of_range clock.settings ≡ false) (o : above_time_limit observed.0 ≡ false) (a : above_time_limit action_point.0 ≡ false) where
  pub deviation_ranged : is_deviation (deviation_by clock status observed action_point) ≡ true
  deviation_ranged =
      let c = decoding_correction clock.settings in
      let d = delay_on status.channel clock.settings in
      let hc = at_most clock.settings settings 1 (lit< tt) in
      let hd = delay_small status.channel clock.settings settings in
      let ho = ltb-false time_limit observed.0 o in
      let ha = ltb-false time_limit action_point.0 a in
      let x = pos observed.0 -ℤ pos c in
      let y = x -ℤ pos d in
      let p = sub_sums (pos observed.0) (pos c) in
      let q = sub_sums x (pos d) in
      let r = sub_sums y (pos action_point.0) in
      true_both (le_z lowest_deviation (y -ℤ pos action_point.0)) (le_z (y -ℤ pos action_point.0) highest_deviation)
      (sums_le lowest_deviation (y -ℤ pos action_point.0) (omega arith))
      (sums_le (y -ℤ pos action_point.0) highest_deviation (omega arith))

  deviation_held : held (deviation_by clock status observed action_point) ≡ deviation_by clock status observed action_point
  deviation_held =
      let z = deviation_by clock status observed action_point in
      let h = both_true (le_z lowest_deviation z) (le_z z highest_deviation) deviation_ranged in
      let low = le_sums lowest_deviation z h.0 in
      let high = le_sums z highest_deviation h.1 in
      held_fits z (sfits_by (omega arith) (omega arith))

  pub measurement_held : measurement_with held clock.settings status observed action_point ≡ measurement_by clock status observed action_point
  measurement_held = ap (λ (z : ℤ). measurement_with (λ (d : ℤ). z) clock.settings status observed action_point) deviation_held
