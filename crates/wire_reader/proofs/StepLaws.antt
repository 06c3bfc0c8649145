-- A sample: the rule's step, by whether a bit is strobed in it.
use mathlib.Core.Path.{◌≡◌, refl}
use mathlib.Core.Bool.{Bool, true, false, cond}
use Rattle.base_types.specs.declared.channel.Channel.{Channel}
use Rattle.bit_clock.specs.Clock.{vote, strobes, after}
use Rattle.wire_reader.specs.Decoder.{decoded, is_data, counted}
use Rattle.wire_reader.specs.Reader.{State, is_idle, kept, strobed, ticked, step}

module _ (channel : Channel) (s : State) (x v : Bool) (e : v ≡ vote s.clock x) where
  pub kept_step : strobes s.clock v ≡ false
      → kept (after s.clock (is_data s.place.phase) x v) (ticked s.clock s.timer) s.place ≡ step channel s x
  unfolding step
  kept_step none = rw (← e, none) refl

  pub strobed_step : strobes s.clock v ≡ true
      → strobed (after s.clock (is_data s.place.phase) x v) (cond v (ticked s.clock s.timer) 0)
      (decoded s.place.phase v channel (is_idle (ticked s.clock s.timer)) s.place.count (counted s.place.phase s.place.since) s.place.memory)
      ≡ step channel s x
  unfolding step
  strobed_step fired = rw (← e, fired) refl
