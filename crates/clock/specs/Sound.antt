-- Which clock states are sound (01, "Refusal numbers": "A clock state is sound if").
use Rattle.std.specs.Prelude.{ℕ, Bool, true, not, ◌&&◌, Option, None, Some}
use Rattle.base_types.specs.declared.cycle.Cycle.{Cycle}
use Rattle.base_types.specs.Cycle.{cycle_too_high}
use Rattle.settings.specs.Sheet.{out_of_range, sync_id_limit, rate_limit}
use Rattle.base_types.specs.declared.microtick.SignedMicrotick.{SignedMicrotick}
use Rattle.correction.specs.Terms.{is_outside}
use Rattle.list_soundness.specs.Sound.{list_sound}
use Rattle.clock.specs.declared.state.Clock.{Clock}

-- "its cycles at most 63", of one that is there.
abbrev pub cycle_sound : Option Cycle → Bool
cycle_sound None = true
cycle_sound (Some cycle) = not (cycle_too_high cycle.0)

-- "the stored rate is within field 6".
abbrev pub rate_sound : SignedMicrotick → ℕ → Bool
rate_sound rate limit = not (is_outside limit rate.0)

-- "A clock state is sound if": the clauses of 01, in their order. The measurements of a list are told by its rows, and each carries the mark
-- of the state's settings (C-17).
abbrev pub sound : Clock → Bool
sound c =
    not (out_of_range c.settings)
    && (cycle_sound c.opened
    && (cycle_sound c.last_closed
    && (list_sound (sync_id_limit c.settings) c.settings.mark c.even
    && (list_sound (sync_id_limit c.settings) c.settings.mark c.odd && rate_sound c.rate (rate_limit c.settings)))))
