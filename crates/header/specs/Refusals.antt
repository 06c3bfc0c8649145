-- A condition on fields that reading and writing both refuse by (01, "Refusal numbers": "given exactly when").
use Rattle.std.specs.Prelude.{Bool, not, ◌&&◌}

-- 7: "startup set, sync clear".
abbrev pub startup_without_sync : Bool → Bool → Bool
startup_without_sync startup sync = startup && not sync
