-- Loading settings: what it answers, and the clock state that comes back.
use Rattle.std.specs.Prelude.{ℕ, ◌≡◌, unwrap_or, List, [], ◌∷◌, Result, Ok, Err}
use Rattle.refusal.specs.Answer.{number_in}
use Rattle.refusal.specs.Refusal.{Line, ◌when◌, first, if_accepted}
use Rattle.refusal.specs.declared.Answered.{Answered}
use Rattle.settings.specs.declared.Settings.{Settings}
use Rattle.settings.specs.declared.SettingOutOfRange.{SettingOutOfRange}
use Rattle.settings.specs.Sheet.{refusal_number, first_out_of_range, out_of_range}
use Rattle.clock.specs.declared.state.Clock.{Clock}
use Rattle.clock.specs.State.{fresh, no_clock}

-- "Load: 17."
abbrev pub load_refusals : Settings → List Line
load_refusals settings = 17 when out_of_range settings ∷ []

-- An answer is that the settings are loaded, or why they are not.
abbrev pub Loading : Type 0
Loading = Result Unit SettingOutOfRange

-- The answer, and the clock state beside it.
abbrev pub Loaded : Type 0
Loaded = Answered Unit SettingOutOfRange Clock

-- What the answer says in 01's numbers: the refusal number, 0 for none, and the field number that 17 returns.
pub record Told : Type 0 where
  pub number : ℕ
  pub field : ℕ

abbrev pub field_in : Loading → ℕ
field_in (Ok done) = 0
field_in (Err refusal) = refusal.0

abbrev pub told : Loading → Told
told answer = record { number = number_in refusal_number answer; field = field_in answer }

-- The answer's number is the refusal, and the field the first out of range. The clock state is a fresh one, made of the settings
-- alone, or, with a refusal, all zeros.
pub record LoadSays (settings : Settings) (r : Loaded) : Type 0 where
  pub answers : told r.answer ≡ record { number = first (load_refusals settings); field = unwrap_or (first_out_of_range settings) 0 }
  pub leaves : r.state ≡ if_accepted (first (load_refusals settings)) (fresh settings) no_clock
