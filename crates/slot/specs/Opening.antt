-- Opening a slot: what it refuses, what it answers, and the status that comes back.
use Rattle.std.specs.Prelude.{ℕ, ◌≡◌, List, [], ◌∷◌, Result, Ok, Err, unwrap_or}
use Rattle.std.specs.Result.{result_unwrap_or}
use Rattle.refusal.specs.Answer.{number_in}
use Rattle.refusal.specs.Refusal.{Line, ◌when◌, first, if_accepted}
use Rattle.refusal.specs.declared.Answered.{Answered}
use Rattle.base_types.specs.Channel.{not_a_channel}
use Rattle.base_types.specs.declared.id.Slot.{Slot}
use Rattle.base_types.specs.declared.cycle.Cycle.{Cycle}
use Rattle.base_types.specs.Slot.{not_an_id}
use Rattle.base_types.specs.Cycle.{cycle_too_high}
use Rattle.settings.specs.declared.Settings.{Settings}
use Rattle.settings.specs.Sheet.{first_out_of_range, out_of_range}
use Rattle.slot.specs.declared.opening.OpenRefusal.{OpenRefusal}
use Rattle.slot.specs.declared.opening.OpenRefusal.TheVariants.{SettingOutOfRange, NotAChannel, NotASlot, CycleTooHigh}
use Rattle.slot.specs.declared.status.Status.{Status}
use Rattle.slot.specs.Judging.{place_by, fresh, no_status}

-- "Open slot: 17, 1, 9, 11."
abbrev pub opening_refusals : Settings → ℕ → Slot → Cycle → List Line
opening_refusals settings channel slot cycle =
    17 when out_of_range settings
    ∷ 1 when not_a_channel channel
    ∷ 9 when not_an_id slot.0
    ∷ 11 when cycle_too_high cycle.0
    ∷ []

-- The number of each refusal, and the field number that 17 returns, 0 with any other.
abbrev pub number_of : OpenRefusal → ℕ
number_of (SettingOutOfRange field) = 17
number_of NotAChannel = 1
number_of NotASlot = 9
number_of CycleTooHigh = 11

abbrev pub field_of : OpenRefusal → ℕ
field_of (SettingOutOfRange field) = field
field_of NotAChannel = 0
field_of NotASlot = 0
field_of CycleTooHigh = 0

-- What an answer says in 01's numbers: the refusal number, 0 for none, and the field number.
pub record Told : Type 0 where
  pub number : ℕ
  pub field : ℕ

module _ {T : Type 0} where
  abbrev pub field_in : Result T OpenRefusal → ℕ
  field_in (Ok value) = 0
  field_in (Err refusal) = field_of refusal

  abbrev pub told : Result T OpenRefusal → Told
  told answer = record { number = number_in number_of answer; field = field_in answer }

abbrev pub Opened : Type 0
Opened = Answered Unit OpenRefusal Status

-- What is right to tell: the refusal, and the first field out of range. There is one exactly where 17, the first of the order, is given.
abbrev pub tells : Settings → ℕ → Slot → Cycle → Told
tells settings channel slot cycle =
    record { number = first (opening_refusals settings channel slot cycle); field = unwrap_or (first_out_of_range settings) 0 }

-- The status that belongs there: a fresh one, or, with a refusal, all zeros.
abbrev pub opened : Settings → ℕ → Slot → Cycle → Status
opened settings channel slot cycle =
    if_accepted (first (opening_refusals settings channel slot cycle)) (fresh (place_by settings channel slot cycle)) no_status

pub record OpenSays (settings : Settings) (channel : ℕ) (slot : Slot) (cycle : Cycle) (r : Opened) : Type 0 where
  pub answers : told r.answer ≡ tells settings channel slot cycle
  pub leaves : r.state ≡ opened settings channel slot cycle

-- The same, of a status or a refusal.
pub record OpensTo (settings : Settings) (channel : ℕ) (slot : Slot) (cycle : Cycle) (r : Result Status OpenRefusal) : Type 0 where
  pub answers : told r ≡ tells settings channel slot cycle
  pub leaves : result_unwrap_or r no_status ≡ opened settings channel slot cycle
