-- The measurements of a cycle, as a list.
use Rattle.std.specs.Prelude.{ℕ, Bool, true, false, cond, List, [], ◌∷◌, ◌++◌, map, eqb, None, Some}
use Rattle.base_types.specs.declared.channel.Channel.{Channel}
use Rattle.base_types.specs.declared.channel.Channel.TheVariants.{A, B}
use Rattle.sync_list.specs.declared.row.Measurement.{Measurement}
use Rattle.sync_list.specs.declared.row.Row.{Row}
use Rattle.sync_list.specs.Rows.{Measured}
use Rattle.sync_list.specs.Lists.{id_of}

-- A measurement as 01 lists it: the ID and the channel of a frame, and what was measured of it.
pub record Taken : Type 0 where
  pub id : ℕ
  pub channel : Channel
  pub measurement : Measurement

-- ---- the measurements that rows stand for

-- What a row has of its ID on one channel, as a list of one measurement or none.
abbrev pub taken : ℕ → Channel → Measured → List Taken
taken id channel None = []
taken id channel (Some m) = record { id = id; channel = channel; measurement = m } ∷ []

unfoldable pub stands_for : List Row → List Taken
stands_for [] = []
stands_for (row ∷ rows) = taken (id_of row) A row.on_a ++ (taken (id_of row) B row.on_b ++ stands_for rows)

-- ---- different IDs

unfoldable pub without : ℕ → List ℕ → List ℕ
without x [] = []
without x (y ∷ ys) = cond (eqb y x) (without x ys) (y ∷ without x ys)

-- Each number once, where it stands first.
unfoldable pub different : List ℕ → List ℕ
different [] = []
different (x ∷ xs) = x ∷ without x (different xs)

abbrev pub different_ids : List Taken → List ℕ
different_ids ms = different (map (λ (m : Taken). m.id) ms)

-- ---- channels

abbrev pub same_channel : Channel → Channel → Bool
same_channel A A = true
same_channel A B = false
same_channel B A = false
same_channel B B = true
