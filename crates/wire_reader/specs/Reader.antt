-- The reader: a sample after the other (document 02, C-13).
use Rattle.std.specs.Prelude.{ℕ, suc, min, Bool, cond, List, [], ◌∷◌, eqb, take}
use Rattle.base_types.specs.declared.channel.Channel.{Channel}
use Rattle.base_types.specs.declared.channel.Channel.TheVariants.{A}
use Rattle.bit_clock.specs.declared.BitClock.{BitClock}
use Rattle.bit_clock.specs.Clock.{vote, votes, strobes, after, fresh_clock, no_clock}
use Rattle.wire_reader.specs.declared.reader.Reader.{Reader}
use Rattle.wire_reader.specs.declared.phase.Phase.TheVariants.{Waiting}
use Rattle.wire_reader.specs.Decoder.{Told, nothing, frame, wrong, Place, Decoded, without, decoded, is_data, counted}

-- What is known between two samples.
pub record State : Type 0 where
  pub clock : BitClock
  pub timer : ℕ
  pub place : Place

-- Before the first sample.
abbrev pub fresh : List ℕ → State
fresh memory = record { clock = fresh_clock; timer = 0; place = without Waiting memory }

-- ---- idle

-- "11 idle high bits", eight samples each.
abbrev pub idle_samples : ℕ
idle_samples = 88

-- One sample more since the last low bit.
abbrev pub tick : ℕ → ℕ
tick timer = min idle_samples (suc timer)

abbrev pub is_idle : ℕ → Bool
is_idle timer = eqb timer idle_samples

-- ---- one sample

-- What comes of a sample: the state after it, and what it tells.
pub record Step : Type 0 where
  pub state : State
  pub told : Told

-- Without a strobe, and with one.
abbrev pub kept : BitClock → ℕ → Place → Step
kept clock timer p =
    record {
      state =
          record {
            clock = clock;
            timer = timer;
            place = record { phase = p.phase; count = p.count; since = counted p.phase p.since; memory = p.memory };
          };
      told = nothing;
    }

abbrev pub strobed : BitClock → ℕ → Decoded → Step
strobed clock timer d = record { state = record { clock = clock; timer = timer; place = d.place }; told = d.told }

-- The timer, this sample counted.
abbrev pub ticked : BitClock → ℕ → ℕ
ticked clock timer = cond (votes clock) (tick timer) timer

unfoldable pub step : Channel → State → Bool → Step
step channel s x =
    let p = s.place in
    let v = vote s.clock x in
    let clock = after s.clock (is_data p.phase) x v in
    let timer = ticked s.clock s.timer in
    cond (strobes s.clock v)
    (strobed clock (cond v timer 0) (decoded p.phase v channel (is_idle timer) p.count (counted p.phase p.since) p.memory))
    (kept clock timer p)

-- ---- many samples

-- What a host sees of a sample that tells something: the sample's number, what it tells, and the frame's bytes, which are the first of the
-- memory.
pub record Event : Type 0 where
  pub sample : ℕ
  pub told : Told
  pub bytes : List ℕ

-- All events of many samples, and the state after them.
pub record Run (S : Type 0) : Type 0 where
  pub state : S
  pub events : List Event

module _ {S : Type 0} where
  abbrev pub noted : ℕ → Told → List ℕ → Run S → Run S
  noted i nothing memory r = r
  noted i (frame header size since) memory r =
      record { state = r.state; events = record { sample = i; told = frame header size since; bytes = take size memory } ∷ r.events }
  noted i (wrong told) memory r =
      record { state = r.state; events = record { sample = i; told = wrong told; bytes = [] } ∷ r.events }

-- From sample number i on.
unfoldable pub run : Channel → ℕ → State → List Bool → Run State
run channel i s [] = record { state = s; events = [] }
run channel i s (x ∷ l) =
    noted i (step channel s x).told (step channel s x).state.place.memory (run channel (suc i) (step channel s x).state l)

-- Up to the first sample that tells something, which is the last one taken: how many were taken, the state, and what it told.
pub record Piece : Type 0 where
  pub taken : ℕ
  pub state : State
  pub told : Told

-- After a sample: it told something, so it is the last one; or the others come.
abbrev pub or_else : Told → State → Piece → Piece
or_else nothing s p = record { taken = suc p.taken; state = p.state; told = p.told }
or_else (frame header size since) s p = record { taken = 1; state = s; told = frame header size since }
or_else (wrong told) s p = record { taken = 1; state = s; told = wrong told }

unfoldable pub piece : Channel → State → List Bool → Piece
piece channel s [] = record { taken = 0; state = s; told = nothing }
piece channel s (x ∷ l) = or_else (step channel s x).told (step channel s x).state (piece channel (step channel s x).state l)

-- ---- readers

-- A reader is all of a state but the memory, which is lent, and the channel.
abbrev pub state_of : Reader → List ℕ → State
state_of r memory =
    record {
      clock = r.clock;
      timer = r.timer;
      place = record { phase = r.phase; count = r.count; since = r.since; memory = memory };
    }

abbrev pub reader_of : Channel → State → Reader
reader_of channel s =
    let p = s.place in
    record { channel = channel; clock = s.clock; timer = s.timer; phase = p.phase; count = p.count; since = p.since }

abbrev pub fresh_reader : Channel → Reader
fresh_reader channel = reader_of channel (fresh [])

-- All zeros: what stands beside a refusal. It is not sound.
abbrev pub no_reader : Reader
no_reader = record { channel = A; clock = no_clock; timer = 0; phase = Waiting; count = 0; since = 0 }
