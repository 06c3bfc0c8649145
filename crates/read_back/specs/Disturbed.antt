-- Disturbed samples: how many changed ones do no harm.
use Rattle.std.specs.Prelude.{ℕ, ◌+◌, ◌-◌, ◌≤◌, ◌≡◌, Bool, true, false, ◌&&◌, List, [], ◌∷◌, eqb, length}
use Rattle.division.specs.Division.{exor}
use Rattle.header.specs.Layout.{longest_frame}
use Rattle.base_types.specs.declared.channel.Channel.{Channel}
use Rattle.wire_reader.specs.Reader.{Event, fresh, run}
use Rattle.read_back.specs.Sending.{Sending, AllRight, samples_of_all, size_of, end_of, since_of, given}

-- Which samples are changed: `true` for each that is. Between two changed ones stand at least `apart` others. The next `free` are not changed.
unfoldable pub sparse : ℕ → ℕ → List Bool → Bool
sparse apart free [] = true
sparse apart free (false ∷ l) = sparse apart (free - 1) l
sparse apart free (true ∷ l) = eqb free 0 && sparse apart apart l

-- "no four consecutive ones hold two changed ones": three others stand between them.
abbrev pub far_enough : ℕ
far_enough = 3

abbrev pub harmless : List Bool → Type 0
harmless flips = sparse far_enough 0 flips ≡ true

-- Each frame is given once, at most one sample early or late, and its reference point likewise: 6 is the sample of a bit in which an undisturbed
-- one is strobed.
pub data GivenNearly : ℕ → List Sending → List Event → Type 0 where
  none : {i : ℕ} → GivenNearly i [] []
  one : {i : ℕ} {s : Sending} {l : List Sending} {events : List Event} (end reference : ℕ)
      → (5 ≤ end) × (end ≤ 7) → (5 ≤ reference) × (reference ≤ 7)
      → GivenNearly (i + size_of s) l events
      → GivenNearly i (s ∷ l) (given (i + end_of s + end - 6) (since_of s + end - reference) s ∷ events)

-- Changed samples with so many others between them do no harm, however many they are: not a frame is lost or damaged, and nothing else is
-- told.
abbrev pub UndisturbedBy : ℕ → Type 0
UndisturbedBy apart =
    (channel : Channel) (i : ℕ) (memory : List ℕ) (l : List Sending) (flips : List Bool) → longest_frame ≤ length memory → AllRight channel l
    → length flips ≡ length (samples_of_all l) → sparse apart 0 flips ≡ true
    → GivenNearly i l (run channel i (fresh memory) (exor flips (samples_of_all l))).events

abbrev pub Undisturbed : Type 0
Undisturbed = UndisturbedBy far_enough

-- One less is not enough.
abbrev pub NotByTwo : Type 0
NotByTwo = UndisturbedBy 2 → ⊥
