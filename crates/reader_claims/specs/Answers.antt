-- Claims about the answers of opening a reader and of listening, of any that their statements allow. The customer's first condition asks
-- that each takes any number, state, samples and memory and answers, or gives a refusal number in its order, and that a refusal changes
-- nothing; 01 asks that a statement determines the answer, the state and all that is lent.
use Rattle.std.specs.Prelude.{ℕ, ◌≡◌, Bool, true, List, map}
use Rattle.refusal.specs.Refusal.{InOrder}
use Rattle.wire_reader.specs.declared.reader.Reader.{Reader}
use Rattle.wire_reader.specs.declared.listening.Listened.{Listened}
use Rattle.wire_reader.specs.Opening as opening
use Rattle.wire_reader.specs.Listening.{is_high, told, listen_refusals, ListenSays}

-- Any two results that the statement allows are equal.
abbrev pub OpenOne : Type 0
OpenOne = (channel : ℕ) (r s : opening.Opened) → opening.OpenSays channel r → opening.OpenSays channel s → r ≡ s

abbrev pub ListenOne : Type 0
ListenOne =
    (reader : Reader) (samples before after after' : List ℕ) (r s : Listened)
    → ListenSays reader samples before after r → ListenSays reader samples before after' s
    → (r ≡ s) × (after ≡ after')

-- The number is the first of the order whose condition holds.
abbrev pub OpenInOrder : Type 0
OpenInOrder = (channel : ℕ) (r : opening.Opened) → opening.OpenSays channel r → InOrder (opening.opening_refusals channel) (opening.told r.answer)

abbrev pub ListenInOrder : Type 0
ListenInOrder =
    (reader : Reader) (samples before after : List ℕ) (r : Listened)
    → ListenSays reader samples before after r → InOrder (listen_refusals reader before) (told r.answer).refusal

-- With a refusal no sample is taken, and nothing is changed.
abbrev pub ListenRefused : Type 0
ListenRefused =
    (reader : Reader) (samples before after : List ℕ) (r : Listened)
    → ListenSays reader samples before after r → ((told r.answer).refusal ≡ 0 → ⊥)
    → (r.taken ≡ 0) × (r.reader ≡ reader) × (after ≡ before)

-- High samples may be any byte but 0: what is heard depends on the levels alone.
abbrev pub LevelsAlone : Type 0
LevelsAlone =
    (reader : Reader) (samples others before after : List ℕ) (r : Listened)
    → map is_high samples ≡ map is_high others → ListenSays reader samples before after r → ListenSays reader others before after r

-- ---- what the witnesses show

-- `listen_number`: it is in order, and with any but 0 the memory is as it was.
pub record NumberTold (reader : Reader) (before after : List ℕ) (n : ℕ) : Type 0 where
  pub order : InOrder (listen_refusals reader before) n
  pub refused : (n ≡ 0 → ⊥) → after ≡ before

-- `heard_alike`: of samples whose levels are the same, with the same memory.
abbrev pub Alike : List ℕ → List ℕ → List ℕ → List ℕ → List ℕ → List ℕ → Bool → Type 0
Alike samples before after others other_before other_after r =
    map is_high samples ≡ map is_high others → before ≡ other_before → (r ≡ true) × (after ≡ other_after)
