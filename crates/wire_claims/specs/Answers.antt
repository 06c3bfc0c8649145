-- Claims about the answers of `encode`, of any that its statement allows. The customer's first condition asks that it takes any numbers,
-- bytes and output and answers, or gives a refusal number in its order, and that a refusal changes nothing; 01 asks that a statement
-- determines the answer and all that is lent.
use Rattle.std.specs.Prelude.{ℕ, ◌<◌, ◌≡◌, List, length, Err}
use Rattle.refusal.specs.Refusal.{InOrder}
use Rattle.frame.specs.declared.ReadRefusal.{ReadRefusal}
use Rattle.frame.specs.Read.{ReadSays}
use Rattle.wire.specs.declared.EncodeRefusal.TheVariants.{NotAFrame}
use Rattle.wire.specs.Packing.{most_packed}
use Rattle.wire.specs.Encode.{Encoding, told, refusals, EncodeSays}

-- Any two results that the statement allows are equal.
abbrev pub EncodeOne : Type 0
EncodeOne =
    (channel : ℕ) (bytes : List ℕ) (start : ℕ) (before after after' : List ℕ) (r s : Encoding)
    → EncodeSays channel bytes start before after r → EncodeSays channel bytes start before after' s
    → (r ≡ s) × (after ≡ after')

-- The number is the first of the order whose condition holds.
abbrev pub EncodeInOrder : Type 0
EncodeInOrder =
    (channel : ℕ) (bytes : List ℕ) (start : ℕ) (before after : List ℕ) (r : Encoding)
    → EncodeSays channel bytes start before after r
    → InOrder (refusals channel bytes start before) (told r).refusal.number

-- A refusal comes with no bits and changes nothing.
abbrev pub EncodeRefused : Type 0
EncodeRefused =
    (channel : ℕ) (bytes : List ℕ) (start : ℕ) (before after : List ℕ) (r : Encoding)
    → EncodeSays channel bytes start before after r → ((told r).refusal.number ≡ 0 → ⊥)
    → ((told r).bits ≡ 0) × (after ≡ before)

-- Where reading refuses the bytes, its refusal is the one that comes back.
abbrev pub AsReadAnswers : ℕ → List ℕ → Encoding → Type 0
AsReadAnswers channel bytes r = (refusal : ReadRefusal) → ReadSays channel bytes (Err refusal) → r ≡ Err (NotAFrame refusal)

abbrev pub EncodeAsRead : Type 0
EncodeAsRead =
    (channel : ℕ) (bytes : List ℕ) (start : ℕ) (before after : List ℕ) (r : Encoding)
    → EncodeSays channel bytes start before after r → AsReadAnswers channel bytes r

-- Output of the size that the crate names is never too short.
abbrev pub RoomForAll : Type 0
RoomForAll =
    (channel : ℕ) (bytes : List ℕ) (start : ℕ) (before after : List ℕ) (r : Encoding)
    → EncodeSays channel bytes start before after r → (told r).refusal.number ≡ 25 → length before < most_packed

-- ---- what the witnesses show

-- `encode_number`: it is in order, and with any but 0 the output is as it was.
pub record NumberTold (channel : ℕ) (bytes : List ℕ) (start : ℕ) (before after : List ℕ) (n : ℕ) : Type 0 where
  pub order : InOrder (refusals channel bytes start before) n
  pub refused : (n ≡ 0 → ⊥) → after ≡ before
