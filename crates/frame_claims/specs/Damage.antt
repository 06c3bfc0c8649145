-- Claims about damaged frames. The customer's third condition: two different byte strings of equal length accepted on one channel differ
-- in an even number of bits, never all within 24 consecutive bits, and no byte string is accepted on both channels. All of it is about
-- the layout rule, so that no reader, and none that refuses everything, could meet it by its own behaviour. Places are those of the
-- bits in sending order, header and both checksums included.
use Rattle.std.specs.Prelude.{ℕ, ◌+◌, ◌%◌, ◌≤◌, ◌≡◌, Bool, true, List, ◌↔◌, length}
use Rattle.division.specs.Bits.{bytes_bits}
use Rattle.division.specs.Differing.{differing, first_differing, last_differing, DifferWithin}
use Rattle.base_types.specs.declared.channel.Channel.{Channel}
use Rattle.base_types.specs.declared.channel.Channel.TheVariants.{A, B}
use Rattle.header.specs.declared.Header.{Header}
use Rattle.frame.specs.Layout.{Frame}
use Rattle.frame_claims.specs.Exact.{IsFrame}

-- How two different byte strings of equal length must differ if both are frames on one channel.
pub record Apart (x y : List ℕ) : Type 0 where
  -- "an even number of bits".
  pub even : differing (bytes_bits x) (bytes_bits y) % 2 ≡ 0
  -- "never all within 24 consecutive bits": whichever place is the first of the 24.
  pub window : (place : ℕ) → DifferWithin (bytes_bits x) (bytes_bits y) place 24 → ⊥
  -- The same by the first and the last differing place.
  pub burst : first_differing (bytes_bits x) (bytes_bits y) + 24 ≤ last_differing (bytes_bits x) (bytes_bits y)
  -- More than asked: at least four bits differ.
  pub four : 4 ≤ differing (bytes_bits x) (bytes_bits y)

abbrev pub FramesApart : Type 0
FramesApart =
    (channel : Channel) (x y : List ℕ) (hx hy : Header) (px py : List ℕ)
    → Frame channel x hx px → Frame channel y hy py
    → length x ≡ length y → (x ≡ y → ⊥) → Apart x y

-- "no byte string is accepted on both channels".
abbrev pub NotOnBoth : Type 0
NotOnBoth =
    (bytes : List ℕ) (h_a h_b : Header) (p_a p_b : List ℕ) → Frame A bytes h_a p_a → Frame B bytes h_b p_b → ⊥

-- ---- what the witness shows

-- `both_accepted`: the answer is yes exactly when both strings are frames on the channel, and then, if they are of equal length and
-- different, they differ as said.
pub record BothAccepted (channel : ℕ) (x y : List ℕ) (r : Bool) : Type 0 where
  pub accepted : (r ≡ true) ↔ (IsFrame channel x × IsFrame channel y)
  pub apart : r ≡ true → length x ≡ length y → (x ≡ y → ⊥) → Apart x y
