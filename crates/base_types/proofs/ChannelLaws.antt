-- What an entry learns of a channel number from what it names.
use Prim.Native.Nat.{ℕ}
use Rattle.std.specs.Prelude.{Ok, Err}
use mathlib.Core.Path.{◌≡◌, refl, sym, ap, ◌∙◌}
use mathlib.Core.Bool.{Bool, true, false, cond}
use native.Mathlib.Omega.{arith}
use Rattle.base_types.specs.declared.channel.Channel.{Channel}
use Rattle.base_types.specs.declared.channel.Channel.TheVariants.{A, B}
use Rattle.base_types.specs.declared.channel.NotAChannel.{NotAChannel}
use Rattle.base_types.specs.Channel.{not_a_channel, channel_of, number_of, named_by}

abbrev pub not_named : NotAChannel
not_named = record {}

picked_is : (b : Bool) (d c : Channel) → cond b (Err not_named) (Ok d) ≡ Ok c → (b ≡ false) × (d ≡ c)
picked_is false d c e = (refl, cc)
picked_is true d c e = absurd (let z : ◌≡◌ {A = ℕ} 0 1 = cc in omega arith)

picked_not : (b : Bool) (d : Channel) → cond b (Err not_named) (Ok d) ≡ Err not_named → b ≡ true
picked_not true d e = refl
picked_not false d e = absurd (let z : ◌≡◌ {A = ℕ} 0 1 = cc in omega arith)

pub named_is : (number : ℕ) (channel : Channel) → named_by number ≡ Ok channel
    → (not_a_channel number ≡ false) × (channel_of number ≡ channel)
unfolding named_by
named_is number channel e = picked_is (not_a_channel number) (channel_of number) channel e

pub named_not : (number : ℕ) → named_by number ≡ Err not_named → not_a_channel number ≡ true
unfolding named_by
named_not number e = picked_not (not_a_channel number) (channel_of number) e

pub is_named : (number : ℕ) → not_a_channel number ≡ false → named_by number ≡ Ok (channel_of number)
unfolding named_by
is_named number e = ap (λ (b : Bool). cond b (Err not_named) (Ok (channel_of number))) e

-- a channel's number names it
pub number_names : (channel : Channel) → named_by (number_of channel) ≡ Ok channel
unfolding named_by not_a_channel channel_of
number_names A = refl
number_names B = refl

pub is_a_channel : (channel : Channel) → not_a_channel (number_of channel) ≡ false
is_a_channel channel = (named_is (number_of channel) channel (number_names channel)).0

-- of one number there is one channel
pub one_channel : (number : ℕ) (a b : Channel) → named_by number ≡ Ok a → named_by number ≡ Ok b → a ≡ b
one_channel number a b ea eb = sym (named_is number a ea).1 ∙ (named_is number b eb).1
