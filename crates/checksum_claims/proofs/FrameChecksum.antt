-- The claims about the entry `frame_checksum`, from its statement alone.
use Prim.Native.Nat.{ℕ}
use mathlib.Core.Path.{◌≡◌, refl, sym, ap, ◌∙◌}
use mathlib.Core.Bool.{Bool, true, false, not}
use mathlib.Core.List.{[], ◌∷◌}
use native.Mathlib.Omega.{arith}
use lib.Dec.{eqb}
use borrow.Author.Tests.{ne_eqb}
use Rattle.std.specs.Prelude.{Ok, Err}
use Rattle.std.specs.Result.{is_err}
use Rattle.refusal.specs.Refusal.{◌when◌, first, numbered}
use Rattle.refusal.proofs.FirstLaws.{told_in_order}
use Rattle.base_types.specs.declared.channel.Channel.TheVariants.{A, B}
use Rattle.base_types.specs.Channel.{not_a_channel, channel_of}
use Rattle.checksum.specs.Checksums.{frame_checksum}
use Rattle.checksum.specs.FrameChecksum.{Checksum, Told, told}
use Rattle.checksum_claims.specs.FrameChecksum.{OneAnswer, NumberInOrder, RefusedExactly, OnA, OnB, OnNeither}

-- answers that say the same in 01's numbers are one answer
told_inj : (r s : Checksum) → told r ≡ told s → r ≡ s
told_inj (Ok v) (Ok w) e = ap Ok (ap (λ (t : Told). t.value) e)
told_inj (Err x) (Err y) e = refl
told_inj (Ok v) (Err x) e = absurd (let z : ◌≡◌ {A = ℕ} 0 1 = ap (λ (t : Told). t.number) e in omega arith)
told_inj (Err x) (Ok v) e = absurd (let z : ◌≡◌ {A = ℕ} 1 0 = ap (λ (t : Told). t.number) e in omega arith)

pub one_answer : OneAnswer
one_answer channel bytes r s hr hs = told_inj r s (hr ∙ sym hs)

pub number_in_order : NumberInOrder
unfolding numbered
number_in_order channel bytes r h = told_in_order _ refl (ap (λ (t : Told). t.number) h)

pub refused_exactly : RefusedExactly
unfolding first
refused_exactly channel bytes r h = ap (λ (t : Told). not (eqb t.number 0)) h ∙ given (not_a_channel channel)
  where
    given : (z : Bool) → not (eqb (first (1 when z ∷ [])) 0) ≡ z
    given true = refl
    given false = refl

-- a refusal is what has a number other than 0
pub is_refused : (r : Checksum) → is_err r ≡ not (eqb (told r).number 0)
is_refused (Ok value) = refl
is_refused (Err refusal) = refl

pub on_a : OnA
unfolding first not_a_channel channel_of
on_a bytes r h = one_answer 0 bytes r (Ok (frame_checksum A bytes)) h refl

pub on_b : OnB
unfolding first not_a_channel channel_of
on_b bytes r h = one_answer 1 bytes r (Ok (frame_checksum B bytes)) h refl

pub on_neither : OnNeither
unfolding first not_a_channel channel_of
on_neither channel bytes r b h =
    one_answer channel bytes r (Err (record {})) h
    (simp (ne_eqb channel 0 (λ e. omega arith), ne_eqb channel 1 (λ e. omega arith)))
