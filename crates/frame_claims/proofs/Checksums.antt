-- The two checksums that a refusal tells, from reading's statement.
use Prim.Native.Nat.{ℕ, suc}
use mathlib.Core.Path.{◌≡◌, refl, sym, ap, ◌∙◌, subst}
use mathlib.Core.Bool.{Bool, true, false, ◌&&◌, ◌||◌, cond, or-false}
use mathlib.Core.List.{List, [], ◌∷◌}
use mathlib.Core.Logic.{inl, inr}
use native.Mathlib.Omega.{arith}
use lib.Dec.{eqb}
use borrow.Author.Tests.{eqb-false, eq-eqb, ne_eqb, not-true}
use Rattle.numbers.proofs.Truth.{true_both, true_left, true_right}
use Rattle.numbers.proofs.Walk.{cases, came}
use Rattle.refusal.specs.Refusal.{Line, ◌when◌, first}
use Rattle.refusal.proofs.FirstLaws.{first_here, first_skip}
use Rattle.base_types.specs.declared.channel.Channel.{Channel}
use Rattle.base_types.specs.Channel.{not_a_channel, channel_of}
use Rattle.checksum.specs.declared.pair.ChecksumPair.{ChecksumPair}
use Rattle.checksum.specs.Pair.{no_checksums, differ}
use Rattle.header.specs.Layout.{header_checksums}
use Rattle.frame.specs.Refusals.{frame_checksums}
use Rattle.frame.specs.Read as read
use Rattle.frame.specs.Read.{header_read, trailer_read, checksums_beside, refusals_on}
use Rattle.frame_claims.specs.Answers.{OfAChecksum, ToldWith, ChecksumsTold}

-- ---- a number of the order tells that its condition holds

-- Some line with this number holds.
abbrev some_holds : ℕ → List Line → Bool
some_holds n [] = false
some_holds n (m when c ∷ l) = eqb m n && c || some_holds n l

refused_holds : (l : List Line) (n : ℕ) → first l ≡ suc n → some_holds (suc n) l ≡ true
unfolding first
refused_holds [] n e = absurd (omega arith)
refused_holds (m when true ∷ l) n e = true_left (eqb m (suc n) && true) _ (true_both (eqb m (suc n)) true (eq-eqb m (suc n) e) refl)
refused_holds (m when false ∷ l) n e = true_right (eqb m (suc n) && false) _ (refused_holds l n e)

-- ---- what is told beside it

pub differing_pair : (x : ChecksumPair) → differ x ≡ true → x.found ≡ x.expected → ⊥
differing_pair x d = eqb-false x.found x.expected (not-true (eqb x.found x.expected) d)

-- a number that is neither 4 nor 8 tells none
silent : (n : ℕ) (channel : Channel) (bytes : List ℕ) → (OfAChecksum n → ⊥) → checksums_beside n channel bytes ≡ no_checksums
silent n channel bytes not-these =
    let header = header_checksums (header_read bytes) in
    let frame = frame_checksums channel bytes (trailer_read bytes) in
    ap (λ (b : Bool). cond b header (cond (eqb n 8) frame no_checksums)) (ne_eqb n 4 (λ e. not-these (inl e)))
    ∙ ap (λ (b : Bool). cond b frame no_checksums) (ne_eqb n 8 (λ e. not-these (inr e)))

abbrev Right : Channel → List ℕ → ℕ → Type 0
Right channel bytes n = ToldWith n (checksums_beside n channel bytes)

-- of reading on a channel
module _ (channel : Channel) (bytes : List ℕ) where
  abbrev told : ℕ → ChecksumPair
  told n = checksums_beside n channel bytes

  abbrev n : ℕ
  n = first (refusals_on channel bytes)

  at_4 : n ≡ 4 → differ (told n) ≡ true
  at_4 e = ap (λ (k : ℕ). differ (told k)) e ∙ sym (or-false (differ (told 4))) ∙ refused_holds (refusals_on channel bytes) 3 e

  at_8 : n ≡ 8 → differ (told n) ≡ true
  at_8 e = ap (λ (k : ℕ). differ (told k)) e ∙ sym (or-false (differ (told 8))) ∙ refused_holds (refusals_on channel bytes) 7 e

  pub right_on : Right channel bytes n
  right_on = record { differing = λ of. differing_pair (told n) (came of at_4 at_8); none = silent n channel bytes }

pub checksums_told : ChecksumsTold
checksums_told channel bytes r says =
    subst (λ (x : read.Told). ToldWith x.number x.checksums) (sym says)
    (cases (not_a_channel channel)
    (λ t. subst right (sym (first_here 1 _ t)) (record { differing = λ of. absurd (not-1 of); none = silent 1 (channel_of channel) bytes }))
    (λ t. subst right (sym (first_skip 1 _ t)) (right_on (channel_of channel) bytes)))
  where
    right : ℕ → Type 0
    right = Right (channel_of channel) bytes

    not-1 : OfAChecksum 1 → ⊥
    not-1 (inl e) = omega arith
    not-1 (inr e) = omega arith
