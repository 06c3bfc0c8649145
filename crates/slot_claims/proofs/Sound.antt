-- Soundness, clause by clause, and 01's sentence.
use mathlib.Core.Path.{◌≡◌, refl, sym, ap, ◌∙◌}
use mathlib.Core.Bool.{Bool, true, false≢true, not, ◌&&◌, ◌||◌}
use lib.Dec.{eqb}
use mathlib.Core.Logic.{◌⊎◌}
use borrow.Author.Tests.{eqb-true, eq-eqb}
use Rattle.std.proofs.Common.{arith}
use Rattle.std.specs.Prelude.{Option, Some, None, is_some, is_none, Ok}
use Rattle.refusal.specs.Refusal.{first}
use Rattle.refusal.proofs.FirstLaws.{first_zero}
use Rattle.base_types.specs.Channel.{number_of}
use Rattle.checksum.specs.declared.pair.ChecksumPair.{ChecksumPair}
use Rattle.checksum.specs.Pair as pair
use Rattle.checksum.specs.Pair.{no_checksums}
use Rattle.header.specs.declared.Header.{Header}
use Rattle.settings.specs.Sheet.{first_out_of_range, out_of_range}
use Rattle.slot.specs.declared.status.Status.{Status}
use Rattle.slot.specs.Judging.{place_of, place_by, fresh, first_miss, is_second_good_frame, has_arrival}
use Rattle.slot.specs.Opening.{opening_refusals, Told, told, Opened, OpenSays}
use Rattle.slot.specs.Sound.{could_be_read, keeps_well}
use Rattle.slot.proofs.SoundLaws.{Clauses, clauses, clauses_sound}
use Rattle.slot_claims.specs.Sound.{Readable, SoundStatus, SoundExactly}
use Rattle.slot_claims.specs.Content.{Passes}
use Rattle.slot_claims.proofs.ReasonLaws.{some_there, there_some, none_there, second_there, all_passed}
use Rattle.slot_claims.proofs.Content.{tests_exactly}
use Rattle.numbers.proofs.Truth.{same_true, both_true, true_both}
use Rattle.numbers.proofs.Walk.{cases}
use Rattle.slot_claims.proofs.Readable.{could_be_read_exactly}

-- ---- the rule is 01's sentence

three : (syntax content valid : Bool) → syntax || (content || valid) ≡ true → (syntax ≡ true) ⊎ ((content ≡ true) ⊎ (valid ≡ true))
three syntax content valid e = grind arith

one_of_three : (syntax content valid : Bool) → (syntax ≡ true) ⊎ ((content ≡ true) ⊎ (valid ≡ true)) → syntax || (content || valid) ≡ true
one_of_three syntax content valid e = grind arith

-- nothing is refused: opening answers so
opens_so : (s : Status) → first (opening_refusals s.settings (number_of s.channel) s.slot s.cycle) ≡ 0
    → (r : Opened) × OpenSays s.settings (number_of s.channel) s.slot s.cycle r × ((told r.answer).number ≡ 0)
opens_so s none =
    let z17 = first_zero 16 (out_of_range s.settings) _ none in
    let field : first_out_of_range s.settings ≡ None = none_there (first_out_of_range s.settings) z17.0 in (
      record { answer = Ok tt; state = fresh (place_by s.settings (number_of s.channel) s.slot s.cycle) },
      record { answers = rw (none, field); leaves = rw none },
      refl,
    )

-- a pair that is none is 0 for both
pub none_told : (x : ChecksumPair) → (not (pair.is_none x) ≡ true → ⊥) → x ≡ no_checksums
none_told x h =
    cases (pair.is_none x)
    (λ t.
    let both = both_true (eqb x.found 0) (eqb x.expected 0) t in
    let found = eqb-true x.found 0 both.0 in
    let expected = eqb-true x.expected 0 both.1 in
    λ i. record { found = found i; expected = expected i })
    (λ t. absurd (h (ap not t)))

module _ (s : Status) (c : Clauses s) where
  kept_read : (h : Header) → s.kept ≡ Some h → Readable s.channel h × Passes (place_of s) h
  kept_read h e =
      let p = both_true (could_be_read h) (is_none (first_miss (place_of s) h)) (sym (ap (keeps_well (place_of s)) e) ∙ c.keeps) in (
        (could_be_read_exactly s.channel h).0 p.0,
        (tests_exactly (place_of s) h None).0 (all_passed (first_miss (place_of s) h) p.1),
      )

  in_words : SoundStatus s
  in_words =
      record {
        opens = opens_so s (eqb-true (first (opening_refusals s.settings (number_of s.channel) s.slot s.cycle)) 0 c.opens);
        reason = (λ t. λ none. false≢true (sym (ap is_some none) ∙ sym c.content ∙ t), λ h. c.content ∙ there_some s.reason h);
        valid = (λ t. some_there s.kept (sym c.valid ∙ t), λ f. c.valid ∙ ap is_some f.1);
        kept = kept_read;
        second = λ e. c.second (ap is_second_good_frame e);
        checksums = λ clear. none_told s.checksums (λ t. false≢true (sym clear ∙ c.checksums t));
        conflict = (
          λ t.
              let p = both_true s.own_sending (has_arrival s) (sym c.conflict ∙ t) in
              (p.0, three s.syntax_error s.content_error s.valid p.1),
          λ p. c.conflict ∙ true_both s.own_sending (has_arrival s) p.0 (one_of_three s.syntax_error s.content_error s.valid p.1),
        );
      }

module _ (s : Status) (w : SoundStatus s) where
  keeps_well_lem : (k : Option Header) → s.kept ≡ k → keeps_well (place_of s) k ≡ true
  keeps_well_lem None e = refl
  keeps_well_lem (Some h) e =
      let good = w.kept h e in
      true_both (could_be_read h) (is_none (first_miss (place_of s) h)) ((could_be_read_exactly s.channel h).1 good.0)
      (ap is_none ((tests_exactly (place_of s) h None).1 good.1))

  from_words : Clauses s
  from_words =
      record {
        opens =
            eq-eqb (first (opening_refusals s.settings (number_of s.channel) s.slot s.cycle)) 0
            (sym (ap (λ (t : Told). t.number) w.opens.1.answers) ∙ w.opens.2);
        content =
            same_true s.content_error (is_some s.reason)
            (λ t. there_some s.reason (w.reason.0 t), λ t. w.reason.1 (λ none. false≢true (sym (ap is_some none) ∙ t)));
        valid =
            same_true s.valid (is_some s.kept)
            (λ t. ap is_some (w.valid.0 t).1, λ t. w.valid.1 (some_there s.kept t));
        keeps = keeps_well_lem s.kept refl;
        second = λ t. w.second (second_there s.reason t);
        checksums = λ t. cases s.syntax_error (λ e. e) (λ e. absurd (false≢true (sym (ap (λ (x : ChecksumPair). not (pair.is_none x)) (w.checksums e)) ∙ t)));
        conflict =
            same_true s.conflict (s.own_sending && has_arrival s) (
              λ t. true_both s.own_sending (has_arrival s) (w.conflict.0 t).0 (one_of_three s.syntax_error s.content_error s.valid (w.conflict.0 t).1),
              λ t.
                  let p = both_true s.own_sending (has_arrival s) t in
                  w.conflict.1 (p.0, three s.syntax_error s.content_error s.valid p.1),
            );
      }

pub sound_exactly : SoundExactly
sound_exactly s = (λ e. in_words s (clauses s e), λ w. clauses_sound s (from_words s w))
