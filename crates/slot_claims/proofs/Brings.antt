-- What one event brings, in the words of a history.
use Prim.Native.Nat.{ℕ}
use mathlib.Core.Path.{◌≡◌, refl, sym, ap, ◌∙◌, subst}
use mathlib.Core.Bool.{true, false, false≢true}
use mathlib.Core.List.{List}
use mathlib.Core.Logic.{◌⊎◌, inl, inr, ◌↔◌}
use borrow.Author.Tests.{eqb-true, not-false}
use Rattle.numbers.proofs.Walk.{cases, came}
use Rattle.std.specs.Prelude.{Option, Some, None, is_some, Ok}
use Rattle.std.proofs.Common.{arith}
use Rattle.refusal.specs.Refusal.{first}
use Rattle.checksum.specs.declared.pair.ChecksumPair.{ChecksumPair}
use Rattle.header.specs.declared.Header.{Header}
use Rattle.frame.specs.Read as read
use Rattle.frame.specs.Read.{header_read, refusals_on, ReadOnSays}
use Rattle.slot.specs.declared.status.Miss.{Miss}
use Rattle.slot.specs.declared.status.Reason.TheVariants.{Missed}
use Rattle.slot.specs.Judging.{Place, first_miss}
use Rattle.slot_events.specs.Effect.{Event, Brought, arrival, boundary_activity, own_sending, kept_by, reason_by, is_refused, brings}
use Rattle.slot_events.proofs.EventLaws.{brings_refused, brings_frame}
use Rattle.slot_claims.specs.Histories.{Arrives, ArrivesRefused, ArrivesTelling, ArrivesMissing, ArrivesPassing}
use Rattle.slot_claims.proofs.ReasonLaws.{missed_first, kept_frame}
use Rattle.slot_claims.proofs.Content.{tests_exactly}

-- ---- arrived bytes

-- reading refuses, or it accepts with some header
abbrev EitherWay : Place → List ℕ → Type 0
EitherWay p bytes = (is_refused p.channel bytes ≡ true) ⊎ ((h : Header) × ReadOnSays p.channel bytes (Ok h))

module _ (p : Place) (bytes : List ℕ) where
  -- the answer of reading where nothing is refused
  accepts : is_refused p.channel bytes ≡ false → ReadOnSays p.channel bytes (Ok (header_read bytes))
  accepts e = sym (ap (λ (n : ℕ). read.tells n p.channel bytes) (eqb-true (first (refusals_on p.channel bytes)) 0 (not-false _ e)))

  either_way : EitherWay p bytes
  either_way = cases (is_refused p.channel bytes) inl (λ t. inr (header_read bytes, accepts t))

-- ---- each kind of event

-- arrived bytes are an arrival and nothing else
abbrev OnlyArrival : Brought → Type 0
OnlyArrival b = (b.arrived ≡ true) × (b.at_boundary ≡ false) × (b.sent ≡ false)

only_arrival : (p : Place) (bytes : List ℕ) → OnlyArrival (brings p (arrival bytes))
only_arrival p bytes = grind arith

pub arrives_exactly : (p : Place) (e : Event) → ((brings p e).arrived ≡ true) ↔ Arrives e
arrives_exactly p e = (there e, λ a. ap (λ (x : Event). (brings p x).arrived) a.1 ∙ (only_arrival p a.0).0)
  where
    there : (e : Event) → (brings p e).arrived ≡ true → Arrives e
    there (arrival bytes) t = (bytes, refl)
    there boundary_activity t = absurd (false≢true t)
    there own_sending t = absurd (false≢true t)

pub refused_exactly : (p : Place) (e : Event) → ((brings p e).refused ≡ true) ↔ ArrivesRefused p e
refused_exactly p e = (there e, back)
  where
    there : (e : Event) → (brings p e).refused ≡ true → ArrivesRefused p e
    there boundary_activity t = absurd (false≢true t)
    there own_sending t = absurd (false≢true t)
    there (arrival bytes) t = (bytes, refl, λ h says. false≢true (sym (ap (λ (b : Brought). b.refused) (brings_frame p bytes h says)) ∙ t))

    back : ArrivesRefused p e → (brings p e).refused ≡ true
    back f =
        ap (λ (x : Event). (brings p x).refused) f.1
        ∙ came (either_way p f.0) (λ out. ap (λ (b : Brought). b.refused) (brings_refused p f.0 out)) (λ a. absurd (f.2 a.0 a.1))

-- of a refused arrival it brings the two checksums that reading tells, and of no other event any
pub checksums_exactly : (p : Place) (told : ChecksumPair) (e : Event)
    → (((brings p e).refused ≡ true) × ((brings p e).checksums ≡ told)) ↔ (ArrivesRefused p e × ArrivesTelling p told e)
checksums_exactly p told e = (there e, back)
  where
    brought : (bytes : List ℕ) → (brings p (arrival bytes)).refused ≡ true → (brings p (arrival bytes)).checksums ≡ (read.rule_on p.channel bytes).checksums
    brought bytes t =
        came (either_way p bytes) (λ out. ap (λ (b : Brought). b.checksums) (brings_refused p bytes out))
        (λ a. absurd (false≢true (sym (ap (λ (b : Brought). b.refused) (brings_frame p bytes a.0 a.1)) ∙ t)))

    there : (e : Event) → ((brings p e).refused ≡ true) × ((brings p e).checksums ≡ told) → ArrivesRefused p e × ArrivesTelling p told e
    there boundary_activity t = absurd (false≢true t.0)
    there own_sending t = absurd (false≢true t.0)
    there (arrival bytes) t = ((refused_exactly p (arrival bytes)).0 t.0, (bytes, refl, sym (brought bytes t.0) ∙ t.1))

    back : ArrivesRefused p e × ArrivesTelling p told e → ((brings p e).refused ≡ true) × ((brings p e).checksums ≡ told)
    back f =
        let t = (refused_exactly p e).1 f.0 in
        let a = f.1 in
        (t, ap (λ (x : Event). (brings p x).checksums) a.1 ∙ brought a.0 (sym (ap (λ (x : Event). (brings p x).refused) a.1) ∙ t) ∙ a.2)

pub misses_exactly : (p : Place) (miss : Miss) (e : Event) → ((brings p e).reason ≡ Some (Missed miss)) ↔ ArrivesMissing p miss e
misses_exactly p miss e = (there e, back)
  where
    there : (e : Event) → (brings p e).reason ≡ Some (Missed miss) → ArrivesMissing p miss e
    there boundary_activity t = absurd (false≢true (ap is_some t))
    there own_sending t = absurd (false≢true (ap is_some t))
    there (arrival bytes) t =
        came (either_way p bytes)
        (λ out. absurd (false≢true (ap is_some (sym (ap (λ (b : Brought). b.reason) (brings_refused p bytes out)) ∙ t))))
        (λ a.
        let first = missed_first (first_miss p a.0) miss (sym (ap (λ (b : Brought). b.reason) (brings_frame p bytes a.0 a.1)) ∙ t) in
        (bytes, refl, a.0, a.1, (tests_exactly p a.0 (Some miss)).0 first))

    back : ArrivesMissing p miss e → (brings p e).reason ≡ Some (Missed miss)
    back m =
        ap (λ (x : Event). (brings p x).reason) m.1 ∙ ap (λ (b : Brought). b.reason) (brings_frame p m.0 m.2 m.3)
        ∙ ap reason_by ((tests_exactly p m.2 (Some miss)).1 m.4)

pub passes_exactly : (p : Place) (h : Header) (e : Event) → ((brings p e).kept ≡ Some h) ↔ ArrivesPassing p h e
passes_exactly p h e = (there e, back)
  where
    there : (e : Event) → (brings p e).kept ≡ Some h → ArrivesPassing p h e
    there boundary_activity t = absurd (false≢true (ap is_some t))
    there own_sending t = absurd (false≢true (ap is_some t))
    there (arrival bytes) t =
        came (either_way p bytes)
        (λ out. absurd (false≢true (ap is_some (sym (ap (λ (b : Brought). b.kept) (brings_refused p bytes out)) ∙ t))))
        (λ a.
        let k = kept_frame (first_miss p a.0) a.0 h (sym (ap (λ (b : Brought). b.kept) (brings_frame p bytes a.0 a.1)) ∙ t) in (
          bytes,
          refl,
          subst (λ (x : Header). ReadOnSays p.channel bytes (Ok x)) k.1 a.1,
          (tests_exactly p h None).0 (ap (first_miss p) (sym k.1) ∙ k.0),
        ))

    back : ArrivesPassing p h e → (brings p e).kept ≡ Some h
    back m =
        ap (λ (x : Event). (brings p x).kept) m.1 ∙ ap (λ (b : Brought). b.kept) (brings_frame p m.0 h m.2)
        ∙ ap (λ (t : Option Miss). kept_by t h) ((tests_exactly p h None).1 m.3)

pub boundary_exactly : (p : Place) (e : Event) → ((brings p e).at_boundary ≡ true) ↔ (e ≡ boundary_activity)
boundary_exactly p e = (there e, ap (λ (x : Event). (brings p x).at_boundary))
  where
    there : (e : Event) → (brings p e).at_boundary ≡ true → e ≡ boundary_activity
    there boundary_activity t = refl
    there own_sending t = absurd (false≢true t)
    there (arrival bytes) t = absurd (false≢true (sym (only_arrival p bytes).1 ∙ t))

pub sending_exactly : (p : Place) (e : Event) → ((brings p e).sent ≡ true) ↔ (e ≡ own_sending)
sending_exactly p e = (there e, ap (λ (x : Event). (brings p x).sent))
  where
    there : (e : Event) → (brings p e).sent ≡ true → e ≡ own_sending
    there own_sending t = refl
    there boundary_activity t = absurd (false≢true t)
    there (arrival bytes) t = absurd (false≢true (sym (only_arrival p bytes).2 ∙ t))
