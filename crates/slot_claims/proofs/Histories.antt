-- The claims about sequences of events.
use mathlib.Core.Path.{◌≡◌, refl, sym, ap, ◌∙◌, subst}
use mathlib.Core.Bool.{Bool, true, false, false≢true, not, ◌&&◌, ◌||◌, cond}
use mathlib.Core.List.{List, [], ◌∷◌}
use mathlib.Core.Logic.Iff
use mathlib.Core.Logic.{inl, inr, ◌↔◌}
use Rattle.std.specs.Prelude.{Option, Some, None, is_some}
use Rattle.std.specs.Option.{option_or}
use Rattle.std.proofs.lemmas.Option.{none-some, cond_some}
use Rattle.std.proofs.Common.{arith}
use Rattle.refusal.specs.Refusal.{first}
use Rattle.refusal.proofs.FirstLaws.{first_skip, first_end, if_accepted_lem}
use Rattle.checksum.specs.declared.pair.ChecksumPair.{ChecksumPair}
use Rattle.header.specs.declared.Header.{Header}
use Rattle.slot.specs.declared.status.Miss.{Miss}
use Rattle.slot.specs.declared.status.Reason.{Reason}
use Rattle.slot.specs.declared.status.Reason.TheVariants.{Missed, SecondGoodFrame}
use Rattle.slot.specs.declared.status.Status.{Status}
use Rattle.slot.specs.Judging.{Place, place_of, place_by, fresh, no_status, is_second_good_frame, has_arrival}
use Rattle.slot.specs.Opening.{opening_refusals, Told}
use Rattle.slot.specs.Sound.{sound}
use Rattle.slot_events.specs.Effect.{Event, Brought, boundary_activity, own_sending, brings, reason_in, after}
use Rattle.slot_events.specs.Events.{event_refusals}
use Rattle.slot_claims.specs.Histories.{Arrives, ArrivesRefused, ArrivesTelling, ArrivesMissing, ArrivesPassing, PassesAll, AnyTime, SomeEvent, FirstIs, Occurs, PassesAgain, GivesReason, History, HistoryOne, Calls, NoneRefused, Histories}
use Rattle.numbers.proofs.Truth.{both_true, true_both, same_true}
use Rattle.numbers.proofs.Walk.{cases, came}
use Rattle.slot_claims.proofs.ReasonLaws.{some_there, which_reason}
use Rattle.slot.proofs.SoundLaws.{Clauses, clauses}
use Rattle.slot_claims.proofs.Sound.{none_told}
use Rattle.slot_claims.proofs.SoundCalls.{fits, has_after, second_given, after_sound, fresh_sound}
use Rattle.slot_claims.proofs.Brings.{arrives_exactly, refused_exactly, checksums_exactly, misses_exactly, passes_exactly, boundary_exactly, sending_exactly}
use Rattle.slot_claims.proofs.AfterAll.{after_all, all_place, all_sound, end, flag_exactly, first_exactly}

-- ---- what is exactly so

passes_all : (p : Place) (e : Event) → (is_some (brings p e).kept ≡ true) ↔ PassesAll p e
passes_all p e = (
  λ t.
      let k = some_there (brings p e).kept t in
      (k.0, (passes_exactly p k.0 e).0 k.1),
  λ a. ap is_some ((passes_exactly p a.0 e).1 a.1),
)

-- "valid" at the end
valid_exactly : (p : Place) (events : List Event) → ((end p events).valid ≡ true) ↔ SomeEvent (AnyTime (PassesAll p)) events
valid_exactly p events =
    flag_exactly (λ s. s.valid) (λ s b. is_some b.kept) (λ s e. refl) (AnyTime (PassesAll p)) p events refl (λ before. passes_all p)

-- ---- the content reason

missed_there : (later : Bool) (reason : Option Reason) (miss : Miss)
    → cond later (Some SecondGoodFrame) reason ≡ Some (Missed miss) → reason ≡ Some (Missed miss)
missed_there later reason miss e = grind arith

-- a frame that misses a test is not kept
missed_back : (reason : Option Reason) (kept : Option Header) (valid : Bool) (miss : Miss) → is_some reason && is_some kept ≡ false
    → reason ≡ Some (Missed miss) → cond (is_some kept && valid) (Some SecondGoodFrame) reason ≡ Some (Missed miss)
missed_back reason kept valid miss alone e = grind arith

-- that of a miss, or (f)
module _ (p : Place) (before : List Event) (e : Event) where
  abbrev b : Brought
  b = brings p e

  abbrev given : Option Reason
  given = reason_in (end p before) b

  -- the frame is a later one
  abbrev is_later : Bool
  is_later = is_some b.kept && (end p before).valid

  later_exactly : (is_later ≡ true) ↔ PassesAgain p before e
  later_exactly = (
    λ t.
        let both = both_true (is_some b.kept) (end p before).valid t in
        ((valid_exactly p before).0 both.1, (passes_all p e).0 both.0),
    λ again. true_both (is_some b.kept) (end p before).valid ((passes_all p e).1 again.1) ((valid_exactly p before).1 again.0),
  )

  second_exactly : (given ≡ Some SecondGoodFrame) ↔ PassesAgain p before e
  second_exactly = (
    λ t. later_exactly.0 (second_given (end p before) b (fits p e).test (ap is_second_good_frame t)),
    λ again. ap (λ (x : Bool). cond x (Some SecondGoodFrame) b.reason) (later_exactly.1 again),
  )

  missed_exactly : (miss : Miss) → (given ≡ Some (Missed miss)) ↔ ArrivesMissing p miss e
  missed_exactly miss =
      let fit = fits p e in (
        λ t. (misses_exactly p miss e).0 (missed_there is_later b.reason miss t),
        λ m. missed_back b.reason b.kept (end p before).valid miss fit.alone ((misses_exactly p miss e).1 m),
      )

  gives_exactly : (is_some given ≡ true) ↔ GivesReason p before e
  gives_exactly = (
    λ t.
        let r = some_there given t in
        came (which_reason r.0)
        (λ m. inl (m.0, (missed_exactly m.0).0 (r.1 ∙ ap (λ (x : Reason). Some x) m.1)))
        (λ again. inr (second_exactly.0 (r.1 ∙ ap (λ (x : Reason). Some x) again))),
    λ g. came g (λ m. ap is_some ((missed_exactly m.0).1 m.1)) (λ again. ap is_some (second_exactly.1 again)),
  )

-- ---- the two checksums

-- where "syntax error" stands: what is kept of the first arrival that is refused
abbrev told_where : Bool → ChecksumPair → Option ChecksumPair
told_where flag checksums = cond flag (Some checksums) None

abbrev syntax_of : Status → Option ChecksumPair
syntax_of s = told_where s.syntax_error s.checksums

abbrev given_syntax : Status → Brought → Option ChecksumPair
given_syntax s b = told_where b.refused b.checksums

joined_told : (refused syntax : Bool) (new old : ChecksumPair)
    → told_where (refused || syntax) (cond (refused && not syntax) new old) ≡ option_or (told_where syntax old) (told_where refused new)
joined_told refused syntax new old = grind arith

syntax_once : (s : Status) (e : Event) → syntax_of (after s e) ≡ option_or (syntax_of s) (given_syntax s (brings (place_of s) e))
syntax_once s e = let b = brings (place_of s) e in joined_told b.refused s.syntax_error b.checksums s.checksums

-- something is told there exactly where the flag stands
told_there : (flag : Bool) (checksums : ChecksumPair) → is_some (told_where flag checksums) ≡ flag
told_there flag checksums = grind arith

told_exactly : (flag : Bool) (checksums told : ChecksumPair) → (told_where flag checksums ≡ Some told) ↔ (flag ≡ true) × (checksums ≡ told)
told_exactly flag checksums told = (cond_some flag checksums told, λ t. rw (t.0, t.1))

module _ (p : Place) (told : ChecksumPair) where
  given_exactly : (before : List Event) (e : Event)
      → (given_syntax (end p before) (brings p e) ≡ Some told) ↔ (ArrivesRefused p e × ArrivesTelling p told e)
  given_exactly before e = Iff.trans (told_exactly (brings p e).refused (brings p e).checksums told) (checksums_exactly p told e)

  -- of the first arrival that is refused, and so of one that is
  first_telling : (events : List Event)
      → (syntax_of (end p events) ≡ Some told) ↔ FirstIs (AnyTime (ArrivesRefused p)) (AnyTime (ArrivesTelling p told)) events
  first_telling events =
      let all = first_exactly syntax_of given_syntax syntax_once (AnyTime (ArrivesRefused p)) p events refl
      (λ before e. let r = refused_exactly p e in let t = told_there (brings p e).refused (brings p e).checksums in ((λ x. r.0 (sym t ∙ x)), (λ x. t ∙ r.1 x)))
      told (AnyTime (λ e. ArrivesRefused p e × ArrivesTelling p told e)) given_exactly in (
        λ t. let r = all.0 t in (r.0, r.1, r.2, r.3.1),
        λ r. all.1 (r.0, r.1, r.2, (r.2.holds, r.3)),
      )

module _ (p : Place) (good : sound (fresh p) ≡ true) (events : List Event) where
  -- the reason that is kept, by what gives it
  reason_exactly : (r : Reason) (Q : List Event → Event → Type 0) → ((before : List Event) (e : Event) → (given p before e ≡ Some r) ↔ Q before e)
      → ((end p events).reason ≡ Some r) ↔ FirstIs (GivesReason p) Q events
  reason_exactly r Q meant =
      first_exactly (λ s. s.reason) reason_in (λ s e. refl) (GivesReason p) p events refl (gives_exactly p) r Q meant

  syntax_exactly : ((end p events).syntax_error ≡ true) ↔ SomeEvent (AnyTime (ArrivesRefused p)) events
  syntax_exactly =
      flag_exactly (λ s. s.syntax_error) (λ s b. b.refused) (λ s e. refl) (AnyTime (ArrivesRefused p)) p events refl
      (λ before. refused_exactly p)

  sent_exactly : ((end p events).own_sending ≡ true) ↔ Occurs own_sending events
  sent_exactly =
      flag_exactly (λ s. s.own_sending) (λ s b. b.sent) (λ s e. refl) (AnyTime (λ e. e ≡ own_sending)) p events refl (λ before. sending_exactly p)

  arrived_exactly : (has_arrival (end p events) ≡ true) ↔ SomeEvent (AnyTime Arrives) events
  arrived_exactly =
      flag_exactly has_arrival (λ s b. b.arrived) (λ s e. has_after s (brings (place_of s) e) (fits (place_of s) e)) (AnyTime Arrives) p events refl
      (λ before. arrives_exactly p)

  history : History p events (end p events)
  history =
      record {
        place = all_place (fresh p) events;
        syntax = syntax_exactly;
        checksums = λ told. Iff.trans (Iff.symm (told_exactly (end p events).syntax_error (end p events).checksums told)) (first_telling p told events);
        none =
            λ nothing.
            none_told (end p events).checksums
            (λ t. nothing (syntax_exactly.0 (c.checksums t)));
        content =
            flag_exactly (λ s. s.content_error) (λ s b. is_some (reason_in s b)) (λ s e. refl) (GivesReason p) p events refl (gives_exactly p);
        reason = λ miss. reason_exactly (Missed miss) (AnyTime (ArrivesMissing p miss)) (λ before e. missed_exactly p before e miss);
        second = reason_exactly SecondGoodFrame (PassesAgain p) (second_exactly p);
        valid = valid_exactly p events;
        kept =
            λ h.
            first_exactly (λ s. s.kept) (λ s b. b.kept) (λ s e. refl) (AnyTime (PassesAll p)) p events refl (λ before. passes_all p)
            h (AnyTime (ArrivesPassing p h)) (λ before. passes_exactly p h);
        boundary =
            flag_exactly (λ s. s.boundary_violation) (λ s b. b.at_boundary) (λ s e. refl) (AnyTime (λ e. e ≡ boundary_activity)) p events refl
            (λ before. boundary_exactly p);
        sending = sent_exactly;
        conflict = (
          λ t.
              let b = both_true (end p events).own_sending (has_arrival (end p events)) (sym c.conflict ∙ t) in
              (sent_exactly.0 b.0, arrived_exactly.0 b.1),
          λ x. c.conflict ∙ true_both (end p events).own_sending (has_arrival (end p events)) (sent_exactly.1 x.0) (arrived_exactly.1 x.1),
        );
      }
    where
      c : Clauses (end p events)
      c = clauses (end p events) (all_sound (fresh p) events good)

-- ---- one status

-- two flags that stand in the same case
same_flag : {P : Type 0} (a b : Bool) → (a ≡ true) ↔ P → (b ≡ true) ↔ P → a ≡ b
same_flag a b x y = same_true a b (Iff.trans x (Iff.symm y))

-- two things that are the same wherever one is there
same_thing : {A : Type 0} (x y : Option A) → ((a : A) → (x ≡ Some a) ↔ (y ≡ Some a)) → x ≡ y
same_thing None None same = refl
same_thing None (Some y) same = absurd (none-some y ((same y).1 refl))
same_thing (Some x) y same = sym ((same x).0 refl)

module _ (p : Place) (events : List Event) (s t : Status) (hs : History p events s) (ht : History p events t) where
  same_reason : s.reason ≡ t.reason
  same_reason = same_thing s.reason t.reason by
    where
      by : (r : Reason) → (s.reason ≡ Some r) ↔ (t.reason ≡ Some r)
      by (Missed miss) = Iff.trans (hs.reason miss) (Iff.symm (ht.reason miss))
      by SecondGoodFrame = Iff.trans hs.second (Iff.symm ht.second)

  same_kept : s.kept ≡ t.kept
  same_kept = same_thing s.kept t.kept (λ h. Iff.trans (hs.kept h) (Iff.symm (ht.kept h)))

  same_checksums : s.checksums ≡ t.checksums
  same_checksums =
      cases s.syntax_error
      (λ stands. sym ((ht.checksums s.checksums).1 ((hs.checksums s.checksums).0 (stands, refl))).1)
      (λ clear.
      let none : SomeEvent (AnyTime (ArrivesRefused p)) events → ⊥ = λ some. false≢true (sym clear ∙ hs.syntax.1 some) in
      hs.none none ∙ sym (ht.none none))

  same_status : s ≡ t
  same_status =
      let place : place_of s ≡ place_of t = hs.place ∙ sym ht.place in
      let syntax = same_flag s.syntax_error t.syntax_error hs.syntax ht.syntax in
      let content = same_flag s.content_error t.content_error hs.content ht.content in
      let boundary = same_flag s.boundary_violation t.boundary_violation hs.boundary ht.boundary in
      let conflict = same_flag s.conflict t.conflict hs.conflict ht.conflict in
      let valid = same_flag s.valid t.valid hs.valid ht.valid in
      let sending = same_flag s.own_sending t.own_sending hs.sending ht.sending in
      λ i.
      record {
        settings = (place i).settings;
        channel = (place i).channel;
        slot = (place i).slot;
        cycle = (place i).cycle;
        syntax_error = syntax i;
        content_error = content i;
        boundary_violation = boundary i;
        conflict = conflict i;
        valid = valid i;
        own_sending = sending i;
        reason = same_reason i;
        kept = same_kept i;
        checksums = same_checksums i;
      }

pub history_one : HistoryOne
history_one p events s t hs ht = same_status p events s t hs ht

-- ---- sequences of calls

-- each call on a sound status is recorded, and leaves what its event leaves
all_recorded : (s : Status) (events : List Event) (t : Status) → sound s ≡ true → (calls : Calls s events t)
    → NoneRefused s events t calls × (t ≡ after_all s events)
unfolding after_all
all_recorded s [] t good calls = (tt, sym calls)
all_recorded s (e ∷ events) t good calls =
    let none : first (event_refusals s) ≡ 0 = first_skip 23 _ (ap not good) ∙ first_end in
    let same : calls.0.state ≡ after s e = calls.1.leaves ∙ if_accepted_lem (first (event_refusals s)) (after s e) s none in
    let rest = all_recorded calls.0.state events t (ap sound same ∙ after_sound s e good) calls.2 in
    ((calls.1.answers ∙ none, rest.0), rest.1 ∙ ap (λ (x : Status). after_all x events) same)

-- an accepted opening leaves a fresh status, which is sound
pub histories : Histories
histories settings channel slot cycle opened says accepted events s calls =
    let p = place_by settings channel slot cycle in
    let none : first (opening_refusals settings channel slot cycle) ≡ 0 = sym (ap (λ (t : Told). t.number) says.answers) ∙ accepted in
    let good : sound (fresh p) ≡ true = fresh_sound settings channel slot cycle none in
    let is-fresh : opened.state ≡ fresh p = says.leaves ∙ if_accepted_lem _ (fresh p) no_status none in
    let all = all_recorded opened.state events s (ap sound is-fresh ∙ good) calls in
    let ends : s ≡ end p events = all.1 ∙ ap (λ (x : Status). after_all x events) is-fresh in
    (all.0, subst (History p events) (sym ends) (history p good events))
