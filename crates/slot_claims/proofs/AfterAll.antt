-- What a sequence of events leaves of a status: one law for a flag, and one for what is kept first. What an event sets or gives may
-- depend on the status before it, and so what is said of the event on the events before it.
use mathlib.Core.Path.{◌≡◌, refl, sym, ap, ◌∙◌}
use mathlib.Core.Bool.{Bool, true, false, false≢true, ◌||◌}
use mathlib.Core.List.{List, [], ◌∷◌, ◌++◌}
use mathlib.Core.Logic.{◌⊎◌, inl, inr, ◌↔◌}
use Rattle.std.specs.Prelude.{Option, Some, None, is_some}
use Rattle.std.specs.Option.{option_or}
use Rattle.std.proofs.lemmas.Option.{none-some}
use Rattle.numbers.proofs.Truth.{either_true, true_left, true_right}
use Rattle.numbers.proofs.Walk.{came}
use Rattle.slot.specs.declared.status.Status.{Status}
use Rattle.slot.specs.Judging.{Place, place_of, fresh}
use Rattle.slot.specs.Sound.{sound}
use Rattle.slot_events.specs.Effect.{Event, Brought, brings, after}
use Rattle.slot_claims.specs.Histories.{SomeEvent, First, FirstIs}
use Rattle.slot_claims.proofs.SoundCalls.{after_sound}
use Rattle.slot_claims.proofs.SequenceLaws.{Behind, none_of_none, some_here, some_later, some_cases, first_here, first_later}

unfoldable pub after_all : Status → List Event → Status
after_all s [] = s
after_all s (e ∷ events) = after_all (after s e) events

-- the status at the end, from a fresh one
abbrev pub end : Place → List Event → Status
end p events = after_all (fresh p) events

pub all_place : (s : Status) (events : List Event) → place_of (after_all s events) ≡ place_of s
unfolding after_all
all_place s [] = refl
all_place s (e ∷ events) = all_place (after s e) events

pub all_sound : (s : Status) (events : List Event) → sound s ≡ true → sound (after_all s events) ≡ true
unfolding after_all
all_sound s [] good = good
all_sound s (e ∷ events) good = all_sound (after s e) events (after_sound s e good)

-- this is so exactly of the events of which P holds, each on the status that those before it left
abbrev Exactly : (Status → Brought → Bool) → Status → (List Event → Event → Type 0) → Type 0
Exactly is s P = (before : List Event) (e : Event) → (is (after_all s before) (brings (place_of s) e) ≡ true) ↔ P before e

-- ---- a flag

-- It stands at the end where it was set by some event, of which P holds, or stood before.
module _ (flag : Status → Bool) (sets : Status → Brought → Bool)
    (once : (s : Status) (e : Event) → flag (after s e) ≡ sets s (brings (place_of s) e) || flag s) where
  flag_some : (P : List Event → Event → Type 0) (s : Status) → Exactly sets s P → (events : List Event)
      → flag (after_all s events) ≡ true → SomeEvent P events ⊎ (flag s ≡ true)
  unfolding after_all
  flag_some P s same [] t = inr t
  flag_some P s same (e ∷ events) t =
      came (flag_some (Behind e P) (after s e) (λ before. same (e ∷ before)) events t)
      (λ later. inl (some_later e events later))
      (λ now.
      came (either_true (sets s (brings (place_of s) e)) (flag s) (sym (once s e) ∙ now)) (λ set. inl (some_here e events ((same [] e).0 set))) inr)

  some_flag : (P : List Event → Event → Type 0) (s : Status) → Exactly sets s P → (events : List Event)
      → SomeEvent P events ⊎ (flag s ≡ true) → flag (after_all s events) ≡ true
  unfolding after_all
  some_flag P s same [] x = came x (λ some. absurd (none_of_none some)) (λ t. t)
  some_flag P s same (e ∷ events) x =
      let set = sets s (brings (place_of s) e) in
      some_flag (Behind e P) (after s e) (λ before. same (e ∷ before)) events
      (came x
      (λ some. came (some_cases e events some) (λ here. inr (once s e ∙ true_left set (flag s) ((same [] e).1 here))) inl)
      (λ t. inr (once s e ∙ true_right set (flag s) t)))

  -- from a fresh status, where it is clear: exactly when some event set it
  pub flag_exactly : (P : List Event → Event → Type 0) (p : Place) (events : List Event) → flag (fresh p) ≡ false → Exactly sets (fresh p) P
      → (flag (end p events) ≡ true) ↔ SomeEvent P events
  flag_exactly P p events clear same = (
    λ t. came (flag_some P (fresh p) same events t) (λ some. some) (λ stood. absurd (false≢true (sym clear ∙ stood))),
    λ some. some_flag P (fresh p) same events (inl some),
  )

-- ---- what is kept

-- It is the first that an event brought, of which P holds.
module _ {A : Type 0} (keeps : Status → Option A) (gives : Status → Brought → Option A)
    (once : (s : Status) (e : Event) → keeps (after s e) ≡ option_or (keeps s) (gives s (brings (place_of s) e))) where
  -- what is kept stays
  stays : (s : Status) (events : List Event) (a : A) → keeps s ≡ Some a → keeps (after_all s events) ≡ Some a
  unfolding after_all
  stays s [] a there = there
  stays s (e ∷ events) a there =
      stays (after s e) events a (once s e ∙ ap (λ (o : Option A). option_or o (gives s (brings (place_of s) e))) there)

  -- where nothing is kept, an event's is taken
  takes : (s : Status) (e : Event) → keeps s ≡ None → keeps (after s e) ≡ gives s (brings (place_of s) e)
  takes s e none = once s e ∙ ap (λ (o : Option A). option_or o (gives s (brings (place_of s) e))) none

  -- something is there to take
  abbrev gives_one : Status → Brought → Bool
  gives_one s b = is_some (gives s b)

  -- the first event of which P holds gives a
  abbrev FirstGives : A → (List Event → Event → Type 0) → Status → List Event → Type 0
  FirstGives a P s events =
      (before : List Event) × (e : Event) × First P events before e × (gives (after_all s before) (brings (place_of s) e) ≡ Some a)

  kept_first : (P : List Event → Event → Type 0) (s : Status) → Exactly gives_one s P → (events : List Event) (a : A)
      → keeps s ≡ None → keeps (after_all s events) ≡ Some a → FirstGives a P s events
  unfolding after_all
  kept_first P s same [] a none k = absurd (none-some a (sym none ∙ k))
  kept_first P s same (e ∷ events) a none k =
      by (gives s (brings (place_of s) e)) refl
      (λ g. kept_first (Behind e P) (after s e) (λ before. same (e ∷ before)) events a (takes s e none ∙ g) k)
    where
      by : (given : Option A) → gives s (brings (place_of s) e) ≡ given
          → (gives s (brings (place_of s) e) ≡ None → FirstGives a (Behind e P) (after s e) events) → FirstGives a P s (e ∷ events)
      by (Some b) g later = ([], e, first_here e events ((same [] e).0 (ap is_some g)), g ∙ sym (stays (after s e) events b (takes s e none ∙ g)) ∙ k)
      by None g later =
          let r = later g in
          (e ∷ r.0, r.1, first_later e events r.0 r.1 (λ h. false≢true (sym (ap is_some g) ∙ (same [] e).1 h)) r.2, r.3)

  first_kept_lem : (P : List Event → Event → Type 0) (s : Status) → Exactly gives_one s P → (before later : List Event) (e : Event) (a : A)
      → keeps s ≡ None → (SomeEvent P before → ⊥) → gives (after_all s before) (brings (place_of s) e) ≡ Some a
      → keeps (after_all s (before ++ (e ∷ later))) ≡ Some a
  unfolding after_all
  first_kept_lem P s same [] later e a none earlier g = stays (after s e) later a (takes s e none ∙ g)
  first_kept_lem P s same (x ∷ before) later e a none earlier g =
      first_kept_lem (Behind x P) (after s x) (λ past. same (x ∷ past)) before later e a
      (takes s x none ∙ by (gives s (brings (place_of s) x)) refl) (λ some. earlier (some_later x before some)) g
    where
      by : (given : Option A) → gives s (brings (place_of s) x) ≡ given → gives s (brings (place_of s) x) ≡ None
      by None e = e
      by (Some b) e = absurd (earlier (some_here x before ((same [] x).0 (ap is_some e))))

  -- from a fresh status, which keeps nothing, in other words for what the event brought
  pub first_exactly : (P : List Event → Event → Type 0) (p : Place) (events : List Event) → keeps (fresh p) ≡ None
      → Exactly gives_one (fresh p) P → (a : A)
      → (Q : List Event → Event → Type 0) → ((before : List Event) (e : Event) → (gives (end p before) (brings p e) ≡ Some a) ↔ Q before e)
      → (keeps (end p events) ≡ Some a) ↔ FirstIs P Q events
  first_exactly P p events none same a Q meant = (
    λ k.
        let r = kept_first P (fresh p) same events a none k in
        (r.0, r.1, r.2, (meant r.0 r.1).0 r.3),
    λ r.
        let f = r.2 in
        ap (λ (l : List Event). keeps (after_all (fresh p) l)) f.parts
        ∙ first_kept_lem P (fresh p) same r.0 f.after r.1 a none f.earlier ((meant r.0 r.1).1 r.3),
  )
