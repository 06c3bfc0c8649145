-- Sequences of events: of some event something holds, and of a first.
use mathlib.Core.Path.{◌≡◌, refl, ap, subst}
use mathlib.Core.Bool.{false≢true}
use mathlib.Core.List.{List, [], ◌∷◌, ◌++◌}
use mathlib.Core.Logic.{◌⊎◌, inl, inr}
use Rattle.numbers.proofs.Walk.{came}
use Rattle.slot_events.specs.Effect.{Event}
use Rattle.slot_claims.specs.Histories.{SomeEvent, First}

-- what is said of the events behind this one, where those before them are counted from behind it
abbrev pub Behind : Event → (List Event → Event → Type 0) → List Event → Event → Type 0
Behind e P before x = P (e ∷ before) x

pub none_of_none : {P : List Event → Event → Type 0} → SomeEvent P [] → ⊥
none_of_none s = no s.0 s.1 s.2 s.3
  where
    no : (before : List Event) (x : Event) (after : List Event) → [] ≡ before ++ (x ∷ after) → ⊥
    no [] x after parts = false≢true cc
    no (y ∷ before) x after parts = false≢true cc

module _ {P : List Event → Event → Type 0} (e : Event) (events : List Event) where
  pub some_here : P [] e → SomeEvent P (e ∷ events)
  some_here h = ([], e, events, refl, h)

  pub some_later : SomeEvent (Behind e P) events → SomeEvent P (e ∷ events)
  some_later s = (e ∷ s.0, s.1, s.2, ap (◌∷◌ e) s.3, s.4)

  pub some_cases : SomeEvent P (e ∷ events) → P [] e ⊎ SomeEvent (Behind e P) events
  some_cases s = by s.0 s.1 s.2 s.3 s.4
    where
      by : (before : List Event) (x : Event) (after : List Event) → e ∷ events ≡ before ++ (x ∷ after) → P before x → P [] e ⊎ SomeEvent (Behind e P) events
      by [] x after parts h =
          let same : x ≡ e = cc in
          inl (subst (P []) same h)
      by (y ∷ before) x after parts h =
          let same : y ≡ e = cc in
          inr (before, x, after, cc, subst (λ (z : Event). P (z ∷ before) x) same h)

  -- the first is this event, or, where it does not hold of this one, the first behind it
  pub first_here : P [] e → First P (e ∷ events) [] e
  first_here h = record { after = events; parts = refl; holds = h; earlier = none_of_none }

pub first_later : {P : List Event → Event → Type 0} (e : Event) (events before : List Event) (x : Event)
    → (P [] e → ⊥) → First (Behind e P) events before x → First P (e ∷ events) (e ∷ before) x
first_later e events before x out f =
    record {
      after = f.after;
      parts = ap (◌∷◌ e) f.parts;
      holds = f.holds;
      earlier = λ s. came (some_cases e before s) out f.earlier;
    }
