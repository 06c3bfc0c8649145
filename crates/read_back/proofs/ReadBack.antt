-- What is written is read back.
use Prim.Native.Nat.{ℕ, ◌+◌, ◌-◌}
use mathlib.Core.Path.{◌≡◌, refl, ap, ap₂, ◌∙◌, subst}
use mathlib.Core.Bool.{Bool, true, false}
use mathlib.Core.List.{List, [], ◌∷◌}
use native.Mathlib.Omega.{arith}
use Rattle.wire_reader.specs.Reader.{Event, fresh}
use Rattle.read_back.specs.Sending.{Sending, samples_of_all, end_of, since_of, given, events_of}
use Rattle.read_back.specs.ReadBack.{EverythingReadBack}
use Rattle.read_back.proofs.Patterns.{calm_none}
use Rattle.read_back.proofs.Clocks.{exactly}
use Rattle.read_back.proofs.Lifting.{flipped}
use Rattle.read_back.proofs.Sequence.{Given, nil, cons, Read, all_from_fresh}

none_flipped : (l : List Bool) → flipped (λ n. false) l ≡ l
unfolding flipped
none_flipped [] = refl
none_flipped (x ∷ l) = ap (◌∷◌ x) (none_flipped l)

as_named : {i : ℕ} {l : List Sending} {events : List Event} → Given true i l events → events ≡ events_of i l
unfolding events_of
as_named nil = refl
as_named (cons {i} {s} {l} {events} end reference h g rest) =
    let e = exactly end h in
    let r = exactly reference g in
    let sample : i + end_of s + end - 6 ≡ i + end_of s = omega arith in
    let since : since_of s + end - reference ≡ since_of s = omega arith in
    ap₂ (λ (x y : ℕ). given x y s ∷ events) sample since ∙ ap (◌∷◌ (given (i + end_of s) (since_of s) s)) (as_named rest)

pub everything_read_back : EverythingReadBack
everything_read_back channel i memory l room right =
    let r = subst (λ (x : List Bool). Read true channel i (fresh memory) x l) (none_flipped (samples_of_all l))
    (all_from_fresh true channel l (λ n. false) calm_none i memory room right) in
    record { events = as_named r.events; place = r.place }
