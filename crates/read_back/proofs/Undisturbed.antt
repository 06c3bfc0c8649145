-- Changed samples that are far enough from each other do no harm.
use Prim.Native.Nat.{ℕ}
use mathlib.Core.Path.{◌≡◌, refl, sym, ap, subst}
use mathlib.Core.Bool.{Bool, false}
use mathlib.Core.List.{List, [], ◌∷◌}
use native.Mathlib.Omega.{arith}
use lib.ListN.{length}
use Rattle.division.specs.Division.{◌⊕◌, exor}
use Rattle.wire_reader.specs.Reader.{Event, fresh, run}
use Rattle.read_back.specs.Sending.{Sending, samples_of_all}
use Rattle.read_back.specs.Disturbed.{GivenNearly, none, one, Undisturbed}
use Rattle.read_back.proofs.Patterns.{flip_at, calm_list}
use Rattle.read_back.proofs.Clocks.{timely_says}
use Rattle.read_back.proofs.Lifting.{flipped}
use Rattle.read_back.proofs.Sequence.{Given, nil, cons, all_from_fresh}

exor_flipped : (flips l : List Bool) → length flips ≡ length l → exor flips l ≡ flipped (flip_at flips) l
unfolding exor flipped
exor_flipped [] [] e = refl
exor_flipped [] (x ∷ l) e = absurd (omega arith)
exor_flipped (a ∷ flips) [] e = absurd (omega arith)
exor_flipped (a ∷ flips) (x ∷ l) e = ap (◌∷◌ (a ⊕ x)) (exor_flipped flips l (omega arith))

nearly : {i : ℕ} {l : List Sending} {events : List Event} → Given false i l events → GivenNearly i l events
nearly nil = none
nearly (cons end reference h g rest) = one end reference (timely_says false end h) (timely_says false reference g) (nearly rest)

pub undisturbed : Undisturbed
undisturbed channel i memory l flips room right size harmless =
    subst (λ (x : List Bool). GivenNearly i l (run channel i (fresh memory) x).events) (sym (exor_flipped flips (samples_of_all l) size))
    (nearly (all_from_fresh false channel l (flip_at flips) (calm_list flips harmless) i memory room right).events)
