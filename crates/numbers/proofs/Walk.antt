-- A loop that walks the first n of an array, i upward, against a rule by recursion on `take n xs`: the invariant is
-- `rule (take n xs) ≡ rule (drop i (take n xs))`, a turn opens `drop i` by `rest`, and the end is `rest_end`.
use mathlib.Core.Path.{◌≡◌, refl, sym, ◌∙◌}
use mathlib.Core.Bool.{Bool, true, false}
use mathlib.Core.Logic.{◌⊎◌, ⊎_elim}
use mathlib.Core.List.{List, [], ◌∷◌, map}
use Prim.Native.Nat.{ℕ, suc, ◌≤◌, ◌<◌}
use lib.ListN.{length, get_or, take, drop, drop_of_length-le, length-map}
use lib.Seq.{drop-cons, get_or-take, length-take-le}

pub rest : {A : Type 0} (d : A) (b : List A) (i n : ℕ) → i < n → n ≤ length b → drop i (take n b) ≡ get_or b i d ∷ drop (suc i) (take n b)
rest d b i n h f =
    let g : i < length (take n b) = rw (length-take-le n b f) h in
    drop-cons (take n b) i d g ∙ rw (get_or-take n b i d h)

pub rest_end : {A : Type 0} (b : List A) (i n : ℕ) → n ≤ i → n ≤ length b → drop i (take n b) ≡ []
rest_end b i n h f = drop_of_length-le (take n b) {i = i} (rw (length-take-le n b f) h)

-- the cases of a test, with its equation
pub cases : {P : Type 0} (t : Bool) → (t ≡ true → P) → (t ≡ false → P) → P
cases true f g = f refl
cases false f g = g refl

-- the same where what is to be shown has the test in it
pub cases_in : (P : Bool → Type 0) (t : Bool) → (t ≡ true → P true) → (t ≡ false → P false) → P t
cases_in P true f g = f refl
cases_in P false f g = g refl

-- the two ways to where the arms of a branch meet, the sum first, so that antt knows what each way holds when it reads the answers
pub came : {A B P : Type 0} → A ⊎ B → (A → P) → (B → P) → P
came s f g = ⊎_elim f g s

-- a struct's field that is an array of structs: what is known of its length is said of the list mapped to the elements' parts
pub length-of_mapped : (X Y : Type 0) (f : X → Y) (l : List X) (n : ℕ) → length (map f l) ≡ n → length l ≡ n
length-of_mapped X Y f l n e = sym (length-map l f) ∙ e
