-- Another order of a list.
use mathlib.Core.List.{List, Permᴰ}

-- The same elements, in another order: mathlib's permutations. Made of the empty list, a same element put before both, the first two
-- swapped, and one such after another.
abbrev pub Permuted : {A : Type 0} → List A → List A → Type 0
Permuted = Permᴰ
