-- Values in their array, and what one more value makes of them.
use Prim.Native.Nat.{ℕ, suc, ◌+◌, ◌-◌, ◌<◌, ◌≤◌}
use mathlib.Core.Path.{◌≡◌, refl, sym, ap, ◌∙◌}
use mathlib.Core.List.{List, [], ◌∷◌, ◌++◌, map, append_assoc}
use native.Mathlib.Numerals.{add-one}
use native.Mathlib.Omega.{arith}
use borrow.Author.Tests.{le-leb}
use lib.IntN.{ℤ, pos}
use lib.ListN.{length, length-append, length-take, get_or, take, set, replicate}
use lib.Seq.{set-append_seam, take-append_seam, take-suc, take_all}
use Rattle.std.specs.Prelude.{None, Some}
use Rattle.midpoint.specs.Midpoint.{most_values}
use Rattle.correction.specs.Values.{Value}
use Rattle.correction.specs.Terms.{most_ids, values_in}
use Rattle.correction.specs.declared.term.Values.{Values}
use Rattle.sync_list.specs.declared.row.Row.{Row}
use Rattle.list_values.specs.Values.{before, present, in_array}

-- ---- values in their array

pub array_values : (numbers : List ℤ) → length numbers ≤ most_ids → values_in (in_array numbers) ≡ numbers
array_values numbers few = rw (le-leb (length numbers) most_ids few) (take-append_seam numbers (replicate (most_values - length numbers) (pos 0)))

-- one of the zeros makes room for a number
pub array_more : (numbers : List ℤ) (x : ℤ) → length numbers ≤ most_ids
    → record { numbers = set (in_array numbers).numbers (length numbers) x; count = length numbers + 1 } ≡ in_array (numbers ++ (x ∷ []))
array_more numbers x few =
    let zeros : ℕ = most_values - (length numbers + 1) in
    let one : most_values - length numbers ≡ suc zeros = omega arith in
    let counted : length (numbers ++ (x ∷ [])) ≡ length numbers + 1 = length-append numbers (x ∷ []) in
    rw (one, counted, set-append_seam numbers (pos 0) (replicate zeros (pos 0)) x, append_assoc numbers (x ∷ []) (replicate zeros (pos 0)))

-- so it is where those before it are known
pub laid : (values : Values) (x : ℤ) → values.count ≤ most_ids → values ≡ in_array (values_in values)
    → record { numbers = set values.numbers values.count x; count = values.count + 1 } ≡ in_array (values_in values ++ (x ∷ []))
laid values x room filled =
    let count : values.count ≡ length (values_in values) = ap (λ (v : Values). v.count) filled in
    ap (λ (v : Values). record { numbers = set v.numbers v.count x; count = v.count + 1 }) filled ∙ array_more (values_in values) x (omega arith)

-- ---- the values of rows

module _ (value : Row → Value) where
  abbrev pub values_of : List Row → List ℤ
  values_of rows = present (map value rows)

  before_first : (v : Value) (numbers : List ℤ) → before v [] ++ numbers ≡ before v numbers
  before_first None numbers = refl
  before_first (Some x) numbers = refl

  before_most : (v : Value) (numbers : List ℤ) → length (before v numbers) ≤ suc (length numbers)
  before_most None numbers = omega arith
  before_most (Some x) numbers = omega arith

  -- at most one for each row
  pub values_few : (rows : List Row) → length (values_of rows) ≤ length rows
  unfolding present
  values_few [] = omega arith
  values_few (row ∷ rows) = omega (arith, before_most (value row) (values_of rows), values_few rows)

  -- one row more
  pub values_more : (rows : List Row) (row : Row) → values_of (rows ++ (row ∷ [])) ≡ values_of rows ++ before (value row) []
  unfolding present
  values_more [] row = refl
  values_more (first ∷ rows) row =
      ap (before (value first)) (values_more rows row)
      ∙ sym (before_first (value first) (values_of rows ++ before (value row) []))
      ∙ sym (append_assoc (before (value first) []) (values_of rows) (before (value row) []))
      ∙ ap (λ (l : List ℤ). l ++ before (value row) []) (before_first (value first) (values_of rows))

-- ---- the walk over the rows of a list, each of which adds a value

module _ (value : Row → Value) (rows : List Row) (few : length rows ≤ most_ids) (i : ℕ) (values : Values) (so_far : values ≡ in_array (values_of value (take i rows))) where
  passed_few : length (values_of value (take i rows)) ≤ i
  passed_few = omega (arith, values_few value (take i rows), length-take i rows)

  same : i ≤ length rows → values_in values ≡ values_of value (take i rows)
  same within = ap values_in so_far ∙ array_values (values_of value (take i rows)) (omega (arith, passed_few))

  -- there is room for one more
  pub has_room : i < length rows → values.count ≤ most_ids
  has_room more = rw so_far (omega (arith, passed_few))

  pub is_filled : i < length rows → values ≡ in_array (values_in values)
  is_filled more = so_far ∙ ap in_array (sym (same (omega arith)))

  -- a row is passed: its value was laid behind the others
  pub row_passed : (d : Row) → i < length rows → (next : Values) (v : Value) → v ≡ value (get_or rows i d)
      → next ≡ in_array (values_in values ++ before v []) → next ≡ in_array (values_of value (take (i + 1) rows))
  row_passed d more next v e laid =
      laid ∙ ap in_array (rw (same (omega arith), e, add-one, take-suc rows i d more, values_more value (take i rows) (get_or rows i d)))

  -- no row is left
  pub all_passed : i ≤ length rows → length rows ≤ i → values_in values ≡ values_of value rows
  all_passed within over = same within ∙ ap (values_of value) (take_all i rows over)
