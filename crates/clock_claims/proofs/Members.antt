-- The measurements that rows stand for, one by one.
use Rattle.std.specs.Prelude.{None, Some}
use Prim.Native.Nat.{ℕ}
use mathlib.Core.Path.{◌≡◌, refl, sym, ap, subst, ◌∙◌}
use mathlib.Core.Bool.{true, false≢true}
use mathlib.Core.List.Memᴰ
use mathlib.Core.List.{List, [], ◌∷◌, ◌++◌, Memᴰ}
use borrow.Author.Tests.{eq-eqb, eqb-true}
use lib.Dec.{eqb}
use Rattle.numbers.proofs.Truth.{either_true, true_left, true_right}
use Rattle.numbers.proofs.Walk.{came}
use Rattle.base_types.specs.declared.channel.Channel.{Channel}
use Rattle.base_types.specs.declared.channel.Channel.TheVariants.{A, B}
use Rattle.sync_list.specs.Rows.{Measured}
use Rattle.sync_list.specs.declared.row.Row.{Row}
use Rattle.sync_list.specs.Rows.{on}
use Rattle.sync_list.specs.Lists.{id_of, ids_of, is_among}
use Rattle.measurements.specs.Measurements.{Taken, taken, stands_for}

-- This measurement is what a row has on its channel.
pub record Has (row : Row) (m : Taken) : Type 0 where
  pub id : m.id ≡ id_of row
  pub there : on m.channel row ≡ Some m.measurement

-- A measurement of the rows is that of a row among them.
pub record HasOne (rows : List Row) (m : Taken) : Type 0 where
  pub row : Row
  pub among : Memᴰ row rows
  pub has : Has row m

taken_has : (row : Row) (channel : Channel) (x : Measured) (m : Taken) → on channel row ≡ x → Memᴰ m (taken (id_of row) channel x) → Has row m
taken_has row channel None m e mem = absurd (Memᴰ.not-nil mem)
taken_has row channel (Some d) m e mem =
    came (Memᴰ.cases_cons mem) (λ q. subst (Has row) (sym q) (record { id = refl; there = e })) (λ none. absurd (Memᴰ.not-nil none))

pub members : (rows : List Row) (m : Taken) → Memᴰ m (stands_for rows) → HasOne rows m
unfolding stands_for
members [] m mem = absurd (Memᴰ.not-nil mem)
members (row ∷ rows) m mem =
    came (Memᴰ.append_cases (taken (id_of row) A row.on_a) mem)
    (λ on_a. here (taken_has row A row.on_a m refl on_a))
    (λ other.
    came (Memᴰ.append_cases (taken (id_of row) B row.on_b) other)
    (λ on_b. here (taken_has row B row.on_b m refl on_b))
    (λ later.
    let h = members rows m later in
    record { row = h.row; among = Memᴰ.tail h.among; has = h.has }))
  where
    here : Has row m → HasOne (row ∷ rows) m
    here h = record { row = row; among = Memᴰ.head refl; has = h }

has_taken : (row : Row) (m : Taken) (channel : Channel) → m.channel ≡ channel → Has row m → Memᴰ m (taken (id_of row) channel (on channel row))
has_taken row m channel e h =
    let there : on channel row ≡ Some m.measurement = ap (λ (k : Channel). on k row) (sym e) ∙ h.there in
    subst (λ (x : Measured). Memᴰ m (taken (id_of row) channel x)) (sym there)
    (Memᴰ.head (λ i. record { id = h.id i; channel = e i; measurement = m.measurement }))

-- and what a row has is a measurement of the rows
pub has_member : (rows : List Row) (row : Row) (m : Taken) → Memᴰ row rows → Has row m → Memᴰ m (stands_for rows)
unfolding stands_for
has_member [] row m mem h = absurd (Memᴰ.not-nil mem)
has_member (first ∷ rows) row m mem h =
    came (Memᴰ.cases_cons mem)
    (λ q. here m.channel refl (subst (λ (r : Row). Has r m) q h))
    (λ later.
    Memᴰ.append_right (taken (id_of first) A first.on_a) (Memᴰ.append_right (taken (id_of first) B first.on_b) (has_member rows row m later h)))
  where
    here : (channel : Channel) → m.channel ≡ channel → Has first m
        → Memᴰ m (taken (id_of first) A first.on_a ++ (taken (id_of first) B first.on_b ++ stands_for rows))
    here A e k = Memᴰ.append_left (taken (id_of first) B first.on_b ++ stands_for rows) (has_taken first m A e k)
    here B e k = Memᴰ.append_right (taken (id_of first) A first.on_a) (Memᴰ.append_left (stands_for rows) (has_taken first m B e k))

-- ---- IDs

pub among_member : (rows : List Row) (id : ℕ) → is_among id (ids_of rows) ≡ true → (row : Row) × Memᴰ row rows × (id_of row ≡ id)
unfolding is_among
among_member [] id e = absurd (false≢true e)
among_member (row ∷ rows) id e =
    came (either_true (eqb (id_of row) id) (is_among id (ids_of rows)) e)
    (λ q. (row, Memᴰ.head refl, eqb-true (id_of row) id q))
    (λ q.
    let h = among_member rows id q in
    (h.0, Memᴰ.tail h.1, h.2))

pub member_among : (rows : List Row) (row : Row) → Memᴰ row rows → is_among (id_of row) (ids_of rows) ≡ true
unfolding is_among
member_among [] row mem = absurd (Memᴰ.not-nil mem)
member_among (first ∷ rows) row mem =
    let here = eqb (id_of first) (id_of row) in
    let later = is_among (id_of row) (ids_of rows) in
    came (Memᴰ.cases_cons mem)
    (λ q. true_left here later (eq-eqb (id_of first) (id_of row) (ap id_of (sym q))))
    (λ m. true_right here later (member_among rows row m))
