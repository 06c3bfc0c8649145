-- What a program's loops over bits and bytes need: at each turn the register, with what is still to come, gives the answer.
use Prim.Native.Nat.{ℕ, suc, ◌+◌, ◌-◌, ◌/◌, ◌^◌, ◌≤◌, ◌<◌}
use mathlib.Core.Path.{◌≡◌, sym, ap, ◌∙◌}
use mathlib.Core.Bool.{Bool}
use mathlib.Core.List.{List, [], ◌∷◌}
use native.Mathlib.Nat.{mod-eq_of_lt}
use native.Mathlib.Numerals.{add-one}
use native.Mathlib.Omega.{arith}
use lib.ListN.{length, get_or, drop, drop_of_length-le}
use lib.Seq.{drop-cons}
use Rattle.division.specs.Bits.{odd, bits, bytes_bits}
use Rattle.division.specs.Division.{checksum, Fed}
use Rattle.division.proofs.RegisterLaws.{checksum_lt, checksum_nil, checksum_append}

module _ (w poly : ℕ) where
  pub fed : (s r : ℕ) (m : List Bool) → r ≡ checksum w poly s m → Fed w poly s m r
  fed s r m e = record { value = e; small = rw e (checksum_lt w poly s m) }

  -- nothing is still to come
  end_nil : (r a : ℕ) → r < 2 ^ w → checksum w poly r [] ≡ a → r ≡ a
  end_nil r a h e = sym (mod-eq_of_lt h) ∙ sym (checksum_nil w poly r) ∙ e

  -- ---- over the bits of a number, the most significant of `count` first; `fed` of them have been fed

  pub turn_bit : (r s n count fed : ℕ) → fed < count → s ≡ checksum w poly r (odd (n / 2 ^ (count - 1 - fed)) ∷ [])
      → checksum w poly s (bits (count - (fed + 1)) n) ≡ checksum w poly r (bits (count - fed) n)
  unfolding bits
  turn_bit r s n count fed h e =
      let j : ℕ = count - 1 - fed in
      let now : suc j ≡ count - fed = omega arith in
      let next : j ≡ count - (fed + 1) = omega arith in
      ap (λ (k : ℕ). checksum w poly s (bits k n)) (sym next)
      ∙ ap (λ (x : ℕ). checksum w poly x (bits j n)) e ∙ checksum_append w poly r (odd (n / 2 ^ j) ∷ []) (bits j n)
      ∙ ap (λ (k : ℕ). checksum w poly r (bits k n)) now

  pub end_bits : (r n count fed a : ℕ) → count ≤ fed → r < 2 ^ w → checksum w poly r (bits (count - fed) n) ≡ a → r ≡ a
  unfolding bits
  end_bits r n count fed a h b e =
      let z : count - fed ≡ 0 = omega arith in
      end_nil r a b (ap (λ (k : ℕ). checksum w poly r (bits k n)) (sym z) ∙ e)

  -- ---- over bytes; i of them have been fed

  pub turn_byte : (r s : ℕ) (l : List ℕ) (i : ℕ) → i < length l → s ≡ checksum w poly r (bits 8 (get_or l i 0))
      → checksum w poly s (bytes_bits (drop (i + 1) l)) ≡ checksum w poly r (bytes_bits (drop i l))
  unfolding bytes_bits
  turn_byte r s l i h e =
      rw (e, add-one, drop-cons l i 0) (checksum_append w poly r (bits 8 (get_or l i 0)) (bytes_bits (drop (suc i) l)))

  pub end_bytes : (r : ℕ) (l : List ℕ) (i a : ℕ) → length l ≤ i → r < 2 ^ w
      → checksum w poly r (bytes_bits (drop i l)) ≡ a → r ≡ a
  unfolding bytes_bits
  end_bytes r l i a h b e =
      end_nil r a b (ap (λ (x : List ℕ). checksum w poly r (bytes_bits x)) (sym (drop_of_length-le l {i = i} h)) ∙ e)
