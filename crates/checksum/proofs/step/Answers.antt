-- `step` meets its contract: the law of the table for one bit, at 11 bits of 32. The table has two entries, 0 and the polynomial.
use Prim.Native.Nat.{ℕ, ◌*◌, ◌/◌, ◌%◌, ◌^◌, ◌<◌}
use mathlib.Core.Path.{◌≡◌, refl, sym, ◌∙◌, ap}
use mathlib.Core.List.{[], ◌∷◌}
use native.Mathlib.Omega.{arith}
use lib.Bits.{bit_xor, xor_zero_r, xor_self}
use Rattle.division.specs.Bits.{odd, bits, number}
use Rattle.division.specs.Division.{exor, only_if, step, feed, checksum}
use Rattle.division.proofs.TurnLaws.{fed}
use Rattle.division.proofs.MachineLaws.{unlike, cut}
use Rattle.division.proofs.TableLaws.{look_up_bit}
use Rattle.checksum.specs.Checksums.{header_polynomial}
use Rattle.checksum.proofs.step.Goals as goal

-- looked up is what the register's top bit and the next one make together
stepped : (s n x found : ℕ) → bit_xor (s / 2 ^ 10) n ≡ x → checksum 11 header_polynomial 0 (odd x ∷ []) ≡ found
    → bit_xor (s * 2 % 2 ^ 11) found ≡ checksum 11 header_polynomial s (odd n ∷ [])
stepped s n x found e entry =
    ap (bit_xor (s * 2 % 2 ^ 11)) (sym entry ∙ ap (λ (y : ℕ). checksum 11 header_polynomial 0 (odd y ∷ [])) (sym e))
    ∙ sym (look_up_bit 10 header_polynomial s n)

-- the two entries
entry-0 : checksum 11 header_polynomial 0 (odd 0 ∷ []) ≡ 0
unfolding checksum feed step bits exor only_if number
entry-0 = refl

entry-1 : checksum 11 header_polynomial 0 (odd 1 ∷ []) ≡ header_polynomial
unfolding checksum feed step bits exor only_if number
entry-1 = refl

pub returns-then-top-next : goal.returns-then-top-next
returns-then-top-next c =
    let a = c.args in
    let s = a.register in
    let same : s / 2 ^ 10 ≡ a.next = omega (arith, c.if-top-next.true) in
    let none : bit_xor (s / 2 ^ 10) a.next ≡ 0 = ap (λ (t : ℕ). bit_xor t a.next) same ∙ xor_self a.next in
    fed 11 header_polynomial s _ (odd a.next ∷ [])
    (cut 21 11 (s * 2) ∙ sym (xor_zero_r (s * 2 % 2 ^ 11)) ∙ stepped s a.next 0 0 none entry-0)

pub returns-else-top-next : goal.returns-else-top-next
returns-else-top-next c =
    let a = c.args in
    let s = a.register in
    let p = c.requires in
    let small : s / 2 ^ 10 < 2 = omega (arith, p.0) in
    let other : s / 2 ^ 10 ≡ a.next → ⊥ = λ e. omega (arith, c.if-top-next.false, e) in
    fed 11 header_polynomial s _ (odd a.next ∷ [])
    (ap (λ (x : ℕ). bit_xor x header_polynomial) (cut 21 11 (s * 2))
    ∙ stepped s a.next 1 header_polynomial (unlike (s / 2 ^ 10) a.next small p.1 other) entry-1)
