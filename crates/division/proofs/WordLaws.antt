-- A word that ends in its own checksum brings the register to zero.
use Prim.Native.Nat.{ℕ, suc}
use mathlib.Core.Path.{◌≡◌, sym, ap, ◌∙◌}
use mathlib.Core.Bool.{Bool, false}
use mathlib.Core.List.{List, [], ◌∷◌, ◌++◌, append_assoc, append-nil}
use native.Mathlib.Numerals.{add-one}
use lib.ListN.{length, replicate, replicate-append-replicate}
use Rattle.division.specs.Bits.{bits}
use Rattle.division.specs.Division.{exor, only_if, step, feed, checksum}
use Rattle.division.specs.Word.{word, EndsInChecksum}
use Rattle.division.proofs.ExorLaws.{xor_same, exor_zeros, only_if_false, zeros, length-zeros}
use Rattle.division.proofs.RegisterLaws.{length-shifted, length-fed, feed_append, bits_checksum}

pub zeros_shifted : (t : List Bool) (k : ℕ) → (t ++ zeros k) ++ (false ∷ []) ≡ t ++ zeros (suc k)
unfolding zeros
zeros_shifted t k =
    append_assoc t (replicate k false) (false ∷ [])
    ∙ ap (λ (l : List Bool). t ++ l) (replicate-append-replicate k 1 false ∙ ap (λ (n : ℕ). replicate n false) (add-one k))

-- where the polynomial is not taken in, the register is only shifted
pub exor_only_if_false : (x p : List Bool) → length x ≡ length p → exor x (only_if false p) ≡ x
exor_only_if_false x p e = ap (exor x) (only_if_false p ∙ ap zeros (sym e)) ∙ exor_zeros x

-- a register that is fed its own bits runs empty
pub feed_own : (p t : List Bool) (k : ℕ) → length (t ++ zeros k) ≡ length p → feed p (t ++ zeros k) t ≡ zeros (length p)
unfolding feed step
feed_own p [] k e = ap zeros (sym (length-zeros k) ∙ e)
feed_own p (h ∷ t) k e =
    let l : List Bool = (t ++ zeros k) ++ (false ∷ []) in
    let n : length l ≡ length p = length-shifted (t ++ zeros k) ∙ e in
    ap (λ (r : List Bool). feed p r t)
    (ap (λ (f : Bool). exor l (only_if f p)) (xor_same h) ∙ exor_only_if_false l p n ∙ zeros_shifted t k)
    ∙ feed_own p t (suc k) (ap length (sym (zeros_shifted t k)) ∙ n)

pub feed_word : (w poly s : ℕ) (x : List Bool) → EndsInChecksum w poly s x
    → feed (bits w poly) (bits w s) x ≡ zeros (length (bits w poly))
unfolding word zeros
feed_word w poly s x (m, e) =
    let p : List Bool = bits w poly in
    let r : List Bool = feed p (bits w s) m in
    ap (feed p (bits w s)) e ∙ feed_append p (bits w s) m (bits w (checksum w poly s m)) ∙ ap (feed p r) (bits_checksum w poly s m)
    ∙ ap (λ (l : List Bool). feed p l r) (sym (append-nil r))
    ∙ feed_own p r 0 (ap length (append-nil r) ∙ length-fed w poly s m)
