-- Bytes laid over the first of others.
use Prim.Native.Nat.{ℕ, ◌-◌, ◌≤◌}
use mathlib.Core.Path.{◌≡◌, sym, ap, ap₂, ◌∙◌}
use mathlib.Core.List.{List, [], ◌++◌, append_assoc, append-nil}
use native.Mathlib.Omega.{arith}
use lib.ListN.{length, take, drop, length-append, length-drop, drop_of_length-le}
use lib.Seq.{drop-drop, take_at, drop_at, take_all}
use borrow.Rule.Slice.PartMut.{post_of, put_mid}
use Rattle.lent_bytes.specs.Over.{over}

-- what lies over, and what lies behind it
pub take-over : (bytes out : List ℕ) (n : ℕ) → length bytes ≡ n → take n (over bytes out) ≡ bytes
unfolding over
take-over bytes out n e = take_at bytes (drop (length bytes) out) n e

pub drop-over : (bytes out : List ℕ) (n : ℕ) → length bytes ≡ n → drop n (over bytes out) ≡ drop n out
unfolding over
drop-over bytes out n e = drop_at bytes (drop (length bytes) out) n e ∙ ap (λ (k : ℕ). drop k out) e

-- bytes laid behind others are laid together
pub over_behind : (bytes more out : List ℕ) (n : ℕ) → length bytes ≡ n
    → take n (over bytes out) ++ over more (drop n (over bytes out)) ≡ over (bytes ++ more) out
unfolding over
over_behind bytes more out n e =
    ap₂ (λ (x y : List ℕ). x ++ (more ++ drop (length more) y)) (take_at bytes (drop (length bytes) out) n e) (drop_at bytes (drop (length bytes) out) n e)
    ∙ sym (append_assoc bytes more (drop (length more) (drop (length bytes) out)))
    ∙ ap (λ (x : List ℕ). (bytes ++ more) ++ x)
    (drop-drop (length more) (length bytes) out ∙ ap (λ (k : ℕ). drop k out) (sym (length-append bytes more)))

pub length_over : (bytes out : List ℕ) → length bytes ≤ length out → length (over bytes out) ≡ length out
unfolding over
length_over bytes out h = length-append bytes (drop (length bytes) out) ∙ rw (length-drop (length bytes) out) (omega arith)

-- the end of a slice is lent, and comes back with bytes laid over it
pub lent_end : (a : ℕ) (l bytes end : List ℕ) → end ≡ over bytes (take (length l - a) (drop a l))
    → put_mid a (length l - a) l end ≡ take a l ++ over bytes (drop a l)
lent_end a l bytes end e =
    let all : take (length l - a) (drop a l) ≡ drop a l = take_all (length l - a) (drop a l) (omega (arith, length-drop a l)) in
    let none : post_of a (length l - a) l ≡ [] = drop_of_length-le (drop a l) {i = length l - a} (omega (arith, length-drop a l)) in
    ap₂ (λ (x y : List ℕ). take a l ++ (x ++ y)) (e ∙ ap (over bytes) all) none
    ∙ ap (λ (x : List ℕ). take a l ++ x) (append-nil (over bytes (drop a l)))

-- the front is lent, and comes back with bytes that fill it
pub lent_front : (n : ℕ) (l bytes front : List ℕ) → n ≡ length bytes → front ≡ bytes → put_mid 0 n l front ≡ over bytes l
unfolding over
lent_front n l bytes front e f = ap₂ (λ (x : List ℕ) (k : ℕ). x ++ drop k l) f e
