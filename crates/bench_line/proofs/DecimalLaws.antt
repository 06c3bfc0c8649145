-- The digits that the kit's library spells are those of the rule.
use Prim.Native.Nat.{ℕ, suc, ◌^◌, ◌<◌}
use mathlib.Core.Path.{◌≡◌, sym}
use native.Mathlib.Omega.{arith}
use borrow.Author.Tests.{lt-ltb, le-ltb}
use Rattle.std.specs.Fmt as fmt
use Rattle.std.proofs.lemmas.Fmt.{AppendsLastDigit, decimal_from_appends, length-decimal-le_succ}
use Rattle.bench_line.specs.Decimal.{decimal_within, decimal}

appends : AppendsLastDigit decimal_within
unfolding decimal_within
appends = record { one = λ k n h. rw (lt-ltb n 10 h); more = λ k n h. rw (le-ltb n 10 h) }

pub decimal_spelt : (n : ℕ) → n < 2 ^ 64 → fmt.decimal n ≡ decimal n
decimal_spelt n h = sym (decimal_from_appends decimal_within appends (suc n) n h (omega (arith, length-decimal-le_succ n h)))
