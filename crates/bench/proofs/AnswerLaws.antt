-- What stands in the line after a call of `bench_line::line` is the line of every input with that front.
use Prim.Native.Nat.{ℕ}
use mathlib.Core.Path.{◌≡◌, sym, ap, ◌∙◌}
use mathlib.Core.List.{List}
use lib.ListN.{length, take}
use Rattle.lent_bytes.proofs.OverLaws.{take-over}
use Rattle.bench_line.specs.Line.{longest, line_of, LineSays}
use Rattle.bench_claims.proofs.Line.{front_decides}
use Rattle.bench_claims.proofs.Witnesses.{taken_whole}
use Rattle.bench.specs.Program.{Answers}

pub answers : (read before after : List ℕ) (size : ℕ) → length before ≡ longest → LineSays read before after size → Answers read (take size after)
answers read before after size long s input e =
    let whole = taken_whole read before after size long s in
    ap (take size) whole.1
    ∙ take-over (line_of read) before size (sym whole.0)
    ∙ ap line_of (sym e)
    ∙ front_decides input
