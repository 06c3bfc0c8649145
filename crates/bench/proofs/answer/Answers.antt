-- `answer` meets its contract: the line of what was read is that of the whole input, and there is room for it.
use borrow.Author.Rules.{rules}
use mathlib.Core.Path.{subst}
use native.Mathlib.Nat.{sub-zero}
use Prim.Native.Nat.{ℕ}
use lib.ListN.{take}
use Rattle.bench_line.specs.Line.{LineSays}
use Rattle.bench.proofs.AnswerLaws.{answers}
use Rattle.bench.proofs.answer.Goals as goal
use Rattle.bench.proofs.answer.Goals.{Start}

pub returns : goal.returns
returns c =
    let line = c.line in
    let s : Start = search rules in
    let front = s.args.front.now in
    let before = s.args.line.now in
    let says : LineSays (take s.args.size front) before line.new.output line.result =
    subst (λ (n : ℕ). LineSays (take n front) before line.new.output line.result) (sub-zero s.args.size) line.ensures.line_says in
    record { answers = answers (take s.args.size front) before line.new.output line.result s.requires.2 says; upper_bound = line.ensures.upper_bound }
