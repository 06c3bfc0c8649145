-- `push_number` meets its contract: a space, then the digits that the kit spells.
use borrow.Author.Rules.{rules}
use mathlib.Core.Path.{ap₂, ◌∙◌}
use mathlib.Core.List.{[], ◌∷◌, ◌++◌, append_assoc}
use Rattle.bench_line.specs.Decimal.{decimal}
use Rattle.bench_line.proofs.DecimalLaws.{decimal_spelt}
use Rattle.bench_line.proofs.push_number.Goals as goal

pub returns-clause-bytes : goal.returns-clause-bytes
returns-clause-bytes c =
    let n = c.args.number in
    c.push_str-2.ensures.bytes
    ∙ ap₂ ◌++◌ c.push_str.ensures.bytes (c.format.ensures.text ∙ decimal_spelt n (search rules))
    ∙ append_assoc c.args.line.now.bytes (32 ∷ []) (decimal n)
