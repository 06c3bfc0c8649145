-- `lay` meets its contract: one of the zeros makes room for the value.
use borrow.Author.Rules.{rules}
use mir.Syntax.{w32}
use mir.Val.{SFits}
use mir.Facts.{to_z-of_z}
use Rattle.list_values.proofs.ValueLaws.{laid}
use Rattle.list_values.proofs.lay.Goals as goal

pub returns-in-Some : goal.returns-in-Some
returns-in-Some c =
    let x = c.in-Some.x.0 in
    let fits : SFits w32 x = search rules in
    rw (c.in-Some.is, to_z-of_z fits) (laid c.args.values.now x c.requires.room c.requires.zeros)
