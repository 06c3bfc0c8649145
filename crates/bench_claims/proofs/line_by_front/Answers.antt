-- `line_by_front` meets its contract: what lies behind the front changes no line.
use Rattle.bench_claims.proofs.Witnesses.{says_by_front}
use Rattle.bench_claims.proofs.line_by_front.Goals as goal

pub returns : goal.returns
returns c = says_by_front c.args.input.now c.args.output.now c.line-2.new.output c.line-2.result c.line-2.ensures.line_says
