-- `has_room` meets its contract: no line is longer than the longest.
use mathlib.Core.Path.{refl}
use lib.ListN.{replicate}
use Rattle.bench_line.specs.Line.{longest}
use Rattle.bench_claims.proofs.Witnesses.{room_for_any}
use Rattle.bench_claims.proofs.has_room.Goals as goal

pub returns : goal.returns
returns c = room_for_any c.args.input.now (replicate longest 0) c.line.new.output c.line.result refl c.line.ensures.line_says
