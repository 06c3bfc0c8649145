-- `checksums_heard` tells two checksums that differ, or none.
use Rattle.std.proofs.Common.{sym, ap, subst}
use Rattle.wire_reader.specs.Listening.{told_by}
use Rattle.reader_claims.specs.Checksums.{ErrorTold}
use Rattle.reader_claims.proofs.Checksums.{errors_told}
use Rattle.reader_claims.proofs.checksums_heard.Goals as goal

pub returns : goal.returns
returns c =
    subst ErrorTold (sym (ap told_by c.unwrap_or.ensures))
    (errors_told c.args.reader c.args.samples.now c.args.memory.now _ c.listen.result c.listen.ensures)
