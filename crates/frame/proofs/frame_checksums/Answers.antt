-- `frame_checksums` meets its contract: three bytes make no number that does not fit.
use Rattle.frame.proofs.ReadLaws.{trailer_fits}
use Rattle.frame.proofs.frame_checksums.Goals as goal

pub overflow_cast-result : goal.overflow_cast-result
overflow_cast-result c = trailer_fits c.args.bytes.now c.number_in.result c.requires c.number_in.ensures
