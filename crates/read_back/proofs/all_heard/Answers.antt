-- From the contracts of the calls alone.
use Rattle.read_back.proofs.Heard.{all_heard}
use Rattle.read_back.proofs.all_heard.Goals as goal

pub returns : goal.returns
returns c =
    all_heard c.args.channel c.args.samples.now c.args.memory.now _ c.open_reader-opened.result c.play.result c.open_reader-opened.ensures c.play.ensures
