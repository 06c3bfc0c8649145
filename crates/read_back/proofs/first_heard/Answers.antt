-- From the contracts of the calls alone.
use Rattle.read_back.proofs.Heard.{first_heard}
use Rattle.read_back.proofs.first_heard.Goals as goal

pub returns : goal.returns
returns c =
    first_heard c.args.channel c.args.samples.now c.args.memory.now _ c.open_reader-opened.result c.listen.result c.open_reader-opened.ensures c.listen.ensures
