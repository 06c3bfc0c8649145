-- From the contract of listening alone.
use Rattle.std.proofs.Common.{ℕ, List, sym, ap, subst, eq-eqb}
use Rattle.wire_reader.specs.declared.listening.Listened.{Listened}
use Rattle.wire_reader.specs.Listening.{ListenSays}
use Rattle.reader_claims.proofs.Answers.{listen_one, levels_alone}
use Rattle.reader_claims.proofs.heard_alike.Goals as goal

pub returns : goal.returns
returns c levels same =
    let a = c.args in
    let as-other = levels_alone a.reader a.samples.now a.others.now a.first.now _ c.listen-heard.result levels c.listen-heard.ensures in
    let both = listen_one a.reader a.others.now a.first.now _ _ c.listen-heard.result c.listen-other.result as-other
    (subst (λ (x : List ℕ). ListenSays a.reader a.others.now x c.listen-other.new.memory c.listen-other.result) (sym same) c.listen-other.ensures) in
    (eq-eqb _ _ (ap (λ (x : Listened). x.taken) both.0), both.1)
