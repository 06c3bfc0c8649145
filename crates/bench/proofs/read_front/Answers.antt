-- `read_front`: what a turn read stands behind the rest, and the reader lost just that.
use borrow.Author.Rules.{rules}
use mathlib.Core.Path.{sym, subst}
use lib.ListN.{length}
use Prim.Native.Nat.{◌-◌}
use Rattle.std.specs.Io.KnownBytes.{Consumes}
use Rattle.std.proofs.KnownBytes.{Consumes-trans}
use Rattle.bench.proofs.ReadLaws.{read_behind}
use Rattle.bench.proofs.read_front.Goals as goal

pub loop-size-preserved : goal.loop-size-preserved
loop-size-preserved g c =
    let l = c.loop-size in
    let fits = c.in_ok-read.ensures.bound.0 in
    let joined = read_behind l.size c.in_ok-read.read (length l.front - l.size) l.front c.read.new.buf l.invariant.0 fits in (
      search rules,
      search rules,
      subst (Consumes _ _) (sym joined) (Consumes-trans _ _ _ _ _ l.invariant.2 c.in_ok-read.ensures.bytes.0),
    )
