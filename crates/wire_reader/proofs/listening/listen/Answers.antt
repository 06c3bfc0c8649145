-- The two tests in their order, each by an early return; behind them a piece is taken.
use borrow.Author.Rules.{rules}
use borrow.Author.Tests.{lt-ltb, le-ltb}
use mathlib.Core.Path.{◌≡◌, refl, sym, ap, ◌∙◌}
use mathlib.Core.Bool.{true, not}
use Rattle.refusal.proofs.FirstLaws.{start, ◌then◌, passed, first_at, first_none_left}
use Rattle.std.specs.Prelude.{Err}
use Rattle.wire_reader.specs.declared.listening.ListenRefusal.TheVariants.{NotSound, MemoryTooShort}
use Rattle.wire_reader.specs.Sound.{sound}
use Rattle.wire_reader.proofs.ListenLaws.{listen_refused, listen_accepted}
use Rattle.wire_reader.proofs.listening.listen.Goals as goal

pub returns-then-is_not_sound : goal.returns-then-is_not_sound
returns-then-is_not_sound c =
    listen_refused c.args.reader c.args.samples.now c.args.memory.now 22 (Err NotSound) _
    (first_at start (ap not (sym c.is_sound-is_not_sound.ensures ∙ c.if-is_not_sound.true))) refl (search rules)

pub returns-then-is_too_short : goal.returns-then-is_too_short
returns-then-is_too_short c =
    let is_sound : sound c.args.reader ≡ true = cc in
    listen_refused c.args.reader c.args.samples.now c.args.memory.now 35 (Err MemoryTooShort) _
    (first_at (passed (ap not is_sound)) (lt-ltb _ _ c.if-is_too_short.true)) refl (search rules)

pub returns : goal.returns
returns c =
    let is_sound : sound c.args.reader ≡ true = cc in
    listen_accepted c.args.reader c.args.samples.now c.args.memory.now _ c.take.result
    (first_none_left (passed (ap not is_sound) then le-ltb _ _ c.if-is_too_short.false)) c.take.ensures
