-- `take` meets its contract: a piece, sample after sample.
use borrow.Author.Rules.{rules}
use mathlib.Core.Path.{◌≡◌, refl, sym, ap, ◌∙◌}
use Prim.Native.Nat.{◌+◌}
use native.Mathlib.Omega.{arith}
use lib.ListN.{length, get_or}
use Rattle.base_types.specs.declared.channel.Channel.{Channel}
use Rattle.std.specs.Prelude.{None}
use Rattle.wire_reader.specs.Reader.{step, state_of}
use Rattle.wire_reader.specs.Listening.{is_high, told_by, heard}
use Rattle.wire_reader.proofs.PieceLaws.{added_none, told_some, told_none, turn_on, turn_end, none_left, take-says}
use Rattle.wire_reader.proofs.listening.take.Goals as goal
use Rattle.wire_reader.proofs.listening.take.Goals.{After-sample-s}

pub loop-i-init : goal.loop-i-init
loop-i-init c = (omega arith, refl, search rules, refl, added_none _)

-- the sample that was taken is the rule's next step, on the channel that was handed in
stepped : (c : After-sample-s) → let l = c.loop-i in
    record { state = state_of c.sample-s.result.reader c.sample-s.new.memory; told = told_by c.sample-s.result.event }
    ≡ step c.args.reader.channel (state_of l.state l.memory) (is_high (get_or c.args.samples.now l.i 0))
stepped c =
    let l = c.loop-i in
    c.sample-s.ensures.memory_after
    ∙ ap (λ (k : Channel). step k (state_of l.state l.memory) (is_high (get_or c.args.samples.now l.i 0))) l.invariant.3

same_channel_lem : (c : After-sample-s) → c.sample-s.result.reader.channel ≡ c.args.reader.channel
same_channel_lem c = c.sample-s.ensures.channel_value ∙ c.loop-i.invariant.3

pub returns-then-is_some : goal.returns-then-is_some
returns-then-is_some c =
    let e = (goal.at.returns-then-is_some c).After-sample-s in
    let l = c.loop-i in
    let m = c.sample-s.new.memory in
    let r = c.sample-s.result in
    take-says c.args.reader.channel r.reader m r.event (l.i + 1) (heard c.args.reader c.args.samples.now c.args.memory.now)
    c.heard.result c.heard.ensures
    (turn_end c.args.reader.channel (state_of l.state l.memory) (state_of r.reader m) c.args.samples.now l.i (told_by r.event)
    (omega arith) (stepped e) (told_some r.event (sym c.is_some.ensures ∙ c.if-is_some.true))
    ∙ l.invariant.4)
    (same_channel_lem e)

pub loop-i-preserved : goal.loop-i-preserved
loop-i-preserved c =
    let e = (goal.at.loop-i-preserved c).After-sample-s in
    let l = c.loop-i in
    let m = c.sample-s.new.memory in
    let r = c.sample-s.result in (
      omega arith,
      search rules,
      c.sample-s.ensures.reader_value,
      same_channel_lem e,
      turn_on c.args.reader.channel (state_of l.state l.memory) (state_of r.reader m) c.args.samples.now l.i (told_by r.event)
          (omega arith) (stepped e) (told_none r.event (sym c.is_some.ensures ∙ c.if-is_some.false))
          ∙ l.invariant.4,
    )

pub returns : goal.returns
returns c =
    let l = c.loop-i in
    take-says c.args.reader.channel l.state l.memory None (length c.args.samples.now) (heard c.args.reader c.args.samples.now c.args.memory.now)
    c.heard-2.result c.heard-2.ensures
    (none_left c.args.reader.channel (state_of l.state l.memory) c.args.samples.now l.i (omega arith) ∙ l.invariant.4)
    l.invariant.3
