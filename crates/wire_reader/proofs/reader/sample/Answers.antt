-- `sample` meets its contract: the rule's step, and a sound reader after it.
use mathlib.Core.Path.{◌≡◌, refl, sym, ap, ◌∙◌}
use mathlib.Core.Bool.{true, cond}
use Prim.Native.Nat.{ℕ}
use native.Mathlib.Omega.{arith}
use Rattle.bit_clock.specs.Clock.{strobes}
use Rattle.wire_reader.specs.declared.reader.Reader.{Reader}
use Rattle.wire_reader.specs.Decoder.{Decoded, is_data}
use Rattle.wire_reader.specs.Reader.{is_idle, ticked, strobed, step, state_of}
use Rattle.wire_reader.specs.Pending.{step_by}
use Rattle.wire_reader.specs.Sound.{slack_of, sound}
use Rattle.wire_reader.proofs.StepLaws.{kept_step, strobed_step}
use Rattle.wire_reader.proofs.PhaseLaws.{room_for, since_small}
use Rattle.wire_reader.proofs.SoundLaws.{slack_le, next_reader, phase_fine, kept-sound, strobed-sound}
use Rattle.wire_reader.proofs.reader.sample.Goals as goal
use Rattle.wire_reader.proofs.reader.sample.Goals.{After-decode-d}

pub counted-since-requires : goal.counted-since-requires
counted-since-requires c =
    let r = c.args.reader in
    let small = since_small r.phase r.count r.since (slack_of r.clock) (slack_le r.clock) (phase_fine r c.requires.0) in
    omega arith

pub decode-d-requires : goal.decode-d-requires
decode-d-requires c =
    let r = c.args.reader in
    (c.requires.1, room_for r.phase r.count r.since (slack_of r.clock) (phase_fine r c.requires.0))

-- ---- without a strobe

pub returns-then-not-strobes-clause-memory_after : goal.returns-then-not-strobes-clause-memory_after
returns-then-not-strobes-clause-memory_after c =
    let r = c.args.reader in
    rw (c.counted-since.ensures, c.ticked-timer.ensures, c.after-next.ensures, c.is_data.ensures)
    (kept_step r.channel (state_of r c.args.memory.now) c.args.high c.vote-v.result c.vote-v.ensures (sym c.strobes.ensures ∙ c.if-not-strobes.true))

pub returns-then-not-strobes-clause-reader_value : goal.returns-then-not-strobes-clause-reader_value
returns-then-not-strobes-clause-reader_value c =
    let r = c.args.reader in
    rw (c.counted-since.ensures, c.ticked-timer.ensures, c.after-next.ensures, c.is_data.ensures)
    (kept-sound r c.requires.0 (is_data r.phase) c.args.high c.vote-v.result c.args.memory.now (sym c.strobes.ensures ∙ c.if-not-strobes.true))

-- ---- with one

-- what the reader is and tells, with the timer as it is then
module _ (c : After-decode-d) (timer : ℕ) where
  abbrev behind : Reader
  behind =
      let d = c.decode-d.result in
      record { channel = c.args.reader.channel; clock = c.after-next.result; timer = timer; phase = d.phase; count = d.bytes.count; since = d.bytes.since }

  module _ (fired : strobes c.args.reader.clock c.vote-v.result ≡ true) (e : timer ≡ cond c.vote-v.result c.ticked-timer.result 0) where
    steps : step_by (record { reader = behind; event = c.decode-d.result.event }) c.decode-d.new.memory
        ≡ step c.args.reader.channel (state_of c.args.reader c.args.memory.now) c.args.high
    steps =
        let r = c.args.reader in
        ap (strobed c.after-next.result timer) c.decode-d.ensures
        ∙ rw (e, c.counted-since.ensures, c.ticked-timer.ensures, c.after-next.ensures, c.is_data.ensures)
        (strobed_step r.channel (state_of r c.args.memory.now) c.args.high c.vote-v.result c.vote-v.ensures fired)

    stays : sound behind ≡ true
    stays =
        let r = c.args.reader in
        ap (λ (d : Decoded). sound (next_reader r.channel c.after-next.result timer d.place)) c.decode-d.ensures
        ∙ rw (e, c.counted-since.ensures, c.ticked-timer.ensures, c.after-next.ensures, c.is_data.ensures)
        (strobed-sound r c.requires.0 (is_data r.phase) c.args.high c.vote-v.result r.channel (is_idle (ticked r.clock r.timer)) c.args.memory.now c.requires.1 fired)

pub returns-then-v-clause-memory_after : goal.returns-then-v-clause-memory_after
returns-then-v-clause-memory_after c =
    steps (goal.at.returns-then-v-clause-memory_after c).After-decode-d c.ticked-timer.result (sym c.strobes.ensures ∙ c.if-not-strobes.false) (rw c.if-v.true refl)

pub returns-then-v-clause-reader_value : goal.returns-then-v-clause-reader_value
returns-then-v-clause-reader_value c =
    stays (goal.at.returns-then-v-clause-reader_value c).After-decode-d c.ticked-timer.result (sym c.strobes.ensures ∙ c.if-not-strobes.false) (rw c.if-v.true refl)

pub returns-else-v-clause-memory_after : goal.returns-else-v-clause-memory_after
returns-else-v-clause-memory_after c =
    steps (goal.at.returns-else-v-clause-memory_after c).After-decode-d 0 (sym c.strobes.ensures ∙ c.if-not-strobes.false) (rw c.if-v.false refl)

pub returns-else-v-clause-reader_value : goal.returns-else-v-clause-reader_value
returns-else-v-clause-reader_value c =
    stays (goal.at.returns-else-v-clause-reader_value c).After-decode-d 0 (sym c.strobes.ensures ∙ c.if-not-strobes.false) (rw c.if-v.false refl)
