-- `feed_bytes` meets its contract: one turn feeds the byte at this place.
use mathlib.Core.Path.{◌∙◌}
use native.Mathlib.Omega.{arith}
use Rattle.division.proofs.TurnLaws.{fed, turn_byte, end_bytes}
use Rattle.checksum.specs.Checksums.{frame_polynomial}
use Rattle.checksum.proofs.feed_bytes.Goals as goal

pub loop-byte-preserved : goal.loop-byte-preserved
loop-byte-preserved c =
    let l = c.loop-byte in (
      c.feed_byte-r.ensures.small,
      turn_byte 24 frame_polynomial l.r c.feed_byte-r.result c.args.bytes.now l.byte-index (omega arith) c.feed_byte-r.ensures.value ∙ l.invariant.1,
    )

pub returns : goal.returns
returns c =
    let l = c.loop-byte in
    fed 24 frame_polynomial c.args.register l.r _
    (end_bytes 24 frame_polynomial l.r c.args.bytes.now l.byte-index _ (omega arith) l.invariant.0 l.invariant.1)
