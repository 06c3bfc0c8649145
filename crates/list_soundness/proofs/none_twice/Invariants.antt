-- `none_twice` meets its contract: no ID stands twice so far.
use lib.ListN.{take}
use Rattle.list_soundness.proofs.SoundLaws.{OnceSoFar}
use Rattle.list_soundness.proofs.none_twice.Given as goal

abbrev pub invariant-loop-i : goal.invariant-loop-i
invariant-loop-i l = OnceSoFar l.highest (take l.i l.rows)
