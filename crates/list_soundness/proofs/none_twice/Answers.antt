-- `none_twice` meets its contract: no ID stands twice so far.
use mathlib.Core.Path.{sym, ◌∙◌}
use lib.ListN.{take}
use Rattle.sync_list.specs.Rows.{blank}
use Rattle.list_soundness.proofs.SoundLaws.{none_passed, one_more, id_twice, among_any}
use Rattle.list_soundness.proofs.none_twice.Goals as goal
use Rattle.list_soundness.proofs.none_twice.Goals.{else-row-highest-via-then-row-highest+else-is_among, else-row-highest-via-else-row-highest}

pub loop-i-init : goal.loop-i-init
loop-i-init c = none_passed

pub returns-then-is_among : goal.returns-then-is_among
returns-then-is_among c =
    let rows = c.args.rows.now in
    let i = c.loop-i.i in
    sym (id_twice rows i (blank (record { 0 = 0 })) c.loop-i-test.true (sym (among_any _ (take i rows)) ∙ (sym c.is_among.ensures ∙ c.if-is_among.true)))

pub loop-i-preserved : goal.loop-i-preserved
loop-i-preserved c =
    let rows = c.args.rows.now in
    let i = c.loop-i.i in
    rw c.max-highest.ensures
    (one_more rows i (blank (record { 0 = 0 })) c.loop-i-test.true c.loop-i.invariant
    (elim c.else-row-highest.branch [
      | else-row-highest-via-then-row-highest+else-is_among w ↦ sym (among_any _ (take i rows)) ∙ (sym w.is_among.ensures ∙ w.if-is_among.false)
      | else-row-highest-via-else-row-highest w ↦ c.loop-i.invariant.above _ w.if-row-highest.false
    ]))
