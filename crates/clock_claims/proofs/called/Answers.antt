-- `called` meets its contract: one call of a sequence, by its kind.
use borrow.Author.Rules.{rules}
use Prim.Native.Nat.{◌%◌}
use mathlib.Core.Path.{refl}
use borrow.Author.Tests.{eq-eqb, ne_eqb}
use mir.Syntax.{w32}
use mir.Val.{SFits}
use mir.Facts.{to_z-of_z}
use Rattle.clock.specs.Loading as loading
use Rattle.clock.specs.Opening as opening
use Rattle.measuring.specs.Measuring as measuring
use Rattle.closing.specs.Closing as closing
use Rattle.clock_claims.specs.History.{loaded, opened, measured, closed}
use Rattle.clock_claims.proofs.called.Goals as goal

pub returns-in-0 : goal.returns-in-0
returns-in-0 c =
    let r = c.load in
    rw (eq-eqb (c.args.number % 8) 0 c.in-0.is) (loaded (loading.told r.result.answer), (r.result, r.ensures, refl, refl))

pub returns-in-1 : goal.returns-in-1
returns-in-1 c =
    let kind = c.args.number % 8 in
    let r = c.load-in-1 in
    rw (ne_eqb kind 0 (search rules), eq-eqb kind 1 c.in-1.is) (loaded (loading.told r.result.answer), (r.result, r.ensures, refl, refl))

pub returns-in-2 : goal.returns-in-2
returns-in-2 c =
    let kind = c.args.number % 8 in
    let r = c.open_cycle in
    rw (ne_eqb kind 0 (search rules), ne_eqb kind 1 (search rules), eq-eqb kind 2 c.in-2.is) (opened (opening.told r.result.answer), (r.result, r.ensures, refl, refl))

pub returns-in-3 : goal.returns-in-3
returns-in-3 c =
    let kind = c.args.number % 8 in
    let r = c.measure in
    rw (ne_eqb kind 0 (search rules), ne_eqb kind 1 (search rules), ne_eqb kind 2 (search rules), eq-eqb kind 3 c.in-3.is)
    (measured (measuring.told r.result.answer), (r.result, r.ensures, refl, refl))

pub returns-in-4 : goal.returns-in-4
returns-in-4 c =
    let kind = c.args.number % 8 in
    let r = c.measure-in-4 in
    rw (ne_eqb kind 0 (search rules), ne_eqb kind 1 (search rules), ne_eqb kind 2 (search rules), ne_eqb kind 3 (search rules), eq-eqb kind 4 c.in-4.is)
    (measured (measuring.told r.result.answer), (r.result, r.ensures, refl, refl))

pub returns-in_default : goal.returns-in_default
returns-in_default c =
    let kind = c.args.number % 8 in
    let x = c.control_of in
    let y = c.control_of-in_default in
    let fx : SFits w32 x.result = search rules in
    let fy : SFits w32 y.result = search rules in
    let says = rw (to_z-of_z fx, to_z-of_z fy, x.ensures, y.ensures) at c.close_cycle.ensures in
    rw (ne_eqb kind 0 (search rules), ne_eqb kind 1 (search rules), ne_eqb kind 2 (search rules), ne_eqb kind 3 (search rules), ne_eqb kind 4 (search rules))
    (closed (closing.told c.close_cycle.result.answer), (c.close_cycle.result, says, refl, refl))
