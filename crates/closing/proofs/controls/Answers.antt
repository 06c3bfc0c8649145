-- `controls` meets its contract: where nothing is refused, each control is the one that its number names.
use borrow.Author.Rules.{rules}
use mathlib.Core.Path.{◌≡◌, sym, ap, ◌∙◌}
use mathlib.Core.Bool.{Bool, true, not, ◌||◌}
use lib.IntN.{ℤ}
use Rattle.std.specs.Prelude.{Ok, is_some}
use Rattle.refusal.specs.Refusal.{first}
use Rattle.refusal.proofs.FirstLaws.{◌then◌, passed, first_none_left}
use Rattle.correction.specs.declared.external.Control.{Control}
use Rattle.correction.specs.External.{not_a_control, control_named}
use Rattle.correction.proofs.ControlLaws.{named_sign, named_control}
use Rattle.clock.specs.declared.state.Clock.{Clock}
use Rattle.clock.specs.Sound.{sound}
use Rattle.closing.specs.Closing.{closing_refusals}
use Rattle.closing.proofs.controls.Goals as goal

accepted : (clock : Clock) (n m : ℤ) (offset rate : Control) → sound clock ≡ true → is_some clock.opened ≡ true
    → control_named n ≡ Ok offset → control_named m ≡ Ok rate → first (closing_refusals clock n m) ≡ 0
accepted clock n m offset rate s o p q =
    first_none_left (passed (ap not s) then ap not o then ap (λ (b : Bool). b || not_a_control m) (named_control n offset p) ∙ named_control m rate q)

pub returns : goal.returns
returns c =
    let n = c.args.offset_control in
    let m = c.args.rate_control in
    let offset = c.in_ok-offset.offset in
    let rate = c.in_ok-rate.rate in
    let p : control_named n ≡ Ok offset = search rules in
    let q : control_named m ≡ Ok rate = search rules in
    let s : sound c.args.clock ≡ true = sym c.is_sound.ensures ∙ c.if-not-is_sound.false in
    let o : is_some c.args.clock.opened ≡ true = c.is_none.ensures ∙ ap not c.if-is_none.false in (
      s,
      accepted c.args.clock n m offset rate s o p q,
      named_sign n offset p,
      named_sign m rate q,
    )
