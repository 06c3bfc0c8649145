-- `rate_found` meets its contract: in an odd cycle the term over both lists, where nothing is cut.
use mathlib.Core.Path.{◌≡◌, sym, ap, ◌∙◌}
use Rattle.base_types.specs.Microtick.{held}
use Rattle.base_types.specs.Cycle.{is_odd}
use Rattle.settings.specs.Sheet.{drift_damping, rate_limit}
use Rattle.correction.specs.Terms.{rate_term_by}
use Rattle.sync_list.specs.Lists.{listed}
use Rattle.list_values.specs.Values.{rate_values_by}
use Rattle.closing.proofs.RangeLaws.{rate_is_whole}
use Rattle.closing.proofs.rate_found.Goals as goal

pub returns : goal.returns
returns c =
    let k = c.args.clock in
    let odd = sym (c.is_odd.ensures ∙ ap is_odd c.current_cycle.ensures) ∙ c.if-not-is_odd.false in
    let term : c.rate_term.result
    ≡ rate_term_by held (rate_values_by held (listed k.odd) (listed k.even)) k.settings.sends_sync k.rate.0 (drift_damping k.settings) (rate_limit k.settings) =
    rw (c.rate_values-values.ensures.result_value, c.get.ensures, c.get-2.ensures) at c.rate_term.ensures in
    rw odd (term ∙ rate_is_whole k c.requires)
