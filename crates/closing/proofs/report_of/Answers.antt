-- `report_of` meets its contract: each term with its external term, where nothing is cut.
use mathlib.Core.Path.{◌≡◌, ap, ◌∙◌}
use Rattle.settings.specs.Sheet.{external_offset_unit, external_rate_unit}
use Rattle.correction.specs.External.{sign_of, with_external}
use Rattle.base_types.specs.declared.cycle.Cycle.{Cycle}
use Rattle.clock.specs.State.{current_cycle, list_of}
use Rattle.closing.specs.Closing.{offset_found, rate_found}
use Rattle.closing.proofs.RangeLaws.{offset_reported, rate_reported}
use Rattle.closing.proofs.report_of.Goals as goal

pub returns : goal.returns
returns c =
    let k = c.args.clock in
    let offset = c.offset_found-offset.ensures in
    let rate = c.requires.1 in
    let list : c.list_of-list.result ≡ list_of (current_cycle k) k =
    c.list_of-list.ensures ∙ ap (λ (n : Cycle). list_of n k) c.current_cycle.ensures in
    let offset-term : c.with_external-offset_reported.result.0 ≡ with_external (offset_found k).value.0 (sign_of c.args.offset_control) (external_offset_unit k.settings) =
    rw (c.get.ensures, offset) at c.with_external-offset_reported.ensures ∙ offset_reported k c.requires.0 c.args.offset_control in
    let rate-term : c.with_external-rate_reported.result.0 ≡ with_external (rate_found k).value.0 (sign_of c.args.rate_control) (external_rate_unit k.settings) =
    rw (c.get-2.ensures, rate) at c.with_external-rate_reported.ensures ∙ rate_reported k c.requires.0 c.args.rate_control in
    λ i. record {
      offset = record { 0 = offset-term i };
      rate = record { 0 = rate-term i };
      offset_missing = (offset i).is_missing;
      rate_missing = (rate i).is_missing;
      offset_limited = (offset i).is_limited;
      rate_limited = (rate i).is_limited;
      ids = (list i).count;
      mark = k.settings.mark;
    }
