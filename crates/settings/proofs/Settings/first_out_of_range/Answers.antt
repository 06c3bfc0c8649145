-- The place that was found, counted from 1.
use Rattle.std.proofs.Common.{rules, ◌≡◌, ◌+◌, ap, ◌∙◌}
use Rattle.std.specs.Option.{option_map}
use Rattle.settings.specs.Sheet.{ranges as table}
use Rattle.settings.proofs.SheetWalk.{place_lem}
use Rattle.settings.proofs.Settings.first_out_of_range.Goals as goal

pub returns : goal.returns
returns c =
    let counted : c.map.result ≡ option_map (λ n. n + 1) c.first_misfit.result = search rules in
    counted ∙ ap (option_map (λ n. n + 1)) c.first_misfit.ensures.place ∙ place_lem 0 table c.args.self.fields
