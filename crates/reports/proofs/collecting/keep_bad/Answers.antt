use Rattle.std.proofs.Common.{rules, ◌≡◌, [], ◌∷◌, ◌++◌}
use Rattle.std.specs.Option.{option_map, option_to_list}
use Rattle.reports.specs.declared.report.Report.TheVariants.{Bad}
use Rattle.reports.specs.Shown.{settlement_report}
use Rattle.reports.proofs.Keeping.{filled_then}
use Rattle.reports.proofs.collecting.keep_bad.Goals as goal

pub returns : goal.returns
returns c =
    let settled : c.map.result ≡ option_map settlement_report c.args.bad.settlement = search rules in
    let own = Bad c.into.result ∷ [] in
    let lost = option_to_list c.then_some.result in
    let b = c.keep-2.new.queue in
    let after = filled_then c.keep.new.queue b c.keep-3.new.queue own lost c.keep-2.ensures c.keep-3.ensures in
    simp (settled, c.into.ensures, c.then_some.ensures) at (filled_then c.args.reports.now c.keep.new.queue c.keep-3.new.queue (option_to_list c.map.result) (own ++ lost) c.keep.ensures after)
