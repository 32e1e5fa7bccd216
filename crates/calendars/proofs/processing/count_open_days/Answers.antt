use Rattle.std.proofs.Common.{◌+◌, ◌-◌, min, rules, tests, arith, ◌∙◌}
use Rattle.std.specs.List.{range_with_len}
use Rattle.std.proofs.lemmas.Iterator.{YieldsList-from_range}
use Rattle.std.proofs.lemmas.Iterator.Consumers.{fold_from_yields_List}
use Rattle.std.proofs.lemmas.List.FromFn.{length-range_with_len}
use Rattle.calendars.proofs.Counts.{one_more, count_folds}
use Rattle.calendars.proofs.processing.count_open_days.Goals as goal

pub returns : goal.returns
returns g c =
    let f = g.C.Calendar.opens c.args.calendar.now in
    let n = min c.args.last 36524 + 1 - c.args.first in
    let xs = range_with_len c.args.first n in
    fold_from_yields_List _ (one_more f) 0 c.fold.result c.fold.ensures.ran (YieldsList-from_range c.args.first (min c.args.last 36524 + 1) n (cc) (cc)) (λ a x b q k. search (rules, tests))
    ∙ count_folds f xs 0 (omega (arith, length-range_with_len c.args.first n))
