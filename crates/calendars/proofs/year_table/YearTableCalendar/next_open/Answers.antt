use Rattle.std.proofs.Common.{◌≡◌, ◌+◌, true, false, arith, rules}
use Rattle.std.proofs.lemmas.Iterator.{first_from_Range}
use borrow.Author.Tests.{tests}
use Rattle.calendars.specs.Sets.{Least, table_days}
use Rattle.calendars.proofs.Next.{named_from, least_found}
use Rattle.calendars.proofs.Tables.{in_table, table_within}
use Rattle.calendars.proofs.year_table.YearTableCalendar.next_open.Goals as goal

pub returns : goal.returns
returns c =
    let t = c.args.self.now in
    let f = table_days t.year.value t.flags in
    let l : Least f c.args.from c.find.result =
    least_found f c.args.from c.max-start.result (c.first_day-first.result + c.length.result) (omega arith)
    (λ k from y. let p = in_table t.year.value t.flags k y in (omega arith, omega arith))
    c.find.result
    (first_from_Range _ _ _ c.find.result (λ d. f d ≡ true) (λ d. f d ≡ false) c.find.ensures.ran (λ d q k. search (rules, tests)) (λ d q k. search (rules, tests))) in
    record { named = named_from f (table_within t.year.value t.flags t.year.bound) c.args.from c.find.result l; least = l }
