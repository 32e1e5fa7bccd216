use Rattle.std.proofs.Common.{Some, None, arith}
use Rattle.std.proofs.lemmas.Bool.Decides.{nat_tests}
use Rattle.calendars.specs.Sets.{Within, all_days}
use Rattle.calendars.proofs.Next.{named_from}
use Rattle.calendars.proofs.all_days.AllDaysCalendar.next_open.Goals as goal

within : Within all_days
within k t = grind (arith, nat_tests)

pub returns-then-from-le-LAST_DAY-clause-named : goal.returns-then-from-le-LAST_DAY-clause-named
returns-then-from-le-LAST_DAY-clause-named c = named_from all_days within c.args.from (Some c.args.from) (omega arith, grind (arith, nat_tests), λ k h t. h)

pub returns-else-from-le-LAST_DAY-clause-named : goal.returns-else-from-le-LAST_DAY-clause-named
returns-else-from-le-LAST_DAY-clause-named c = named_from all_days within c.args.from None (λ k h t. grind (arith, nat_tests))
