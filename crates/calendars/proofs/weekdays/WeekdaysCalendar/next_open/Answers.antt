use Rattle.std.proofs.Common.{◌≡◌, ℕ, ◌+◌, Some, None, Option, arith}
use Rattle.std.proofs.lemmas.Bool.Decides.{nat_tests}
use Rattle.calendars.specs.Sets.{Least, Within, next_member, week_days}
use Rattle.calendars.proofs.Next.{named_from}
use Rattle.calendars.proofs.weekdays.WeekdaysCalendar.next_open.Goals as goal

within : Within week_days
within k t = grind (arith, nat_tests)

named : (d : ℕ) (o : Option ℕ) → Least week_days d o → o ≡ next_member week_days d
named d o l = named_from week_days within d o l

pub returns-then-from-gt-LAST_DAY-clause-named : goal.returns-then-from-gt-LAST_DAY-clause-named
returns-then-from-gt-LAST_DAY-clause-named c = named c.args.from None (λ k h t. grind (arith, nat_tests))

pub returns-in-0-clause-named : goal.returns-in-0-clause-named
returns-in-0-clause-named c = named c.args.from (Some (c.args.from + 2)) (omega arith, grind (arith, nat_tests), λ k h t. grind (arith, nat_tests))

pub returns-in-1-clause-named : goal.returns-in-1-clause-named
returns-in-1-clause-named c = named c.args.from (Some (c.args.from + 1)) (omega arith, grind (arith, nat_tests), λ k h t. grind (arith, nat_tests))

pub returns-in_default-clause-named : goal.returns-in_default-clause-named
returns-in_default-clause-named c = named c.args.from (Some c.args.from) (omega arith, grind (arith, nat_tests), λ k h t. h)
