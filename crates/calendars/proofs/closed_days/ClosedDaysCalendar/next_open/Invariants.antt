use Rattle.std.proofs.Common.{◌≡◌, ◌-◌}
use Rattle.calendars.specs.Entered.{less}
use Rattle.calendars.specs.Sets.{next_member}
use Rattle.calendars.proofs.closed_days.ClosedDaysCalendar.next_open.Given as goal

abbrev pub invariant-loop-day : goal.invariant-loop-day
invariant-loop-day g l = let h = less (g.C.Calendar.opens l.self.below) l.self.entered.items in next_member h l.from ≡ next_member h l.at

abbrev pub decreases-loop-day : goal.decreases-loop-day
decreases-loop-day g l = 36525 - l.at
