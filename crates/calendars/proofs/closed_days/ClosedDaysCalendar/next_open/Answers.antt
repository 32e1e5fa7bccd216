use Rattle.std.proofs.Common.{◌≡◌, Some, None, sym, ◌∙◌}
use Rattle.calendars.specs.Entered.{less}
use Rattle.calendars.specs.Sets.{next_member}
use Rattle.calendars.proofs.Entries.{less_part, less_open, less_closed}
use Rattle.calendars.proofs.Next.{part_none, part_here, part_skip, part_least}
use Rattle.calendars.proofs.closed_days.ClosedDaysCalendar.next_open.Goals as goal

pub loop-day-preserved : goal.loop-day-preserved
loop-day-preserved g c =
    let s = c.args.self.now in
    let xs = s.entered.items in
    let f = g.C.Calendar.opens s.below in
    let d = c.in-Some.day in
    c.loop-day.invariant ∙ part_skip f (less f xs) (g.met.C.Calendar.within s.below) (less_part f xs) c.loop-day.at d c.in-Some.ensures.least (less_closed f xs d c.if-not-holds.ensures)

pub returns-then-not-holds : goal.returns-then-not-holds
returns-then-not-holds g c =
    let s = c.args.self.now in
    let xs = s.entered.items in
    let f = g.C.Calendar.opens s.below in
    let w = g.met.C.Calendar.within s.below in
    let d = c.in-Some.day in
    let l = c.in-Some.ensures.least in
    let e : Some d ≡ next_member (less f xs) c.args.from = part_here f (less f xs) w (less_part f xs) c.loop-day.at d l (less_open f xs d l.1 c.if-not-holds.ensures) ∙ sym c.loop-day.invariant in
    record { named = e; least = part_least f (less f xs) w (less_part f xs) c.args.from (Some d) e }

pub returns : goal.returns
returns g c =
    let s = c.args.self.now in
    let xs = s.entered.items in
    let f = g.C.Calendar.opens s.below in
    let w = g.met.C.Calendar.within s.below in
    let e : None ≡ next_member (less f xs) c.args.from = part_none f (less f xs) w (less_part f xs) c.loop-day.at c.in_default.ensures.least ∙ sym c.loop-day.invariant in
    record { named = e; least = part_least f (less f xs) w (less_part f xs) c.args.from None e }
