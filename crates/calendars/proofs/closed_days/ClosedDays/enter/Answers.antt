use Rattle.std.proofs.Common.{sym}
use Rattle.calendars.proofs.Entries.{apart_push}
use Rattle.calendars.proofs.closed_days.ClosedDays.enter.Goals as goal

pub invariant_of-self-clause-once : goal.invariant_of-self-clause-once
invariant_of-self-clause-once g c = rw c.push.ensures.items (apart_push c.args.self.now.entered.items c.args.day c.args.self.now.once (sym c.if-not-holds.ensures))
