use Rattle.std.proofs.Common.{sym, refl, ◌∙◌}
use Rattle.std.proofs.lemmas.Result.{err_from_is_err_and}
use Rattle.places.proofs.Placing.{as_said}
use Rattle.places.proofs.Days.{no_day, day_by}
use Rattle.labels.specs.Users.{in_order}
use Rattle.labels.proofs.user_line.ProcessingDayField.read.Goals as goal

pub returns-in_err-day : goal.returns-in_err-day
returns-in_err-day c =
    let k = c.args.self.now.0 in
    let p = err_from_is_err_and c.from_residual.result c.from_residual.ensures.1 in
    rw (p.1, p.2) (no_day (in_order k.service k.opening k.creation k.expiry) k.«open» c.args.bytes.now _ c.in_err-day.ensures)

pub returns : goal.returns
returns c =
    let k = c.args.self.now.0 in
    as_said c.usable_day.result ∙ c.usable_day.ensures ∙ day_by (in_order k.service k.opening k.creation k.expiry) k.«open» c.args.bytes.now c.in_ok-day.day c.is_in_order.result k.«open» c.in_ok-day.ensures (sym c.is_in_order.ensures) refl
