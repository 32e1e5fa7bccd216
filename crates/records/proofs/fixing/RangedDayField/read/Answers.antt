use Rattle.std.proofs.Common.{sym, refl, ◌∙◌}
use Rattle.std.proofs.lemmas.Result.{err_from_is_err_and}
use Rattle.places.proofs.Placing.{as_said}
use Rattle.places.proofs.Days.{no_day, day_by}
use Rattle.records.specs.Payments.{in_range}
use Rattle.records.proofs.fixing.RangedDayField.read.Goals as goal

pub returns-in_err-day : goal.returns-in_err-day
returns-in_err-day c =
    let k = c.args.self.now in
    let p = err_from_is_err_and c.from_residual.result c.from_residual.ensures.1 in
    rw (p.1, p.2) (no_day (in_range k.first k.last) k.«open» c.args.bytes.now _ c.in_err-day.ensures)

pub returns : goal.returns
returns c =
    let k = c.args.self.now in
    as_said c.usable_day.result ∙ c.usable_day.ensures ∙ day_by (in_range k.first k.last) k.«open» c.args.bytes.now c.in_ok-day.day c.is_between.result k.«open» c.in_ok-day.ensures (sym c.is_between.ensures) refl
