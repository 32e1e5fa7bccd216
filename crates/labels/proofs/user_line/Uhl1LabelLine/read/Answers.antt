-- With eleven fields the first ones lie too far back for the search, so each is put to use by hand.
use Rattle.std.proofs.Common.{refl}
use Rattle.std.proofs.lemmas.Result.{err_from_is_err_and}
use Rattle.tables.proofs.Fields.{past, stops}
use Rattle.labels.proofs.user_line.Uhl1LabelLine.read.Goals as goal

pub returns-in_err-at-9 : goal.returns-in_err-at-9
returns-in_err-at-9 c =
    let p = err_from_is_err_and c.from_residual-in_err-at-9.result c.from_residual-in_err-at-9.ensures.1 in
    rw (p.1, p.2)
    (past _ c.in_ok-at.ensures.value (past _ c.in_ok-processing.ensures.value (past _ c.in_ok-at-2.ensures.value (past _ c.in_ok-at-3.ensures.value (past _ c.in_ok-at-4.ensures.value (past _ c.in_ok-at-5.ensures.value
    (past _ c.in_ok-number.ensures.value (past _ c.in_ok-at-6.ensures.value (past _ c.in_ok-at-7.ensures.value (past _ c.in_ok-at-8.ensures.value (stops _ c.in_err-at-9.ensures.value)))))))))))

pub returns : goal.returns
returns c =
    past _ c.in_ok-at.ensures.value (past _ c.in_ok-processing.ensures.value (past _ c.in_ok-at-2.ensures.value (past _ c.in_ok-at-3.ensures.value (past _ c.in_ok-at-4.ensures.value (past _ c.in_ok-at-5.ensures.value
    (past _ c.in_ok-number.ensures.value (past _ c.in_ok-at-6.ensures.value (past _ c.in_ok-at-7.ensures.value (past _ c.in_ok-at-8.ensures.value (past _ c.in_ok-at-9.ensures.value refl))))))))))
