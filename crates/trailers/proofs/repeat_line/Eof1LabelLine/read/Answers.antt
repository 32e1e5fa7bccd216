-- With sixteen fields the first ones lie too far back for the search, so each is put to use by hand.
use Rattle.std.proofs.Common.{refl}
use Rattle.std.proofs.lemmas.Result.{err_from_is_err_and}
use Rattle.tables.proofs.Fields.{past, stops}
use Rattle.trailers.proofs.repeat_line.Eof1LabelLine.read.Goals as goal

pub returns-in_err-at-12 : goal.returns-in_err-at-12
returns-in_err-at-12 c =
    let p = err_from_is_err_and c.from_residual-in_err-at-12.result c.from_residual-in_err-at-12.ensures.1 in
    rw (p.1, p.2)
    (past _ c.in_ok-at.ensures.value (past _ c.in_ok-at-2.ensures.value (past _ c.in_ok-at-3.ensures.value (past _ c.in_ok-at-4.ensures.value (past _ c.in_ok-at-5.ensures.value
    (past _ c.in_ok-at-6.ensures.value (past _ c.in_ok-at-7.ensures.value (past _ c.in_ok-at-8.ensures.value (past _ c.in_ok-at-9.ensures.value (past _ c.in_ok-at-10.ensures.value
    (past _ c.in_ok-at-11.ensures.value (stops _ c.in_err-at-12.ensures.value))))))))))))

pub returns-in_err-at-13 : goal.returns-in_err-at-13
returns-in_err-at-13 c =
    let p = err_from_is_err_and c.from_residual-in_err-at-13.result c.from_residual-in_err-at-13.ensures.1 in
    rw (p.1, p.2)
    (past _ c.in_ok-at.ensures.value (past _ c.in_ok-at-2.ensures.value (past _ c.in_ok-at-3.ensures.value (past _ c.in_ok-at-4.ensures.value (past _ c.in_ok-at-5.ensures.value
    (past _ c.in_ok-at-6.ensures.value (past _ c.in_ok-at-7.ensures.value (past _ c.in_ok-at-8.ensures.value (past _ c.in_ok-at-9.ensures.value (past _ c.in_ok-at-10.ensures.value
    (past _ c.in_ok-at-11.ensures.value (past _ c.in_ok-at-12.ensures.value (stops _ c.in_err-at-13.ensures.value)))))))))))))

pub returns-in_err-at-14 : goal.returns-in_err-at-14
returns-in_err-at-14 c =
    let p = err_from_is_err_and c.from_residual-in_err-at-14.result c.from_residual-in_err-at-14.ensures.1 in
    rw (p.1, p.2)
    (past _ c.in_ok-at.ensures.value (past _ c.in_ok-at-2.ensures.value (past _ c.in_ok-at-3.ensures.value (past _ c.in_ok-at-4.ensures.value (past _ c.in_ok-at-5.ensures.value
    (past _ c.in_ok-at-6.ensures.value (past _ c.in_ok-at-7.ensures.value (past _ c.in_ok-at-8.ensures.value (past _ c.in_ok-at-9.ensures.value (past _ c.in_ok-at-10.ensures.value
    (past _ c.in_ok-at-11.ensures.value (past _ c.in_ok-at-12.ensures.value (past _ c.in_ok-at-13.ensures.value (stops _ c.in_err-at-14.ensures.value))))))))))))))

pub returns-in_err-at-15 : goal.returns-in_err-at-15
returns-in_err-at-15 c =
    let p = err_from_is_err_and c.from_residual-in_err-at-15.result c.from_residual-in_err-at-15.ensures.1 in
    rw (p.1, p.2)
    (past _ c.in_ok-at.ensures.value (past _ c.in_ok-at-2.ensures.value (past _ c.in_ok-at-3.ensures.value (past _ c.in_ok-at-4.ensures.value (past _ c.in_ok-at-5.ensures.value
    (past _ c.in_ok-at-6.ensures.value (past _ c.in_ok-at-7.ensures.value (past _ c.in_ok-at-8.ensures.value (past _ c.in_ok-at-9.ensures.value (past _ c.in_ok-at-10.ensures.value
    (past _ c.in_ok-at-11.ensures.value (past _ c.in_ok-at-12.ensures.value (past _ c.in_ok-at-13.ensures.value (past _ c.in_ok-at-14.ensures.value (stops _ c.in_err-at-15.ensures.value)))))))))))))))

pub returns-in_err-at-16 : goal.returns-in_err-at-16
returns-in_err-at-16 c =
    let p = err_from_is_err_and c.from_residual-in_err-at-16.result c.from_residual-in_err-at-16.ensures.1 in
    rw (p.1, p.2)
    (past _ c.in_ok-at.ensures.value (past _ c.in_ok-at-2.ensures.value (past _ c.in_ok-at-3.ensures.value (past _ c.in_ok-at-4.ensures.value (past _ c.in_ok-at-5.ensures.value
    (past _ c.in_ok-at-6.ensures.value (past _ c.in_ok-at-7.ensures.value (past _ c.in_ok-at-8.ensures.value (past _ c.in_ok-at-9.ensures.value (past _ c.in_ok-at-10.ensures.value
    (past _ c.in_ok-at-11.ensures.value (past _ c.in_ok-at-12.ensures.value (past _ c.in_ok-at-13.ensures.value (past _ c.in_ok-at-14.ensures.value
    (past _ c.in_ok-at-15.ensures.value (stops _ c.in_err-at-16.ensures.value))))))))))))))))

pub returns : goal.returns
returns c =
    past _ c.in_ok-at.ensures.value (past _ c.in_ok-at-2.ensures.value (past _ c.in_ok-at-3.ensures.value (past _ c.in_ok-at-4.ensures.value (past _ c.in_ok-at-5.ensures.value
    (past _ c.in_ok-at-6.ensures.value (past _ c.in_ok-at-7.ensures.value (past _ c.in_ok-at-8.ensures.value (past _ c.in_ok-at-9.ensures.value (past _ c.in_ok-at-10.ensures.value
    (past _ c.in_ok-at-11.ensures.value (past _ c.in_ok-at-12.ensures.value (past _ c.in_ok-at-13.ensures.value (past _ c.in_ok-at-14.ensures.value (past _ c.in_ok-at-15.ensures.value
    (past _ c.in_ok-at-16.ensures.value (refl))))))))))))))))
