-- With eleven fields the first ones lie too far back for the search, so each is put to use by hand.
use Rattle.std.proofs.Common.{refl}
use Rattle.std.proofs.lemmas.Result.{err_from_is_err_and}
use Rattle.tables.proofs.Fields.{past, stops}
use Rattle.records.proofs.payment_line.read_payment.Goals as goal

pub returns-in_err-reference : goal.returns-in_err-reference
returns-in_err-reference c =
    let p = err_from_is_err_and c.from_residual-in_err-reference.result c.from_residual-in_err-reference.ensures.1 in
    rw (p.1, p.2)
    (past _ c.in_ok-sort_code.ensures.value (past _ c.in_ok-account.ensures.value (past _ c.in_ok-at.ensures.value (past _ c.in_ok-code.ensures.value (past _ c.in_ok-from_sort_code.ensures.value
    (past _ c.in_ok-from_account.ensures.value (past _ c.in_ok-free_format.ensures.value (past _ c.in_ok-amount.ensures.value
    (past _ c.in_ok-from_name.ensures.value (stops _ c.in_err-reference.ensures.value))))))))))

pub returns-in_err-name : goal.returns-in_err-name
returns-in_err-name c =
    let p = err_from_is_err_and c.from_residual-in_err-name.result c.from_residual-in_err-name.ensures.1 in
    rw (p.1, p.2)
    (past _ c.in_ok-sort_code.ensures.value (past _ c.in_ok-account.ensures.value (past _ c.in_ok-at.ensures.value (past _ c.in_ok-code.ensures.value (past _ c.in_ok-from_sort_code.ensures.value
    (past _ c.in_ok-from_account.ensures.value (past _ c.in_ok-free_format.ensures.value (past _ c.in_ok-amount.ensures.value (past _ c.in_ok-from_name.ensures.value
    (past _ c.in_ok-reference.ensures.value (stops _ c.in_err-name.ensures.value)))))))))))

pub returns : goal.returns
returns c =
    past _ c.in_ok-sort_code.ensures.value (past _ c.in_ok-account.ensures.value (past _ c.in_ok-at.ensures.value (past _ c.in_ok-code.ensures.value (past _ c.in_ok-from_sort_code.ensures.value
    (past _ c.in_ok-from_account.ensures.value (past _ c.in_ok-free_format.ensures.value (past _ c.in_ok-amount.ensures.value (past _ c.in_ok-from_name.ensures.value
    (past _ c.in_ok-reference.ensures.value (past _ c.in_ok-name.ensures.value (refl)))))))))))
