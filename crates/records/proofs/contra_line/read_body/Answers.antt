use Rattle.std.proofs.Common.{refl}
use Rattle.tables.proofs.Fields.{past}
use Rattle.records.proofs.contra_line.read_body.Goals as goal

pub returns : goal.returns
returns c =
    past _ c.in_ok-at.ensures.value (past _ c.in_ok-at-2.ensures.value (past _ c.in_ok-at-3.ensures.value (past _ c.in_ok-at-4.ensures.value (past _ c.in_ok-narrative.ensures.value
    (past _ c.in_ok-at-5.ensures.value (past _ c.in_ok-at-6.ensures.value (past _ c.in_ok-at-7.ensures.value refl)))))))
