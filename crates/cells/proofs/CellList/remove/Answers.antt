use Rattle.std.proofs.Common.{List, sym, ap, ◌∙◌, arith}
use Rattle.std.specs.List.{remove}
use Rattle.std.proofs.lemmas.List.{take-take}
use Rattle.cells.proofs.Outcomes.{removed_past}
use Rattle.cells.proofs.CellList.remove.Goals as goal

pub returns-then-row-len-clause-after : goal.returns-then-row-len-clause-after
returns-then-row-len-clause-after g c = sym (removed_past _ c.args.row (omega arith))

pub returns-clause-after : goal.returns-clause-after
returns-clause-after g c =
    take-take _ 4000 c.remove_from.new.cells (omega arith) ∙ c.remove_from.ensures.after ∙ sym (ap (λ (xs : List g.row.T.Denot). remove xs c.args.row) c.len-len.ensures.rows)
