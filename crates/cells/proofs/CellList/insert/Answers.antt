use Rattle.std.proofs.Common.{List, sym, ap, ◌∙◌, arith}
use Rattle.std.specs.List.{insert}
use Rattle.std.proofs.lemmas.List.{take-take}
use Rattle.cells.specs.Entries.{entries, room}
use Rattle.cells.proofs.Outcomes.{insert_done}
use Rattle.cells.proofs.CellList.insert.Goals as goal

pub returns-clause-after : goal.returns-clause-after
returns-clause-after g c =
    let l = c.args.self.now in
    let done = insert_done (room l) (entries l) c.args.row c.args.entry (omega arith) (omega arith) in
    take-take _ 4000 c.insert_into.new.cells (omega arith) ∙ c.insert_into.ensures.after ∙ sym (ap (λ (xs : List g.row.T.Denot). insert xs c.args.row c.args.entry) c.len-len.ensures.rows) ∙ done.after
