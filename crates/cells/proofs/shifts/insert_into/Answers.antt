use Rattle.cells.proofs.Moves.{opened_all}
use Rattle.cells.proofs.shifts.insert_into.Goals as goal

pub returns-clause-after : goal.returns-clause-after
returns-clause-after g c =
    let m = c.copy_within.ensures in
    opened_all c.args.cells.now c.copy_within.new.self c.args.row c.args.len c.args.entry c.requires.within c.requires.room m.len m.by_index.0 m.by_index.1
