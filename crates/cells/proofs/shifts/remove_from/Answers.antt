use Rattle.cells.proofs.Moves.{closed_all}
use Rattle.cells.proofs.shifts.remove_from.Goals as goal

pub returns-clause-after : goal.returns-clause-after
returns-clause-after g c =
    let m = c.copy_within.ensures in
    closed_all c.args.cells.now c.copy_within.new.self c.args.row c.args.len c.requires.within c.requires.room m.len m.by_index.0 m.by_index.1
