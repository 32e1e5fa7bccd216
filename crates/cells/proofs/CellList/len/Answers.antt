use Rattle.std.proofs.Common.{take, arith}
use Rattle.std.proofs.lemmas.List.{length-take}
use Rattle.cells.proofs.Fronts.{front_entries}
use Rattle.cells.proofs.CellList.len.Goals as goal

pub returns-clause-value : goal.returns-clause-value
returns-clause-value g c = omega (arith, length-take c.args.self.now.len (take 4000 c.args.self.now.cells.now), length-take 4000 c.args.self.now.cells.now)

pub returns-clause-rows : goal.returns-clause-rows
returns-clause-rows g c = front_entries c.args.self.now.len 4000 c.min.result c.args.self.now.cells.now (omega arith)
