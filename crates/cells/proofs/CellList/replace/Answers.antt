use Rattle.std.proofs.Common.{take, ap, ◌∙◌, arith}
use Rattle.std.proofs.Math.Seq.{take-set-lt}
use Rattle.std.proofs.lemmas.List.{length-take}
use Rattle.cells.proofs.CellList.replace.Goals as goal

pub returns-clause-after : goal.returns-clause-after
returns-clause-after g c =
    let l = c.args.self.now in
    let front = take 4000 l.cells.now in
    ap (take l.len) (take-set-lt 4000 l.cells.now c.args.row c.args.entry (omega arith)) ∙ take-set-lt l.len front c.args.row c.args.entry (omega (arith, length-take l.len front))
