use Rattle.std.proofs.Common.{sym, ◌∙◌}
use Rattle.lines.proofs.Reading.{reads_place}
use Rattle.lines.proofs.line.lines_are_read_by_table.Goals as goal

pub returns : goal.returns
returns g c context l wide = reads_place (g.L.Line.place context l) l (wide ∙ sym (g.met.L.Line.tiled context l))
