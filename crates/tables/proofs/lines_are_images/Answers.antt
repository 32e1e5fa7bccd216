use Rattle.tables.proofs.Tiling.{line_law}
use Rattle.tables.proofs.lines_are_images.Goals as goal

pub returns : goal.returns
returns c = line_law
