use Rattle.std.proofs.Common.{rules}
use Rattle.tables.specs.Forms.{shown}
use Rattle.labels.proofs.header_line.owner_places.Goals as goal

pub returns-in-Sun : goal.returns-in-Sun
unfolding shown
returns-in-Sun c = search rules
