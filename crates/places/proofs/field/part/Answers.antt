use Rattle.std.proofs.Common.{rules}
use Rattle.tables.specs.Walks.{part}
use Rattle.places.proofs.field.part.Goals as goal

pub returns : goal.returns
unfolding part
returns c = search rules
