use Rattle.std.proofs.Common.{arith}
use Rattle.std.proofs.lemmas.Grind.{common_steps}
use Rattle.parts.specs.Places.{field_ends}
use Rattle.parts.proofs.Tables.{found}
use Rattle.parts.proofs.places.field_at.Goals as goal

pub returns : goal.returns
returns c = grind (arith, common_steps, found c.args.position 1 c.fields.result.now (field_ends c.args.kind) c.fields.ensures)
