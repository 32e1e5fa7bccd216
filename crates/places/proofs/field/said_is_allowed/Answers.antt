use Rattle.fields.proofs.ReadingBack.{reads_back}
use Rattle.places.proofs.field.said_is_allowed.Goals as goal

pub returns : goal.returns
returns g c f v bs wide read = ((reads_back (g.F.Field.kind f)).writes bs (g.F.Field.says f v) wide read).0
