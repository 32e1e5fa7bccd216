use Rattle.places.proofs.Givens.{kept, other}
use Rattle.places.proofs.given.GivenSaidField.read.Goals as goal

pub returns-then-stands : goal.returns-then-stands
returns-then-stands g c = let f = c.args.self.now in kept (g.F.Field.kind f.0) (g.F.Field.says f.0 f.1) c.args.bytes.now c.if-stands.ensures

pub returns-else-stands : goal.returns-else-stands
returns-else-stands g c = let f = c.args.self.now in other (g.F.Field.kind f.0) (g.F.Field.says f.0 f.1) c.args.bytes.now c.if-stands.ensures
