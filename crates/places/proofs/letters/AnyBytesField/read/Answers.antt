use Rattle.std.proofs.Common.{[], refl}
use Rattle.places.proofs.Placing.{letters_say}
use Rattle.places.proofs.letters.AnyBytesField.read.Goals as goal

pub returns : goal.returns
returns g c = letters_say g.row.N [] c.args.bytes.now refl c.taken.ensures
