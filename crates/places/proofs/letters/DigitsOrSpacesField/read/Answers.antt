use Rattle.fields.specs.Words.{spare_rules}
use Rattle.places.proofs.Placing.{letters_say}
use Rattle.places.proofs.letters.DigitsOrSpacesField.read.Goals as goal

pub returns : goal.returns
returns g c = letters_say g.row.N spare_rules c.args.bytes.now c.judge_digits_or_spaces.ensures c.taken.ensures
