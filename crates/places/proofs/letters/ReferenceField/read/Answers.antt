use Rattle.places.proofs.Placing.{letters_say}
use Rattle.places.proofs.letters.ReferenceField.read.Goals as goal

pub returns : goal.returns
returns c = letters_say _ _ _ c.judge_reference.ensures c.taken.ensures
