use Rattle.places.proofs.Placing.{letters_say}
use Rattle.places.proofs.letters.FilledField.read.Goals as goal

pub returns : goal.returns
returns c = letters_say _ _ _ c.judge_filled.ensures c.taken.ensures
