use Rattle.places.proofs.Placing.{fixed_says}
use Rattle.places.proofs.fixed.FixedField.read.Goals as goal

pub returns : goal.returns
returns c = fixed_says _ _ _ c.judge_fixed.ensures
