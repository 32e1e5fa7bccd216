use Rattle.digits.proofs.Numbers.{digit_laws}
use Rattle.digits.proofs.digit_laws_hold.Goals as goal

pub returns : goal.returns
returns c = digit_laws
