use Rattle.days.proofs.Dating.{date_laws}
use Rattle.days.proofs.date.date_laws_hold.Goals as goal

pub returns : goal.returns
returns c = date_laws
