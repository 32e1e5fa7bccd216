use Rattle.cells.proofs.TakenBack.{list_laws}
use Rattle.cells.proofs.laws.list_laws_hold.Goals as goal

pub returns : goal.returns
returns g c = list_laws
