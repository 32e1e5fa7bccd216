use Rattle.tables.proofs.Tiling.{fault_law}
use Rattle.tables.proofs.first_faults_are_found.Goals as goal

pub returns : goal.returns
returns c = fault_law
