use Rattle.grammar.proofs.Laws.{writing_law}
use Rattle.grammar.proofs.written_files_are_read.Goals as goal

pub returns : goal.returns
returns c = writing_law
