use Rattle.grammar.proofs.Laws.{meaning_law}
use Rattle.grammar.proofs.files_have_one_meaning.Goals as goal

pub returns : goal.returns
returns c = meaning_law
