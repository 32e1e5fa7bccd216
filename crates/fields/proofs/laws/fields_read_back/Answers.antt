use Rattle.fields.proofs.ReadingBack.{reads_back}
use Rattle.fields.proofs.laws.fields_read_back.Goals as goal

pub returns : goal.returns
returns c = reads_back
