use Rattle.std.proofs.Common.{◌∙◌}
use Rattle.places.proofs.Meanings.{date_says}
use Rattle.places.proofs.Placing.{as_said}
use Rattle.places.proofs.numbers.DateField.read.Goals as goal

pub returns : goal.returns
returns c = as_said c.read_date.result ∙ c.read_date.ensures.value ∙ date_says c.args.bytes.now
