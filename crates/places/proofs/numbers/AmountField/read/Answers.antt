use Rattle.std.proofs.Common.{◌∙◌, arith}
use Rattle.places.proofs.Meanings.{amount_says}
use Rattle.places.proofs.Placing.{as_said}
use Rattle.places.proofs.numbers.AmountField.read.Goals as goal

pub returns : goal.returns
returns c = as_said c.read_amount.result ∙ c.read_amount.ensures ∙ amount_says c.args.self.now.0 c.args.bytes.now (omega (arith, c.requires))
