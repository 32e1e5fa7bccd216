use Rattle.std.proofs.Common.{◌∙◌, arith}
use Rattle.places.proofs.Meanings.{digits_say}
use Rattle.places.proofs.Placing.{as_said}
use Rattle.places.proofs.numbers.NumberField.read.Goals as goal

pub returns : goal.returns
returns c = as_said c.read_digits.result ∙ c.read_digits.ensures.value ∙ digits_say c.args.self.now.places c.args.bytes.now (omega (arith, c.requires, c.args.self.now.few))
