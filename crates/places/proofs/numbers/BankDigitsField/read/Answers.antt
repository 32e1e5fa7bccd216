use Rattle.std.proofs.Common.{◌∙◌}
use Rattle.places.proofs.Meanings.{number_says}
use Rattle.places.proofs.numbers.BankDigitsField.read.Goals as goal

pub returns : goal.returns
returns g c = let f = c.args.self.now in c.read.ensures ∙ number_says f.places g.row.LIMIT c.args.bytes.now c.requires f.few f.all
