use Rattle.std.proofs.Common.{ℕ, List, ap, ◌∙◌}
use Rattle.fields.specs.Judging.{verdict}
use Rattle.fields.specs.Words.{head}
use Rattle.places.proofs.Placing.{fixed_says}
use Rattle.records.proofs.contra_line.ContraCodeField.read.Goals as goal

pub returns : goal.returns
returns c = fixed_says _ _ _ (c.judge_fixed.ensures ∙ ap (λ (t : List ℕ). verdict (head t) c.args.bytes.now) c.contra_code.ensures)
