use Rattle.std.proofs.Common.{rules, ℕ, [], ◌∷◌, ◌∙◌, ap}
use Rattle.fields.specs.Judging.{verdict}
use Rattle.fields.specs.Words.{blank, choice, choice_rules}
use Rattle.places.proofs.Placing.{letters_say}
use Rattle.places.proofs.letters.BlankOrField.read.Goals as goal

pub returns : goal.returns
returns g c = letters_say g.row.N (choice_rules (blank g.row.N ∷ c.args.self.now.0 ∷ [])) c.args.bytes.now (c.judge_blank_or.ensures ∙ ap (λ (w : ℕ). verdict (choice w (blank w ∷ c.args.self.now.0 ∷ [])) c.args.bytes.now) (search rules)) c.taken.ensures
