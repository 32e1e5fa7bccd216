use Rattle.std.proofs.Common.{◌≡◌, ℕ, length, ap, ◌∙◌}
use Rattle.std.proofs.lemmas.List.{length-replicate}
use Rattle.fields.specs.Judging.{verdict}
use Rattle.fields.specs.Words.{spaces}
use Rattle.places.proofs.Placing.{fixed_says}
use Rattle.places.proofs.fixed.SpacesField.read.Goals as goal

pub returns : goal.returns
returns c =
    let wide : length c.args.bytes.now ≡ c.args.self.now.0 = c.requires ∙ length-replicate c.args.self.now.0 32 in
    fixed_says _ _ _ (c.judge_spaces.ensures ∙ ap (λ (w : ℕ). verdict (spaces w) c.args.bytes.now) wide)
