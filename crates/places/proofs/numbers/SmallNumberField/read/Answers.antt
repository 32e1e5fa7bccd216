use Rattle.std.proofs.Common.{◌≤◌, length, ◌∙◌, arith}
use Rattle.std.proofs.lemmas.Result.{err_from_is_err_and}
use Rattle.places.proofs.Meanings.{digits_say}
use Rattle.places.proofs.numbers.SmallNumberField.read.Goals as goal

pub returns-in_err-number : goal.returns-in_err-number
returns-in_err-number c =
    let few : length c.args.digits.now ≤ 19 = omega (arith, c.requires, c.args.self.now.few) in
    let p = err_from_is_err_and c.from_residual.result c.from_residual.ensures.1 in
    rw (p.1, p.2) (c.in_err-number.ensures.value ∙ digits_say c.args.self.now.places c.args.digits.now few)

pub returns : goal.returns
returns c =
    let few : length c.args.digits.now ≤ 19 = omega (arith, c.requires, c.args.self.now.few) in
    c.in_ok-number.ensures.value ∙ digits_say c.args.self.now.places c.args.digits.now few
