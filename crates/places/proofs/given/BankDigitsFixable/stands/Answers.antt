use Rattle.std.proofs.Common.{ℕ, Result, ap, ◌∙◌, arith}
use Rattle.std.specs.Result.{result_ok}
use Rattle.terms.specs.declared.cause.InputCause.{InputCause}
use Rattle.places.specs.Given.{number_stands}
use Rattle.places.proofs.Givens.{by_reading, digits_form}
use Rattle.places.proofs.given.BankDigitsFixable.stands.Goals as goal

pub returns : goal.returns
returns g c =
    let v = c.args.value.now.value in
    c.eq.ensures ∙ by_reading _ c.number.result c.read_digits.result ∙ ap (λ (n : ℕ). number_stands n (result_ok c.read_digits.result)) c.number.ensures ∙ ap (λ (r : Result ℕ InputCause). number_stands v (result_ok r)) c.read_digits.ensures.value
    ∙ ap (number_stands v) (digits_form c.args.self.now.places c.args.bytes.now (omega (arith, c.requires, c.args.self.now.few)))
