use Rattle.std.proofs.Common.{ℕ, Result, ap, ◌∙◌}
use Rattle.std.specs.Result.{result_ok}
use Rattle.terms.specs.declared.cause.InputCause.{InputCause}
use Rattle.places.specs.Given.{number_stands}
use Rattle.places.proofs.Givens.{by_reading, date_form}
use Rattle.places.proofs.given.DateFixable.stands.Goals as goal

pub returns : goal.returns
returns c =
    let v = c.args.value.now in
    c.eq.ensures ∙ by_reading _ v c.read_date.result ∙ ap (λ (r : Result ℕ InputCause). number_stands v (result_ok r)) c.read_date.ensures.value ∙ ap (number_stands v) (date_form c.args.bytes.now)
