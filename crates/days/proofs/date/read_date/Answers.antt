use Rattle.std.proofs.Common.{◌≡◌, ◌∙◌, arith}
use Rattle.std.proofs.lemmas.Grind.{common_steps}
use Rattle.days.specs.Dates.{date_reading}
use Rattle.days.proofs.Dating.{digits_name, read_text}
use Rattle.days.proofs.date.read_date.Goals as goal

pub returns-clause-only_text : goal.returns-clause-only_text
returns-clause-only_text c =
    let text = c.args.text.now in
    let named : c.day_of_year.result ≡ date_reading text = c.day_of_year.ensures ∙ digits_name text c.in_ok-number.number (omega arith) c.if-text-ne32.false (grind (arith, common_steps)) in
    read_text text c.day_of_year.result named
