use Rattle.std.proofs.Common.{◌∙◌}
use Rattle.terms.specs.declared.cause.InputCause.TheVariants.{WrongCode}
use Rattle.fields.specs.Judging.{code_text}
use Rattle.fields.specs.Words.{codes_of}
use Rattle.fields.proofs.Contents.{read_listed}
use Rattle.fields.proofs.code.PaymentCode.judge.Goals as goal

pub returns : goal.returns
returns c =
    let cs = codes_of c.args.service in
    let h = rw c.is_ok-had.ensures.value at c.judged.ensures in
    let r = rw c.text.ensures at c.read.ensures in
    h ∙ read_listed code_text 2 WrongCode cs (code_text c.args.self) c.read.result r
