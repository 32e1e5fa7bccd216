use Rattle.std.proofs.Common.{◌≡◌, Bool, ◌∙◌, rules}
use Rattle.std.proofs.lemmas.Iterator.{YieldsList-from_slice}
use Rattle.std.proofs.lemmas.Iterator.Search.{find_from_yields_List}
use Rattle.std.specs.List.{find}
use Rattle.std.specs.Str.{bytes_eq}
use borrow.Author.Tests.{tests}
use Rattle.terms.specs.declared.cause.InputCause.TheVariants.{WrongCode}
use Rattle.fields.specs.Judging.{code_text}
use Rattle.fields.specs.declared.code.PaymentCode.{PaymentCode}
use Rattle.fields.proofs.Contents.{found}
use Rattle.fields.proofs.code.PaymentCode.read.Goals as goal

pub returns : goal.returns
returns c =
    let bs = c.args.field.now in
    let cs = c.codes_of.result.now in
    let is_code : PaymentCode → Bool = λ x. bytes_eq bs (code_text x) in
    let first : c.copied.result ≡ find is_code cs = c.copied.ensures ∙ find_from_yields_List is_code _ _ _ c.find.ensures.ran (YieldsList-from_slice cs cc) (λ x b q k. search (rules, tests)) in
    let listed = found code_text 2 WrongCode cs bs in
    rw c.ok_or.ensures.value (rw first (rw c.codes_of.ensures at listed))
