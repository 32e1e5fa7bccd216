use Rattle.std.proofs.Common.{◌≡◌, Bool, ◌∙◌, rules}
use Rattle.std.proofs.lemmas.Iterator.{YieldsList-from_slice}
use Rattle.std.proofs.lemmas.Iterator.Search.{find_from_yields_List}
use Rattle.std.specs.List.{find}
use Rattle.std.specs.Str.{bytes_eq}
use borrow.Author.Tests.{tests}
use Rattle.terms.specs.declared.cause.InputCause.TheVariants.{NotListed}
use Rattle.fields.proofs.Contents.{found}
use Rattle.labels.specs.Headers.{record_length_text}
use Rattle.labels.proofs.header_two.RecordLengthField.read.Goals as goal

pub returns : goal.returns
returns c =
    let bs = c.args.bytes.now in
    let kinds = c.kinds_of_file.result.now in
    let is_length : Bool → Bool = λ m. bytes_eq bs (record_length_text m) in
    let first : c.copied.result ≡ find is_length kinds = c.copied.ensures ∙ find_from_yields_List is_length _ _ _ c.find.ensures.ran (YieldsList-from_slice kinds cc) (λ x b q k. search (rules, tests)) in
    let listed = found record_length_text 5 NotListed kinds bs in
    rw c.ok_or.ensures.value (rw first (rw c.kinds_of_file.ensures at listed))
