use Rattle.std.proofs.Common.{◌+◌, refl, sym, ◌∙◌, rules}
use Rattle.std.proofs.lemmas.Iterator.{YieldsList-from_slice}
use Rattle.std.proofs.lemmas.Iterator.Search.{position_from_yields_List}
use Rattle.std.proofs.lemmas.List.{take_rest}
use borrow.Author.Tests.{tests}
use Rattle.fields.specs.Characters.{is_sign_byte}
use Rattle.fields.proofs.Signs.{same_behind, same_without}
use Rattle.fields.proofs.text.has_same_signs.Goals as goal

pub returns-in-Some : goal.returns-in-Some
returns-in-Some c =
    let xs = c.args.field.now in
    let found = position_from_yields_List is_sign_byte _ _ c.position.result c.position.ensures.ran (YieldsList-from_slice xs cc) (λ x b q k. search (rules, tests)) in
    c.has_no_other_sign.ensures ∙ same_behind xs c.in-Some.at _ _ (sym found ∙ c.in-Some.is) refl (take_rest xs (c.in-Some.at + 1))

pub returns-in-None : goal.returns-in-None
returns-in-None c =
    let xs = c.args.field.now in
    let found = position_from_yields_List is_sign_byte _ _ c.position.result c.position.ensures.ran (YieldsList-from_slice xs cc) (λ x b q k. search (rules, tests)) in
    sym (same_without xs (sym found ∙ c.in-None.is))
