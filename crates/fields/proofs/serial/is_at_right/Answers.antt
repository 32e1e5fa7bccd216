use Rattle.std.proofs.Common.{not, sym, ◌∙◌, rules}
use Rattle.std.proofs.lemmas.Iterator.{YieldsList-from_slice}
use Rattle.std.proofs.lemmas.Iterator.Search.{position_from_yields_List}
use Rattle.std.proofs.lemmas.List.{take_rest}
use borrow.Author.Tests.{tests}
use Rattle.fields.specs.Characters.{is_space}
use Rattle.fields.proofs.Signs.{right_behind, right_without}
use Rattle.fields.proofs.serial.is_at_right.Goals as goal

pub returns-in-Some : goal.returns-in-Some
returns-in-Some c =
    let xs = c.args.field.now in
    let found = position_from_yields_List (λ b. not (is_space b)) _ _ c.position.result c.position.ensures.ran (YieldsList-from_slice xs cc) (λ x b q k. search (rules, tests)) in
    c.has_only_signs.ensures ∙ right_behind xs c.in-Some.at _ (sym found ∙ c.in-Some.is) (take_rest xs c.in-Some.at)

pub returns-in-None : goal.returns-in-None
returns-in-None c =
    let xs = c.args.field.now in
    let found = position_from_yields_List (λ b. not (is_space b)) _ _ c.position.result c.position.ensures.ran (YieldsList-from_slice xs cc) (λ x b q k. search (rules, tests)) in
    sym (right_without xs (sym found ∙ c.in-None.is))
