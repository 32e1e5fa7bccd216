use Rattle.std.proofs.Common.{◌-◌, length, take, drop, ◌∙◌, rules}
use Rattle.std.proofs.lemmas.Iterator.{YieldsList-from_slice}
use Rattle.std.proofs.lemmas.Iterator.Search.{all_from_yields_List}
use borrow.Author.Tests.{tests}
use Rattle.fields.specs.Characters.{is_after_slash}
use Rattle.fields.proofs.Contents.{slashed_after}
use Rattle.fields.proofs.listed.is_slashed.Goals as goal

pub returns-then-first-eq47 : goal.returns-then-first-eq47
returns-then-first-eq47 c =
    let xs = c.args.field.now in
    all_from_yields_List is_after_slash _ _ _ c.all.ensures.ran (YieldsList-from_slice (take (length xs - 1) (drop 1 xs)) cc) (λ x b q k. search (rules, tests))
    ∙ slashed_after xs c.if-first-eq47.true
