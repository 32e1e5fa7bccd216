use Rattle.std.proofs.Common.{◌≡◌, [], ◌∷◌, rules}
use Rattle.std.specs.List.{find}
use Rattle.std.specs.Str.{bytes_eq}
use Rattle.terms.specs.declared.cause.InputCause.TheVariants.{NotListed}
use Rattle.fields.specs.Judging.{mark_text}
use Rattle.fields.specs.declared.owner.Mark.TheVariants.{Hsbc, Sage}
use Rattle.fields.proofs.Contents.{found}
use Rattle.fields.proofs.owner.read_mark.Goals as goal

pub returns : goal.returns
returns c =
    let bs = c.args.field.now in
    let first : c.find.result ≡ find (λ m. bytes_eq bs (mark_text m)) (Hsbc ∷ Sage ∷ []) = search rules in
    rw (c.ok_or.ensures.value, first) (found mark_text 6 NotListed (Hsbc ∷ Sage ∷ []) bs)
