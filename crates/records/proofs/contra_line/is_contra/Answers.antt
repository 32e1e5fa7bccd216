use Rattle.std.proofs.Common.{◌≡◌, ℕ, Bool, true, ◌&&◌, leb, List, length, sym, ap, ◌∙◌}
use Rattle.std.specs.Str.{bytes_eq}
use Rattle.std.proofs.lemmas.Slice.Eq.{slice_eq-Decides, bytes_eq-Decides}
use Rattle.std.proofs.lemmas.Bool.{le-leb}
use Rattle.std.proofs.lemmas.Bool.Decides.{same_from_decides, Decides-eqb}
use Rattle.tables.specs.Walks.{part}
use Rattle.fields.specs.Words.{contra_code_text}
use Rattle.records.proofs.contra_line.is_contra.Goals as goal

pub returns-then-line-ge17 : goal.returns-then-line-ge17
returns-then-line-ge17 c =
    let l = c.args.line.now in
    let found = c.part.result.now in
    let code = c.contra_code.result in
    let long : leb 17 (length l) ≡ true = le-leb 17 (length l) c.if-line-ge17.true in
    same_from_decides _ _ (slice_eq-Decides Decides-eqb found code _ c.eq.ensures) (bytes_eq-Decides found code)
    ∙ ap (λ (x : List ℕ). bytes_eq x code) c.part.ensures.value
    ∙ ap (λ (x : List ℕ). bytes_eq (part 15 17 l) x) c.contra_code.ensures
    ∙ ap (λ (b : Bool). b && bytes_eq (part 15 17 l) (contra_code_text c.args.service)) (sym long)
