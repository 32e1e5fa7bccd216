use Rattle.std.proofs.Common.{◌≡◌, ℕ, ◌+◌, ◌-◌, List, [], ◌∷◌, ◌++◌, ap, ◌∙◌, append_assoc, arith}
use Rattle.digits.specs.Decimal.{decimal}
use Rattle.days.specs.Dates.{year_day}
use Rattle.tables.specs.Forms.{shown}
use Rattle.places.specs.Fronts.{front}
use Rattle.places.proofs.puts.put_day.Goals as goal

pub returns : goal.returns
unfolding shown
returns c =
    let out = c.args.out.now in
    let from = c.args.from in
    let n = year_day c.args.day in
    let five : from + 6 - (from + 1) ≡ 5 = omega arith in
    c.put_number.ensures
    ∙ ap (λ (l : List ℕ). l ++ decimal (from + 6 - (from + 1)) n) c.put_bytes.ensures
    ∙ ap (λ (k : ℕ). (front from out ++ 32 ∷ []) ++ decimal k n) five
    ∙ append_assoc (front from out) (32 ∷ []) (decimal 5 n)
