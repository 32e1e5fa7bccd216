use Rattle.std.proofs.Common.{◌≡◌, ◌-◌, ◌++◌, length, take, ap, ◌∙◌, arith}
use Rattle.std.specs.List.{between}
use Rattle.std.proofs.lemmas.List.Edits.{length-between}
use Rattle.std.proofs.lemmas.Slice.{take-put_mid}
use Rattle.digits.specs.Decimal.{decimal}
use Rattle.digits.proofs.Numbers.{length-decimal}
use Rattle.tables.specs.Forms.{shown}
use Rattle.places.specs.Fronts.{front}
use Rattle.places.proofs.puts.put_number.Goals as goal

pub returns : goal.returns
unfolding front shown
returns c =
    let w = c.args.to - c.args.from in
    let out = c.args.out.now in
    let long : length (between c.args.from c.args.to out) ≡ w = length-between out c.args.from c.args.to (omega arith) in
    let e : c.put_digits.new.out ≡ decimal w c.args.number = c.put_digits.ensures ∙ ap (λ k. decimal k c.args.number) long in
    take-put_mid c.args.from w out _ c.args.to (omega (arith, ap length e, length-decimal w c.args.number)) (omega arith) ∙ ap (λ l. take c.args.from out ++ l) e
