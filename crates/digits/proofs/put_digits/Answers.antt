use Rattle.std.proofs.Common.{◌≡◌, ◌+◌, ◌-◌, ◌/◌, ◌%◌, ◌++◌, length, reverse, take, sym, ap, ◌∙◌, append-nil, arith}
use Rattle.std.proofs.lemmas.List.{take_more_set, take_all}
use Rattle.digits.specs.Decimal.{decimal}
use Rattle.digits.proofs.Numbers.{decimal_more}
use Rattle.digits.proofs.put_digits.Goals as goal

pub loop-place-init : goal.loop-place-init
loop-place-init c = let all : length c.args.out.now - 0 ≡ length c.args.out.now = omega arith in rw all (sym (append-nil _))

pub loop-place-preserved : goal.loop-place-preserved
loop-place-preserved c =
    let i = c.loop-place.place-index in
    let left = length c.args.out.now - (i + 1) in
    c.loop-place.invariant
    ∙ decimal_more left _ c.loop-place.rest (take i c.loop-place.out) (omega arith)
    ∙ ap (λ xs. decimal left (c.loop-place.rest / 10) ++ reverse xs) (sym (take_more_set c.loop-place.out i (48 + c.loop-place.rest % 10) (omega arith)))

pub returns : goal.returns
unfolding decimal
returns c =
    let none : length c.args.out.now - c.loop-place.place-index ≡ 0 = omega arith in
    let whole = take_all c.loop-place.place-index c.loop-place.out (omega arith) in
    c.reverse.ensures.after ∙ sym (rw (none, whole) at c.loop-place.invariant)
