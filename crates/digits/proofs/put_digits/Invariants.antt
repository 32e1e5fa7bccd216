use Rattle.std.proofs.Common.{◌≡◌, ◌-◌, ◌++◌, length, take, reverse}
use Rattle.digits.specs.Decimal.{decimal}
use Rattle.digits.proofs.put_digits.Given as goal

abbrev pub invariant-loop-place : goal.invariant-loop-place
invariant-loop-place l = decimal (length l.initial.out) l.n ≡ decimal (length l.initial.out - l.place-index) l.rest ++ reverse (take l.place-index l.out)
