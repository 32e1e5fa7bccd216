use Rattle.std.proofs.Common.{◌≡◌, ◌^◌, ◌<◌, drop}
use Rattle.digits.specs.Decimal.{all_digits, read_on}
use Rattle.digits.proofs.read_digits.Given as goal

abbrev pub invariant-loop-b : goal.invariant-loop-b
invariant-loop-b l = (l.n < 10 ^ l.b-index) × (all_digits (drop l.b-index l.field) ≡ all_digits l.field) × (read_on l.n (drop l.b-index l.field) ≡ read_on 0 l.field)
