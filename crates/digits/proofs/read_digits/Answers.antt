use Rattle.std.proofs.Common.{◌+◌, arith}
use Rattle.digits.proofs.Numbers.{grown, fits19}
use Rattle.digits.proofs.read_digits.Goals as goal

pub overflow_mul-n : goal.overflow_mul-n
overflow_mul-n c = omega (arith, fits19 _ (c.loop-b.b-index + 1) (grown c.loop-b.n 0 c.loop-b.b-index c.loop-b.invariant.0 (omega arith)) (omega arith))

pub overflow_add-n : goal.overflow_add-n
overflow_add-n c = omega (arith, fits19 _ (c.loop-b.b-index + 1) (grown c.loop-b.n 9 c.loop-b.b-index c.loop-b.invariant.0 (omega arith)) (omega arith), c.if-not-is_ascii_digit.ensures.cases)
