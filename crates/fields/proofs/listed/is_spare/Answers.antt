use Rattle.std.proofs.Common.{rules}
use Rattle.fields.specs.Words.{is_spare_text}
use Rattle.fields.proofs.Contents.{all_digits_each}
use Rattle.fields.proofs.listed.is_spare.Goals as goal

pub returns-then-is_digits : goal.returns-then-is_digits
unfolding is_spare_text
returns-then-is_digits c = rw all_digits_each (search rules)

pub returns-else-is_digits : goal.returns-else-is_digits
unfolding is_spare_text
returns-else-is_digits c = rw all_digits_each (search rules)
