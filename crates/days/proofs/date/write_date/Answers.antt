use Rattle.std.proofs.Common.{◌∷◌, ◌++◌, [], arith}
use Rattle.std.proofs.lemmas.Grind.{common_steps}
use Rattle.days.proofs.Dating.{writing_reads}
use Rattle.days.proofs.date.write_date.Goals as goal

pub returns-clause-reads_back : goal.returns-clause-reads_back
returns-clause-reads_back c = writing_reads c.args.day (32 ∷ (c.put_digits.new.out ++ [])) (grind (arith, common_steps))
