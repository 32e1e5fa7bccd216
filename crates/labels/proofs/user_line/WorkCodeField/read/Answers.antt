use Rattle.std.proofs.Common.{ℕ, List, ap, ◌∙◌}
use Rattle.fields.specs.Judging.{verdict}
use Rattle.fields.specs.Words.{head}
use Rattle.labels.specs.Users.{work}
use Rattle.labels.specs.UserLaws.{only_read}
use Rattle.labels.proofs.user_line.WorkCodeField.read.Goals as goal

pub returns : goal.returns
returns c =
    let text = work c.args.self.now.service c.args.self.now.multi in
    only_read 9 text c.args.bytes.now c.judge_fixed.result (c.judge_fixed.ensures ∙ ap (λ (t : List ℕ). verdict (head t) c.args.bytes.now) c.work_code.ensures)
