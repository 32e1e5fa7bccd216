use Rattle.std.specs.Result.{result_map_both}
use Rattle.records.specs.Contras.{contra_says}
use Rattle.records.proofs.ContraReading.{body_read}
use Rattle.records.proofs.contra_line.read_contra.Goals as goal

pub returns : goal.returns
returns c =
    let k = c.args.context.now in
    body_read k.service k.originator k.total k.narrative c.args.line.now (result_map_both contra_says (λ e. e) c.read_body.result) c.in_ok-at.ensures.value c.in_ok-at-2.ensures.value c.in_ok-at-3.ensures.value c.in_ok-at-4.ensures.value c.read_body.ensures
