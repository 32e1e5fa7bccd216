use Rattle.std.proofs.Common.{rules, ◌≡◌, ◌+◌, ℕ, length, ap, ◌∙◌, arith}
use Rattle.lines.specs.Faults.{fault_of}
use Rattle.tables.specs.Kinds.{width}
use Rattle.tables.specs.Walks.{field_reading, part, placed, reading}
use Rattle.places.proofs.Placing.{placed_allowed, placed_by}
use Rattle.places.proofs.field.Field.at.Goals as goal

pub returns-clause-value : goal.returns-clause-value
unfolding field_reading
returns-clause-value g c =
    let k = g.Self.Field.kind c.args.self.now in
    let place = c.args.from + 1 in
    let bytes = c.part-bytes.ensures.value ∙ ap (λ (w : ℕ). part c.args.from (c.args.from + w) c.args.line.now) c.places.ensures in
    placed_by (g.Self.Field.says c.args.self.now) fault_of place _ (λ e d h. search rules) c.read.result c.map_err.result c.map_err.ensures.cases
    ∙ ap (placed fault_of place) (c.read.ensures ∙ ap (reading k) bytes)

pub returns-clause-allowed : goal.returns-clause-allowed
returns-clause-allowed g c =
    let k = g.Self.Field.kind c.args.self.now in
    let wide : length c.part-bytes.result.now ≡ width k = omega (arith, c.part-bytes.ensures.len, c.places.ensures) in
    placed_allowed k (g.Self.Field.says c.args.self.now) c.part-bytes.result.now _ c.read.result c.map_err.result wide c.read.ensures c.map_err.ensures.cases
