use Rattle.std.proofs.Common.{◌≡◌, ℕ, List, ◌++◌, length, drop, slice_set, sym, ap, ◌∙◌, arith, length-take}
use Rattle.lines.specs.Feeds.{line_reading, put_after}
use Rattle.lines.specs.Places.{place_reading}
use Rattle.lines.proofs.Feeding.{line_back, put_line}
use Rattle.lines.proofs.line.write_line.Goals as goal

pub returns-clause-back : goal.returns-clause-back
returns-clause-back g c fits ok =
    let out = c.args.out.now in
    let long = g.L.Line.LENGTH in
    let context = c.args.context.now in
    let value = c.args.value.now in
    let image = g.L.Line.image context value in
    let xs : List ℕ = c.write.new.out in
    let written : xs ≡ image = c.write.ensures in
    let sized : length image ≡ long = ap length (sym written) ∙ c.write.auto.out ∙ length-take _ out ∙ omega arith in
    let put : slice_set (xs ++ drop c.LENGTH-2.result out) c.LENGTH-3.result 10 ≡ put_after long image out = rw (c.LENGTH-2.ensures, c.LENGTH-3.ensures, written) (put_line image out long sized (omega arith)) in
    ap (line_reading {X = g.L.Line.Says} long (λ l. place_reading (g.L.Line.place context l) l)) put
    ∙ line_back {X = g.L.Line.Says} long (λ l. place_reading (g.L.Line.place context l) l) image out (g.L.Line.says value) (omega arith) (g.met.L.Line.unbroken context value fits) sized (g.met.L.Line.back context value fits)
