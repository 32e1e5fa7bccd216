use Rattle.std.proofs.Common.{Bool, cond, ap, ◌∙◌}
use Rattle.lines.specs.Places.{place_reading, stands}
use Rattle.labels.specs.Volumes.{Vol1Says, vol1_marked, vol1_sun, volume}
use Rattle.labels.specs.Volumes.OwnerSays.{marked, numbered}
use Rattle.labels.proofs.volume_line.Vol1LabelLine.read.Goals as goal

pub returns-then-names_sun : goal.returns-then-names_sun
returns-then-names_sun c =
    let l = c.args.line.now in
    c.read_sun.ensures ∙ ap (λ (b : Bool). place_reading (cond b (stands {X = Vol1Says} vol1_sun (λ s free n. volume (numbered n) s)) (stands vol1_marked (λ s free m. volume (marked m) s))) l) c.if-names_sun.ensures

pub returns-else-names_sun : goal.returns-else-names_sun
returns-else-names_sun c =
    let l = c.args.line.now in
    c.read_marked.ensures ∙ ap (λ (b : Bool). place_reading (cond b (stands {X = Vol1Says} vol1_sun (λ s free n. volume (numbered n) s)) (stands vol1_marked (λ s free m. volume (marked m) s))) l) c.if-names_sun.ensures
