use Rattle.std.proofs.Common.{ℕ, List, ap, ◌∙◌}
use Rattle.std.specs.Str.{bytes_eq}
use Rattle.fields.specs.Words.{blank}
use Rattle.labels.specs.Volumes.{has_sun}
use Rattle.labels.proofs.volume_line.names_sun.Goals as goal

pub returns : goal.returns
unfolding has_sun
returns c = c.eq.ensures ∙ ap (λ (l : List ℕ). bytes_eq l (blank 6)) c.part.ensures.value
