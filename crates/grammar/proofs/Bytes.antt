-- The bytes are read up to a line feed as one line, and where none follows as the end: what a reader that looks for line feeds steps by.
use Rattle.std.proofs.Common.{◌≡◌, ℕ, ◌+◌, true, List, ◌∷◌, ◌++◌, ap}
use Rattle.lines.specs.Feeds.{plain}
use Rattle.grammar.specs.Cuts.{Cut}
use Rattle.grammar.specs.Headings.{Setting}
use Rattle.grammar.specs.Next.{Said}
use Rattle.grammar.specs.Reading.{finish, onward, reading_on, step, walk}
use Rattle.grammar.proofs.Cuts.{cut_line, cut_rest}

module _ (g : Setting) (n : ℕ) (s : Said) where
  pub reading_cut : (l tail : List ℕ) → plain l ≡ true → reading_on g n s (l ++ 10 ∷ tail) ≡ onward n (step g s l) (λ to. reading_on g (n + 1) to tail)
  unfolding reading_on walk
  reading_cut l tail p = ap (λ (c : Cut). walk g n s c.lines c.rest) (cut_line l tail p)

  pub reading_end : (rest : List ℕ) → plain rest ≡ true → reading_on g n s rest ≡ finish n s rest
  unfolding reading_on walk
  reading_end rest p = ap (λ (c : Cut). walk g n s c.lines c.rest) (cut_rest rest p)
