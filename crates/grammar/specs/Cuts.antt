-- Lines and line feeds.
use Rattle.std.specs.Prelude.{ℕ, cond, List, [], ◌∷◌, ◌++◌, ◌==◌}

-- a line feed ends every line
abbrev pub feeds : List (List ℕ) → List ℕ
feeds [] = []
feeds (l ∷ ls) = l ++ 10 ∷ feeds ls

pub record Cut : Type 0 where
  pub lines : List (List ℕ)
  -- what follows the last line feed
  pub rest : List ℕ

-- one byte more in front of the first line
abbrev pub in_front : ℕ → List (List ℕ) → List ℕ → Cut
in_front b [] rest = record { lines = []; rest = b ∷ rest }
in_front b (l ∷ ls) rest = record { lines = (b ∷ l) ∷ ls; rest = rest }

unfoldable pub cut : List ℕ → Cut
cut [] = record { lines = []; rest = [] }
cut (b ∷ bs) = cond (b == 10) (record { lines = [] ∷ (cut bs).lines; rest = (cut bs).rest }) (in_front b (cut bs).lines (cut bs).rest)
