-- The line of some values, laid out from the left.
use Rattle.std.specs.Prelude.{ℕ, List, [], ◌∷◌, ◌++◌}
use Rattle.tables.specs.Forms.{shown}
use Rattle.tables.specs.Kinds.Kind.{fixed, letters, number}
use Rattle.tables.specs.Lines.{Table, By}

-- after the bytes that stand already
abbrev pub laid_after : (t : Table) → List ℕ → By t (List ℕ)
laid_after [] bs = bs
laid_after (fixed c cs ∷ ks) bs = laid_after ks (bs ++ cs)
laid_after (letters w rs ∷ ks) bs = λ v. laid_after ks (bs ++ v)
laid_after (number m c rs ∷ ks) bs = λ v. laid_after ks (bs ++ shown m v)

abbrev pub laid : (t : Table) → By t (List ℕ)
laid t = laid_after t []
