-- A line that is written from the left, field by field.
use Rattle.std.proofs.Common.{◌≡◌, ℕ, List, [], length, sym, refl, arith}
use Rattle.std.proofs.lemmas.List.{take_all}
use Rattle.places.specs.Fronts.{front}

pub front_none : (bs : List ℕ) → front 0 bs ≡ []
unfolding front
front_none bs = refl

pub front_all : (bs : List ℕ) (n : ℕ) → length bs ≡ n → bs ≡ front n bs
unfolding front
front_all bs n h = sym (take_all n bs (omega arith))
