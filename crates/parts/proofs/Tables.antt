-- Fields searched by the place where they begin.
use Rattle.std.specs.Prelude.{◌≡◌, ℕ, ◌+◌, List, [], ◌∷◌, map, find, ◌==◌}
use Rattle.std.specs.Option.{option_map}
use Rattle.std.proofs.Common.{refl, arith}
use Rattle.parts.specs.Places.{fields_from, field_from}

-- a search through fields that tile a line finds what the line has at the place
pub found : {N : Type 0} (place first : ℕ) (fields : List (N × ℕ × ℕ)) (lasts : List ℕ)
    → map (λ f. (f.1, f.2)) fields ≡ fields_from first lasts
    → option_map (λ f. (f.1, f.2)) (find (λ f. place == f.1) fields) ≡ field_from first lasts place
found place first [] [] e = refl
found place first [] (last ∷ lasts) e = cc
found place first (field ∷ fields) [] e = cc
found place first (field ∷ fields) (last ∷ lasts) e = grind (arith, found place (last + 1) fields lasts)
