-- The entries of a list are a front of its cells.
use Rattle.std.proofs.Common.{◌≡◌, ℕ, ◌<◌, min, List, length, take, sym, ◌∙◌, arith}
use Rattle.std.proofs.lemmas.List.{same_lists, length-take, get_or-take}

pub front_entries : {X : Type 0} (n m k : ℕ) (xs : List X) → k ≡ min n (min (length xs) m) → take n (take m xs) ≡ take k xs
front_entries n m k xs e =
    let a = length-take n (take m xs) in
    let b = length-take m xs in
    same_lists _ _
    (omega (arith, a, b, length-take k xs))
    (λ i d h.
    let l : i < k = omega (arith, a, b) in
    get_or-take n (take m xs) i d (omega arith) ∙ get_or-take m xs i d (omega arith) ∙ sym (get_or-take k xs i d l))
