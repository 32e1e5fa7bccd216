-- Cells that moved by one: the front of them is the list with an entry more or less.
use Rattle.std.proofs.Common.{◌≡◌, ℕ, ◌+◌, ◌-◌, ◌<◌, ◌≤◌, ◌≢◌, List, length, get_or, take, set, sym, ap, ◌∙◌, ⊎_elim, arith}
use Rattle.std.specs.List.{insert, remove, CopiedTo, SameBelow}
use Rattle.std.proofs.lemmas.List.Edits.{length-insert, get_or-insert_at, get_or-insert_below, get_or-insert_above, length-remove, get_or-remove_below, get_or-remove_above}
use Rattle.std.proofs.lemmas.List.{same_lists, length-set, length-take-le, get_or-set_same, get_or-set_other, get_or-take}
use Rattle.std.proofs.lemmas.Bool.{cases_eq, cases_lt}

-- cells are was, with those from i up to before n moved up by one
pub opened_all : {X : Type 0} (was cells : List X) (i n : ℕ) (x : X) → i ≤ n → n < length was → length cells ≡ length was → CopiedTo was cells i (i + 1) (n - i) → SameBelow was cells (i + 1) → take (n + 1) (set cells i x) ≡ insert (take n was) i x
opened_all was cells i n x le lt l moved low =
    let ln : length (take n was) ≡ n = length-take-le n was (omega arith) in
    let li : i ≤ length (take n was) = omega arith in
    let la : length (take (n + 1) (set cells i x)) ≡ n + 1 = length-take-le (n + 1) (set cells i x) (omega (arith, length-set cells i x)) in
    same_lists _ _
    (la ∙ sym (length-insert (take n was) i x li ∙ ap (λ m. m + 1) ln))
    (λ k d h.
    let kn : k < n + 1 = omega arith in
    get_or-take (n + 1) (set cells i x) k d kn
    ∙ ⊎_elim
    (λ (q : k ≡ i). rw q (get_or-set_same cells i x d (omega arith) ∙ sym (get_or-insert_at (take n was) i x d li)))
    (λ (ne : k ≢ i).
    get_or-set_other cells i k x d ne
    ∙ ⊎_elim
    (λ (b : k < i). low k d (omega arith) ∙ sym (get_or-insert_below (take n was) i x d k b li ∙ get_or-take n was k d (omega arith)))
    (λ (b : i ≤ k).
    let e : i + (k - (i + 1)) ≡ k - 1 = omega arith in
    let up : k - 1 + 1 ≡ k = omega arith in
    let at : get_or (insert (take n was) i x) k d ≡ get_or (take n was) (k - 1) d =
    ap (λ m. get_or (insert (take n was) i x) m d) (sym up) ∙ get_or-insert_above (take n was) i x d (k - 1) (omega arith) li in
    moved k d (omega arith) (omega arith) ∙ ap (λ m. get_or was m d) e ∙ sym (at ∙ get_or-take n was (k - 1) d (omega arith)))
    (cases_lt k i))
    (cases_eq k i))

-- cells are was, with those after i, up to before n, moved down by one
pub closed_all : {X : Type 0} (was cells : List X) (i n : ℕ) → i < n → n ≤ length was → length cells ≡ length was → CopiedTo was cells (i + 1) i (n - (i + 1)) → SameBelow was cells i → take (n - 1) cells ≡ remove (take n was) i
closed_all was cells i n lt le l moved low =
    let ln : length (take n was) ≡ n = length-take-le n was le in
    let li : i < length (take n was) = omega arith in
    let la : length (take (n - 1) cells) ≡ n - 1 = length-take-le (n - 1) cells (omega arith) in
    let lr : length (remove (take n was) i) + 1 ≡ length (take n was) = length-remove (take n was) i li in
    same_lists _ _
    (omega arith)
    (λ k d h.
    let kn : k < n - 1 = omega arith in
    get_or-take (n - 1) cells k d kn
    ∙ ⊎_elim
    (λ (b : k < i). low k d b ∙ sym (get_or-remove_below (take n was) i d k b li ∙ get_or-take n was k d (omega arith)))
    (λ (b : i ≤ k).
    let e : i + 1 + (k - i) ≡ k + 1 = omega arith in
    moved k d b (omega arith) ∙ ap (λ m. get_or was m d) e ∙ sym (get_or-remove_above (take n was) i d k b li ∙ get_or-take n was (k + 1) d (omega arith)))
    (cases_lt k i))
