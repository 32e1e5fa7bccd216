-- Each edit of a list is taken back by another, which is never refused: what undoing rests on.
use Rattle.std.specs.Prelude.{◌≡◌, ℕ, ◌≤◌, List, length, Ok, slice_set}
use Rattle.std.specs.List.{remove}
use Rattle.cells.specs.declared.CellList.{CellList}
use Rattle.cells.specs.Entries.{entries, room, row_answer, insert_answer, insert_after}

pub record ListLaws (X : Type 0) : Type 0 where
  -- no list has more entries than room
  pub within : (l : CellList X) → length (entries l) ≤ room l
  -- an insertion, by removing at its row: that answers what was inserted
  pub insert_taken_back : (most : ℕ) (xs : List X) (row : ℕ) (x : X) → insert_answer most xs row ≡ Ok tt → (row_answer (insert_after most xs row x) row ≡ Ok x) × (remove (insert_after most xs row x) row ≡ xs)
  -- a removal, by inserting what it answered at its row: there is room for that
  pub remove_taken_back : (most : ℕ) (xs : List X) (row : ℕ) (x : X) → length xs ≤ most → row_answer xs row ≡ Ok x → (insert_answer most (remove xs row) row ≡ Ok tt) × (insert_after most (remove xs row) row x ≡ xs)
  -- a replacement, by replacing with what it answered: that answers what it had put there
  pub replace_taken_back : (xs : List X) (row : ℕ) (old x : X) → row_answer xs row ≡ Ok old → (row_answer (slice_set xs row x) row ≡ Ok x) × (slice_set (slice_set xs row x) row old ≡ xs)
