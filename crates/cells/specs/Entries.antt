-- The entries of a list that lies in lent cells, what each call answers, and what it leaves.
use Rattle.std.specs.Prelude.{◌≡◌, ℕ, min, cond, ◌&&◌, List, [], ◌∷◌, ◌++◌, length, take, Ok, Err, Result, nat_le, nat_lt}
use Rattle.std.specs.List.{slice_get, insert}
use Rattle.std.specs.Option.{ok_or}
use Rattle.cells.specs.declared.CellList.{CellList}
use Rattle.cells.specs.declared.fault.ListFault.{ListFault}
use Rattle.cells.specs.declared.fault.ListFault.TheVariants.{Full, NoSuchRow}

-- the entries: as many of the first 4,000 cells as the list counts
abbrev pub entries : {X : Type 0} → CellList X → List X
entries l = take l.len (take 4000 l.cells.now)

-- how many entries there is room for
abbrev pub room : {X : Type 0} → CellList X → ℕ
room l = min (length l.cells.now) 4000

-- a list that still lies in the same lent cells, with the same room
abbrev pub SameCells : {X : Type 0} → CellList X → CellList X → Type 0
SameCells old new = (room new ≡ room old) × (new.cells.ghost_name ≡ old.cells.ghost_name)

-- the entry at a row, for the calls that answer it
abbrev pub row_answer : {X : Type 0} → List X → ℕ → Result X ListFault
row_answer xs row = ok_or (slice_get xs row) NoSuchRow

-- one entry more goes in while the list is not full
abbrev pub push_answer : {X : Type 0} → ℕ → List X → Result (Unit {0}) ListFault
push_answer most xs = cond (nat_lt (length xs) most) (Ok tt) (Err Full)

abbrev pub push_after : {X : Type 0} → ℕ → List X → X → List X
push_after most xs x = cond (nat_lt (length xs) most) (xs ++ x ∷ []) xs

-- and at a row only where that is in the list, or right after the last
abbrev pub insert_answer : {X : Type 0} → ℕ → List X → ℕ → Result (Unit {0}) ListFault
insert_answer most xs row = cond (nat_le row (length xs)) (push_answer most xs) (Err NoSuchRow)

abbrev pub insert_after : {X : Type 0} → ℕ → List X → ℕ → X → List X
insert_after most xs row x = cond (nat_le row (length xs) && nat_lt (length xs) most) (insert xs row x) xs
