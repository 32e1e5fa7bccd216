-- What a call answers and leaves, in each case that its tests tell apart.
use Rattle.std.proofs.Common.{◌≡◌, ℕ, suc, ◌<◌, ◌≤◌, true, ltb, leb, List, length, Some, Ok, Result, sym, refl, ap, append-nil, arith}
use Rattle.std.specs.List.{slice_get, insert, remove}
use Rattle.std.specs.Option.{ok_or}
use Rattle.std.proofs.lemmas.List.{take_all, drop_all}
use Rattle.std.proofs.lemmas.Bool.{le-leb, lt-ltb}
use Rattle.cells.specs.declared.fault.ListFault.{ListFault}
use Rattle.cells.specs.declared.fault.ListFault.TheVariants.{NoSuchRow}
use Rattle.cells.specs.Entries.{row_answer, insert_answer, insert_after}

-- a row that is there
pub row_there : {X : Type 0} (xs : List X) (i : ℕ) (x : X) → slice_get xs i ≡ Some x → Ok x ≡ row_answer xs i
row_there xs i x e = sym (ap (λ o. ok_or o NoSuchRow) e)

-- where there is no such row, a removal leaves the list
pub removed_past : {X : Type 0} (xs : List X) (i : ℕ) → length xs ≤ i → remove xs i ≡ xs
removed_past xs i h = rw (take_all i xs h, drop_all (suc i) xs (omega arith)) (append-nil xs)

-- that an insertion answers r, and leaves ys
pub record Inserts {X : Type 0} (most : ℕ) (xs : List X) (i : ℕ) (x : X) (r : Result (Unit {0}) ListFault) (ys : List X) : Type 0 where
  pub answer : r ≡ insert_answer most xs i
  pub after : ys ≡ insert_after most xs i x

pub insert_done : {X : Type 0} (most : ℕ) (xs : List X) (i : ℕ) (x : X) → i ≤ length xs → length xs < most → Inserts most xs i x (Ok tt) (insert xs i x)
insert_done most xs i x h f =
    let t : leb i (length xs) ≡ true = le-leb i (length xs) h in
    let u : ltb (length xs) most ≡ true = lt-ltb (length xs) most f in
    record { answer = rw (t, u) refl; after = rw (t, u) refl }
