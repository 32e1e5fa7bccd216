-- Each edit is taken back by another: the laws of a list.
use Rattle.std.proofs.Common.{◌≡◌, ℕ, zero, suc, ◌<◌, ◌≤◌, Bool, true, false, cond, ltb, leb, List, [], ◌∷◌, length, take, set, Some, None, Ok, Err, Option, sym, refl, ap, ◌∙◌, arith}
use Rattle.std.specs.List.{slice_get, insert, remove}
use Rattle.std.specs.Option.{ok_or}
use Rattle.std.proofs.lemmas.List.Edits.{length-remove}
use Rattle.std.proofs.lemmas.List.{length-take}
use Rattle.std.proofs.lemmas.Bool.{leb-true, ltb-true}
use Rattle.cells.specs.declared.CellList.{CellList}
use Rattle.cells.specs.declared.fault.ListFault.TheVariants.{Full, NoSuchRow}
use Rattle.cells.specs.Entries.{entries, room, row_answer, insert_answer, insert_after}
use Rattle.cells.specs.Laws.{ListLaws}
use Rattle.cells.proofs.Outcomes.{row_there, insert_done}

-- What an answer tells of the list.

both_tests : (b c : Bool) → cond b (cond c (Ok (tt {0})) (Err Full)) (Err NoSuchRow) ≡ Ok tt → (b ≡ true) × (c ≡ true)
both_tests true true h = (refl, refl)
both_tests true false h = let z : ◌≡◌ {A = ℕ} 0 1 = cc in absurd (omega arith)
both_tests false c h = let z : ◌≡◌ {A = ℕ} 0 1 = cc in absurd (omega arith)

pub insert_fits : {X : Type 0} (most : ℕ) (xs : List X) (i : ℕ) → insert_answer most xs i ≡ Ok tt → (i ≤ length xs) × (length xs < most)
insert_fits most xs i h =
    let p = both_tests (leb i (length xs)) (ltb (length xs) most) h in
    (leb-true i (length xs) p.0, ltb-true (length xs) most p.1)

some_from_ok : {X : Type 0} (o : Option X) (x : X) → ok_or o NoSuchRow ≡ Ok x → o ≡ Some x
some_from_ok None x h = let z : ◌≡◌ {A = ℕ} 0 1 = cc in absurd (omega arith)
some_from_ok (Some y) x h = cc

pub row_found : {X : Type 0} (xs : List X) (i : ℕ) (x : X) → row_answer xs i ≡ Ok x → slice_get xs i ≡ Some x
row_found xs i x h = some_from_ok (slice_get xs i) x h

-- The lists.

inserted_back : {X : Type 0} (xs : List X) (i : ℕ) (x : X) → i ≤ length xs → (slice_get (insert xs i x) i ≡ Some x) × (remove (insert xs i x) i ≡ xs)
inserted_back xs zero x h = (refl, refl)
inserted_back [] (suc i) x h = absurd (omega arith)
inserted_back (y ∷ ys) (suc i) x h = let p = inserted_back ys i x (omega arith) in (p.0, ap (λ l. y ∷ l) p.1)

removed_back : {X : Type 0} (xs : List X) (i : ℕ) (x : X) → slice_get xs i ≡ Some x → (i < length xs) × (insert (remove xs i) i x ≡ xs)
removed_back [] i x h = let z : ◌≡◌ {A = ℕ} 0 1 = cc in absurd (omega arith)
removed_back (y ∷ ys) zero x h = let e : x ≡ y = cc in (omega arith, ap (λ z. z ∷ ys) e)
removed_back (y ∷ ys) (suc i) x h = let p = removed_back ys i x h in (omega (arith, p.0), ap (λ l. y ∷ l) p.1)

replaced_back : {X : Type 0} (xs : List X) (i : ℕ) (old x : X) → slice_get xs i ≡ Some old → (slice_get (set xs i x) i ≡ Some x) × (set (set xs i x) i old ≡ xs)
replaced_back [] i old x h = let z : ◌≡◌ {A = ℕ} 0 1 = cc in absurd (omega arith)
replaced_back (y ∷ ys) zero old x h = let e : old ≡ y = cc in (refl, ap (λ z. z ∷ ys) e)
replaced_back (y ∷ ys) (suc i) old x h = let p = replaced_back ys i old x h in (p.0, ap (λ l. y ∷ l) p.1)

-- The laws.

module _ {X : Type 0} where
  pub within : (l : CellList X) → length (entries l) ≤ room l
  within l = omega (arith, length-take l.len (take 4000 l.cells.now), length-take 4000 l.cells.now)

  insert_taken_back : (most : ℕ) (xs : List X) (row : ℕ) (x : X) → insert_answer most xs row ≡ Ok tt → (row_answer (insert_after most xs row x) row ≡ Ok x) × (remove (insert_after most xs row x) row ≡ xs)
  insert_taken_back most xs row x h =
      let fits = insert_fits most xs row h in
      let done = (insert_done most xs row x fits.0 fits.1).after in
      let p = inserted_back xs row x fits.0 in
      (sym (ap (λ l. row_answer l row) done) ∙ sym (row_there (insert xs row x) row x p.0), sym (ap (λ l. remove l row) done) ∙ p.1)

  remove_taken_back : (most : ℕ) (xs : List X) (row : ℕ) (x : X) → length xs ≤ most → row_answer xs row ≡ Ok x → (insert_answer most (remove xs row) row ≡ Ok tt) × (insert_after most (remove xs row) row x ≡ xs)
  remove_taken_back most xs row x le h =
      let p = removed_back xs row x (row_found xs row x h) in
      let one = length-remove xs row p.0 in
      let o = insert_done most (remove xs row) row x (omega (arith, p.0, one)) (omega (arith, one)) in
      (sym o.answer, sym o.after ∙ p.1)

  replace_taken_back : (xs : List X) (row : ℕ) (old x : X) → row_answer xs row ≡ Ok old → (row_answer (set xs row x) row ≡ Ok x) × (set (set xs row x) row old ≡ xs)
  replace_taken_back xs row old x h =
      let p = replaced_back xs row old x (row_found xs row old h) in
      (sym (row_there (set xs row x) row x p.0), p.1)

  pub list_laws : ListLaws X
  list_laws = record { within = within; insert_taken_back = insert_taken_back; remove_taken_back = remove_taken_back; replace_taken_back = replace_taken_back }
