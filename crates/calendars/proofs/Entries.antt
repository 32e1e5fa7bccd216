-- A list of entered days, and one more.
use Rattle.std.proofs.Common.{◌≡◌, ℕ, Bool, true, false, not, eqb, List, [], ◌∷◌, ◌++◌, sym, refl, arith}
use Rattle.std.proofs.lemmas.List.Folds.{list_any-append}
use Rattle.std.proofs.lemmas.Bool.Decides.{nat_tests}
use Rattle.std.proofs.lemmas.Bool.{and_parts, and_from, and_right, not_from_false, not_from_true}
use Rattle.calendars.specs.Entered.{among, apart, less}

pub apart_push : (xs : List ℕ) (d : ℕ) → apart xs ≡ true → among xs d ≡ false → apart (xs ++ (d ∷ [])) ≡ true
apart_push [] d a h = refl
apart_push (x ∷ xs) d a h = grind (arith, nat_tests, list_any-append (λ y. eqb y x) xs (d ∷ []), apart_push xs d)

pub less_part : (f : ℕ → Bool) (xs : List ℕ) (d : ℕ) → less f xs d ≡ true → f d ≡ true
less_part f xs d t = (and_parts (f d) (not (among xs d)) t).0

pub less_open : (f : ℕ → Bool) (xs : List ℕ) (d : ℕ) → f d ≡ true → false ≡ among xs d → less f xs d ≡ true
less_open f xs d t n = and_from (f d) (not (among xs d)) t (not_from_false (among xs d) (sym n))

pub less_closed : (f : ℕ → Bool) (xs : List ℕ) (d : ℕ) → true ≡ among xs d → less f xs d ≡ false
less_closed f xs d t = and_right (f d) (not (among xs d)) (not_from_true (among xs d) (sym t))
