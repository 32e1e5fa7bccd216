-- A list of entered days: which are in it, and what entering one more does.
use Rattle.std.specs.Prelude.{◌≡◌, ℕ, Bool, true, cond, not, ◌&&◌, List, [], ◌∷◌, ◌++◌, length, is_ok, Ok, Err, Result, ◌==◌, nat_le, nat_lt}
use Rattle.std.specs.List.{list_any}
use Rattle.terms.specs.declared.cause.Cause.{Cause}
use Rattle.terms.specs.declared.cause.Cause.TheVariants.{Input, State}
use Rattle.terms.specs.declared.cause.InputCause.TheVariants.{NoDate}
use Rattle.terms.specs.declared.cause.StateCause.TheVariants.{TableFull}

abbrev pub among : List ℕ → ℕ → Bool
among xs d = list_any (λ x. x == d) xs

-- no day stands in it twice
abbrev pub apart : List ℕ → Bool
apart [] = true
apart (x ∷ xs) = not (among xs x) && apart xs

-- the days after d is entered: one more where it is a new day and there is room, else the same
abbrev pub entry_after : List ℕ → ℕ → List ℕ
entry_after xs d = cond (nat_lt 36524 d) xs (cond (among xs d) xs (cond (nat_le 64 (length xs)) xs (xs ++ (d ∷ []))))

-- how many days are entered then, or why d is refused
abbrev pub entry_answer : List ℕ → ℕ → Result ℕ Cause
entry_answer xs d =
    cond (nat_lt 36524 d) (Err (Input NoDate))
    (cond (not (among xs d) && nat_le 64 (length xs)) (Err (State TableFull))
    (Ok (length (entry_after xs d))))

-- the set f less the entered days
abbrev pub less : (ℕ → Bool) → List ℕ → ℕ → Bool
less f xs d = f d && not (among xs d)

-- entering a day takes that day out of the set, and no other; where it is refused, the set is as it was
abbrev pub EnteringClosesOne : Type 0
EnteringClosesOne = (f : ℕ → Bool) (xs : List ℕ) (day d : ℕ) → less f (entry_after xs day) d ≡ (less f xs d && not (is_ok (entry_answer xs day) && day == d))
