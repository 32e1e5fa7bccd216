-- A count by a fold: the number of days so far, in 32 bits.
use Rattle.std.proofs.Common.{◌≡◌, ℕ, ◌+◌, ◌<◌, ◌^◌, ◌%◌, Bool, true, false, cond, List, [], ◌∷◌, length, refl, arith}
use Rattle.std.specs.List.{fold}
use Rattle.std.proofs.Math.Nat.{mod-eq_of_lt}

abbrev pub one_more : (ℕ → Bool) → ℕ → ℕ → ℕ
one_more f n d = (n + cond (f d) 1 0) % 2 ^ 32

-- in 32 bits or in none, where there are few enough days
pub count_folds : (f : ℕ → Bool) (xs : List ℕ) (k : ℕ) → k + length xs < 2 ^ 32 → fold (one_more f) k xs ≡ fold (λ n d. n + cond (f d) 1 0) k xs
count_folds f [] k h = refl
count_folds f (x ∷ xs) k h = by_day (f x) (count_folds f xs)
  where
    by_day : (b : Bool) → ((j : ℕ) → j + length xs < 2 ^ 32 → fold (one_more f) j xs ≡ fold (λ n d. n + cond (f d) 1 0) j xs) → fold (one_more f) ((k + cond b 1 0) % 2 ^ 32) xs ≡ fold (λ n d. n + cond (f d) 1 0) (k + cond b 1 0) xs
    by_day true more =
        let small : k + 1 < 2 ^ 32 = omega (arith, h) in
        rw (mod-eq_of_lt small) (more (k + 1) (omega (arith, h)))
    by_day false more =
        let small : k + 0 < 2 ^ 32 = omega (arith, h) in
        rw (mod-eq_of_lt small) (more (k + 0) (omega (arith, h)))
