-- A number in decimal digits, in a fixed number of places.
use Rattle.std.specs.Prelude.{◌≡◌, ℕ, zero, suc, ◌+◌, ◌-◌, ◌*◌, ◌/◌, ◌%◌, ◌^◌, ◌<◌, ◌≤◌, Bool, true, cond, ◌&&◌, List, [], ◌∷◌, ◌++◌, length, Ok, Err, Result, nat_le}
use Rattle.std.specs.Char.{is_ascii_digit}
use Rattle.terms.specs.declared.cause.InputCause.{InputCause}
use Rattle.terms.specs.declared.cause.InputCause.TheVariants.{NotANumber}

-- each byte is `0` to `9`
abbrev pub all_digits : List ℕ → Bool
all_digits [] = true
all_digits (b ∷ bs) = is_ascii_digit b && all_digits bs

-- the number that digits write after those of n
abbrev pub read_on : ℕ → List ℕ → ℕ
read_on n [] = n
read_on n (b ∷ bs) = read_on (n * 10 + (b - 48)) bs

abbrev pub number_in : List ℕ → ℕ
number_in bs = read_on 0 bs

-- what a field of digits says
abbrev pub digits_reading : List ℕ → Result ℕ InputCause
digits_reading bs = cond (nat_le (length bs) 19 && all_digits bs) (Ok (number_in bs)) (Err NotANumber)

-- the last w digits of n, with zeros in front
unfoldable pub decimal : ℕ → ℕ → List ℕ
decimal zero n = []
decimal (suc w) n = decimal w (n / 10) ++ (48 + n % 10) ∷ []

-- what is written of a number that fits reads as that number; what is read as a number has no other digits
pub record DigitLaws : Type 0 where
  pub written_reads : (w n : ℕ) → w ≤ 19 → n < 10 ^ w → digits_reading (decimal w n) ≡ Ok n
  pub one_writing : (bs : List ℕ) (n : ℕ) → digits_reading bs ≡ Ok n → (n < 10 ^ length bs) × (decimal (length bs) n ≡ bs)
