-- Sets of days, each a test on numbers, and the least member that is not below a day. Days are 0 to 36,524.
use Rattle.std.specs.Prelude.{◌≡◌, ℕ, zero, suc, ◌+◌, ◌-◌, ◌%◌, ◌≤◌, Bool, true, false, cond, ◌&&◌, List, Some, None, Ok, Err, Option, Result, ◌≢◌, nat_le, nat_lt, slice_index_or}
use Rattle.terms.specs.declared.cause.InputCause.{InputCause}
use Rattle.terms.specs.declared.cause.InputCause.TheVariants.{NoDate}
use Rattle.days.specs.Dates.{first_day_of, year_length}

-- the first of the n days from d on that is in the set
unfoldable pub first_member : (ℕ → Bool) → ℕ → ℕ → Option ℕ
first_member f zero d = None
first_member f (suc n) d = cond (f d) (Some d) (first_member f n (suc d))

-- the least member not below d
unfoldable pub next_member : (ℕ → Bool) → ℕ → Option ℕ
next_member f d = first_member f (36525 - d) d

-- the set has no member past the last day
abbrev pub Within : (ℕ → Bool) → Type 0
Within f = (k : ℕ) → f k ≡ true → k ≤ 36524

-- the answer is the least member not below d, and absent exactly if there is none
abbrev pub Least : (ℕ → Bool) → ℕ → Option ℕ → Type 0
Least f d None = (k : ℕ) → d ≤ k → f k ≢ true
Least f d (Some e) = (d ≤ e) × (f e ≡ true) × ((k : ℕ) → d ≤ k → f k ≡ true → e ≤ k)

-- all days
abbrev pub all_days : ℕ → Bool
all_days d = nat_le d 36524

-- Mondays to Fridays: day 0 is a Saturday
abbrev pub week_days : ℕ → Bool
week_days d = nat_le d 36524 && nat_le 2 (d % 7)

-- the days of year y whose flag is true
abbrev pub table_days : ℕ → List Bool → ℕ → Bool
table_days y flags d = nat_le (first_day_of y) d && (nat_lt d (first_day_of y + year_length y) && slice_index_or flags (d - first_day_of y) false)

-- a year table by its year and flags
abbrev pub table_making : ℕ → List Bool → Result (ℕ × List Bool) InputCause
table_making y flags = cond (nat_le y 99) (Ok (y, flags)) (Err NoDate)
