-- Days by number, and their text: a space, two digits YY of the year and three digits DDD of the day of the year.
use Rattle.std.specs.Prelude.{◌≡◌, ℕ, ◌+◌, ◌-◌, ◌*◌, ◌/◌, ◌%◌, ◌≤◌, Bool, cond, ◌&&◌, List, [], ◌∷◌, length, take, drop, Ok, Err, codes, Result, ◌==◌, nat_le}
use Rattle.std.specs.Str.{bytes_eq}
use Rattle.terms.specs.declared.cause.InputCause.{InputCause}
use Rattle.terms.specs.declared.cause.InputCause.TheVariants.{NoDate}
use Rattle.digits.specs.Decimal.{all_digits, number_in, decimal}

-- The number of the first day of year y, and how many days it has.

abbrev pub first_day_of : ℕ → ℕ
first_day_of y = 365 * y + (y + 3) / 4

abbrev pub year_length : ℕ → ℕ
year_length y = cond (y % 4 == 0) 366 365

-- the number of day k of year y, k from 1
abbrev pub day_number : ℕ → ℕ → ℕ
day_number y k = 365 * y + (y + 3) / 4 + k - 1

-- whether year y has a day k
abbrev pub in_year : ℕ → ℕ → Bool
in_year y k = nat_le 1 k && nat_le k (year_length y)

-- The five digits YYDDD are one number: the year is its thousands, the day of the year the rest.

abbrev pub dated : ℕ → Result ℕ InputCause
dated n = cond (in_year (n / 1000) (n % 1000)) (Ok (day_number (n / 1000) (n % 1000))) (Err NoDate)

-- a space and five digits
abbrev pub date_form : List ℕ → Bool
date_form bs = length bs == 6 && (bytes_eq (take 1 bs) (32 ∷ []) && all_digits (drop 1 bs))

-- the day that a text names
abbrev pub date_reading : List ℕ → Result ℕ InputCause
date_reading bs = cond (date_form bs) (dated (number_in (drop 1 bs))) (Err NoDate)

-- the year of day d, and its place in the year
abbrev pub year_of : ℕ → ℕ
year_of d = 4 * d / 1461

abbrev pub place_of : ℕ → ℕ
place_of d = d - first_day_of (year_of d) + 1

abbrev pub year_day : ℕ → ℕ
year_day d = 1000 * year_of d + place_of d

-- a year by its number, and the year of a day
abbrev pub year_making : ℕ → Result ℕ InputCause
year_making y = cond (nat_le y 99) (Ok y) (Err NoDate)

abbrev pub year_finding : ℕ → Result ℕ InputCause
year_finding d = cond (nat_le d 36524) (Ok (year_of d)) (Err NoDate)

-- the text of day d
abbrev pub date_text : ℕ → List ℕ
date_text d = 32 ∷ decimal 5 (year_day d)

abbrev pub date_writing : ℕ → Result (List ℕ) InputCause
date_writing d = cond (nat_le d 36524) (Ok (date_text d)) (Err NoDate)

pub record DateLaws : Type 0 where
  -- a written day reads as itself
  pub written_reads : (d : ℕ) (text : List ℕ) → date_writing d ≡ Ok text → date_reading text ≡ Ok d
  -- what is read as a day has no other text than the one that is written
  pub one_text : (text : List ℕ) (d : ℕ) → date_reading text ≡ Ok d → date_writing d ≡ Ok text
  -- the days that are read are those from 0 to 36,524
  pub days_read : (d : ℕ) → ((text : List ℕ) × (date_reading text ≡ Ok d) → d ≤ 36524) × (d ≤ 36524 → (text : List ℕ) × (date_reading text ≡ Ok d))

pub record DateSamples : Type 0 where
  pub fourth_of_2016 : date_reading (codes " 16004") ≡ Ok 5847
  pub last_of_2016 : date_reading (codes " 16366") ≡ Ok 6209
  pub last_of_2099 : date_reading (codes " 99365") ≡ Ok 36524
  pub none_in_2015 : date_reading (codes " 15366") ≡ Err NoDate
