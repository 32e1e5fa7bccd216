-- How numbers and days stand in a field.
use Rattle.std.specs.Prelude.{ℕ, ◌^◌, ◌<◌, ◌≤◌, cond, List, Some, None, Option}
use Rattle.std.specs.Result.{result_ok}
use Rattle.digits.specs.Decimal.{decimal, all_digits, number_in}
use Rattle.days.specs.Dates.{date_text, date_reading}

pub data Form : Type 0 where
  -- so many decimal digits
  decimals : ℕ → Form
  -- a space and the five digits of a date
  dates : Form

abbrev pub form_width : Form → ℕ
form_width (decimals w) = w
form_width dates = 6

-- the numbers that stand in this form
abbrev pub Within : Form → ℕ → Type 0
Within (decimals w) n = n < 10 ^ w
Within dates d = d ≤ 36524

unfoldable pub shown : Form → ℕ → List ℕ
shown (decimals w) n = decimal w n
shown dates d = date_text d

unfoldable pub read_form : Form → List ℕ → Option ℕ
read_form (decimals w) xs = cond (all_digits xs) (Some (number_in xs)) None
read_form dates xs = result_ok (date_reading xs)
