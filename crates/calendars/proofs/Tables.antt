-- The set of a year table, day by day.
use Rattle.std.proofs.Common.{◌≡◌, ℕ, ◌+◌, ◌-◌, ◌<◌, ◌≤◌, Bool, true, false, ◌&&◌, ltb, leb, List, get_or, arith}
use Rattle.std.proofs.lemmas.Bool.{and_parts, leb-true, ltb-true}
use Rattle.std.proofs.lemmas.Bool.Decides.{nat_tests}
use Rattle.days.specs.Dates.{first_day_of, year_length}
use Rattle.calendars.specs.Sets.{table_days, Within}

-- a day of the table lies in its year
pub in_table : (y : ℕ) (flags : List Bool) (d : ℕ) → table_days y flags d ≡ true → (first_day_of y ≤ d) × (d < first_day_of y + year_length y)
in_table y flags d t =
    let p = and_parts (leb (first_day_of y) d) (ltb d (first_day_of y + year_length y) && get_or flags (d - first_day_of y) false) t in
    let q = and_parts (ltb d (first_day_of y + year_length y)) (get_or flags (d - first_day_of y) false) p.1 in
    (leb-true (first_day_of y) d p.0, ltb-true d (first_day_of y + year_length y) q.0)

pub table_within : (y : ℕ) (flags : List Bool) → y ≤ 99 → Within (table_days y flags)
table_within y flags small d t = let p = in_table y flags d t in grind (arith, nat_tests)
