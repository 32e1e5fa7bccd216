-- The weekday of each day: day 0 is a Saturday.
use Rattle.std.specs.Prelude.{ℕ, ◌%◌, cond, ◌==◌}
use Rattle.days.specs.declared.weekday.Weekday.{Weekday}
use Rattle.days.specs.declared.weekday.Weekday.TheVariants.{Saturday, Sunday, Monday, Tuesday, Wednesday, Thursday, Friday}

abbrev pub weekday_at : ℕ → Weekday
weekday_at k =
    cond (k == 0) Saturday
    (cond (k == 1) Sunday
    (cond (k == 2) Monday
    (cond (k == 3) Tuesday
    (cond (k == 4) Wednesday
    (cond (k == 5) Thursday Friday)))))

abbrev pub weekday : ℕ → Weekday
weekday d = weekday_at (d % 7)
