-- Processing days: the earliest, the last that a file may use, and how many open days lie between.
use Rattle.std.specs.Prelude.{ℕ, ◌+◌, ◌-◌, min, Bool, cond, Some, Ok, Err, Option, Result, nat_le, count_by}
use Rattle.std.specs.List.{range_with_len}
use Rattle.std.specs.Option.{option_map}
use Rattle.terms.specs.declared.cause.InputCause.{InputCause}
use Rattle.terms.specs.declared.cause.InputCause.TheVariants.{NoDate}
use Rattle.terms.specs.declared.service.Service.{Service}
use Rattle.terms.specs.declared.service.Service.TheVariants.{Credits, Debits, FasterPayments}
use Rattle.calendars.specs.declared.processing.UsableDays.{UsableDays}
use Rattle.calendars.specs.Sets.{next_member}

-- the next open day after the opening day; for Faster Payments the opening day
abbrev pub earliest_open : Service → ℕ → (ℕ → Bool) → Option ℕ
earliest_open Credits o f = next_member f (o + 1)
earliest_open Debits o f = next_member f (o + 1)
earliest_open FasterPayments o f = Some o

abbrev pub earliest_day : Service → ℕ → (ℕ → Bool) → Result (Option ℕ) InputCause
earliest_day s o f = cond (nat_le o 36524) (Ok (earliest_open s o f)) (Err NoDate)

-- how many days after its processing day a file may use
abbrev pub days_after : Service → ℕ
days_after Credits = 39
days_after Debits = 39
days_after FasterPayments = 0

-- the last day that a file with processing day p may use; no day is past 36,524
abbrev pub last_usable : Service → ℕ → ℕ
last_usable s p = min (p + days_after s) 36524

-- how many days from a to b are in the set; no day is past 36,524
abbrev pub open_count : (ℕ → Bool) → ℕ → ℕ → ℕ
open_count f a b = count_by f (range_with_len a (min b 36524 + 1 - a))

abbrev pub usable_from : Service → (ℕ → Bool) → ℕ → UsableDays
usable_from s f p = record { first = p; last = last_usable s p; open_days = open_count f p (last_usable s p) }

-- the days that a file opened on day o may use at the earliest
abbrev pub usable : Service → ℕ → (ℕ → Bool) → Result (Option UsableDays) InputCause
usable s o f = cond (nat_le o 36524) (Ok (option_map (usable_from s f) (earliest_open s o f))) (Err NoDate)
