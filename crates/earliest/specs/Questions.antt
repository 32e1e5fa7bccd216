-- What the words of a question name, and what is told of them.
use Rattle.std.specs.Prelude.{ℕ, Bool, cond, List, [], ◌∷◌, length, Err, Result, ◌==◌}
use Rattle.std.specs.Result.{result_map_both}
use Rattle.terms.specs.declared.cause.InputCause.{InputCause}
use Rattle.terms.specs.declared.cause.InputCause.TheVariants.{NotListed}
use Rattle.terms.specs.declared.service.Service.{Service}
use Rattle.terms.specs.Services.{service_of}
use Rattle.days.specs.Dates.{date_reading}
use Rattle.calendars.specs.Processing.{usable}
use Rattle.earliest.specs.declared.report.Report.{Report}

-- a service by a word of one letter
abbrev pub service_word : List ℕ → Result Service InputCause
service_word [] = Err NotListed
service_word (b ∷ []) = service_of b
service_word (b ∷ c ∷ cs) = Err NotListed

-- a date, whose space in front may be left out
abbrev pub opening_word : List ℕ → Result ℕ InputCause
opening_word bs = cond (length bs == 5) (date_reading (32 ∷ bs)) (date_reading bs)

abbrev pub reporting : Service → ℕ → (ℕ → Bool) → Result Report InputCause
reporting s o f = result_map_both (λ u. record { service = s; opening = o; usable = u }) (λ e. e) (usable s o f)
