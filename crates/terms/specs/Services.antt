-- The letter of each service.
use Rattle.std.specs.Prelude.{ℕ, cond, Ok, Err, Result, ◌==◌}
use Rattle.terms.specs.declared.cause.InputCause.{InputCause}
use Rattle.terms.specs.declared.cause.InputCause.TheVariants.{NotListed}
use Rattle.terms.specs.declared.service.Service.{Service}
use Rattle.terms.specs.declared.service.Service.TheVariants.{Credits, Debits, FasterPayments}

-- `C`, `D` and `F`
abbrev pub letter_of : Service → ℕ
letter_of Credits = 67
letter_of Debits = 68
letter_of FasterPayments = 70

-- the service that a byte names
abbrev pub service_of : ℕ → Result Service InputCause
service_of b = cond (b == 67) (Ok Credits) (cond (b == 68) (Ok Debits) (cond (b == 70) (Ok FasterPayments) (Err NotListed)))
