-- What the calls on a field answer, by its kind.
use Rattle.std.specs.Prelude.{ℕ, cond, List, [], ◌∷◌, Ok, Err, codes, Result, nat_le, nat_lt}
use Rattle.terms.specs.declared.cause.InputCause.{InputCause}
use Rattle.terms.specs.declared.cause.InputCause.TheVariants.{NotANumber, WrongAmount}
use Rattle.terms.specs.declared.service.Service.{Service}
use Rattle.digits.specs.Decimal.{digits_reading}
use Rattle.tables.specs.Kinds.{Kind, judge}
use Rattle.tables.specs.Walks.{judged, after}
use Rattle.fields.specs.declared.code.PaymentCode.{PaymentCode}
use Rattle.fields.specs.declared.code.PaymentCode.TheVariants.{GiroCredit, Interest, Dividend, FirstDebit, RecurringDebit, RepresentedDebit, FinalDebit}
use Rattle.fields.specs.declared.owner.Mark.{Mark}
use Rattle.fields.specs.declared.owner.Mark.TheVariants.{Hsbc, Sage}
use Rattle.fields.specs.Words.{choice, good_amount}

-- nothing is wrong with the bytes of a field, or this is
abbrev pub verdict : Kind → List ℕ → Result (Unit {0}) InputCause
verdict k bs = judged (judge k bs) tt

-- a number below a limit
abbrev pub number_making : ℕ → ℕ → Result ℕ InputCause
number_making limit n = cond (nat_lt n limit) (Ok n) (Err NotANumber)

abbrev pub number_reading : ℕ → List ℕ → Result ℕ InputCause
number_reading limit bs = after (digits_reading bs) (number_making limit)

-- an amount by its pence, and by its digits
abbrev pub amount_making : Service → ℕ → Result ℕ InputCause
amount_making g n = cond (good_amount g n) (Ok n) (Err WrongAmount)

abbrev pub amount_verdict : Service → ℕ → Result (Unit {0}) InputCause
amount_verdict g n = cond (nat_le n 99_999_999_999) (cond (good_amount g n) (Ok tt) (Err WrongAmount)) (Err NotANumber)

abbrev pub amount_reading : Service → List ℕ → Result ℕ InputCause
amount_reading g bs = after (digits_reading bs) (amount_making g)

-- the characters of each code
abbrev pub code_text : PaymentCode → List ℕ
code_text GiroCredit = codes "99"
code_text Interest = codes "Z4"
code_text Dividend = codes "Z5"
code_text FirstDebit = codes "01"
code_text RecurringDebit = codes "17"
code_text RepresentedDebit = codes "18"
code_text FinalDebit = codes "19"

-- the characters of each mark
abbrev pub mark_text : Mark → List ℕ
mark_text Hsbc = codes "HSBC  "
mark_text Sage = codes "SAGE  "

abbrev pub marks : Kind
marks = choice 6 (codes "HSBC  " ∷ codes "SAGE  " ∷ [])
