-- Some fields, with what is wrong with them.
use Rattle.std.specs.Prelude.{◌≡◌, ℕ, ◌-◌, List, [], ◌++◌, length, Some, None, codes}
use Rattle.terms.specs.declared.cause.InputCause.TheVariants.{NotListed, NotANumber, WrongCharacter, NoDate, WrongCode, WrongAmount, NotAtLeft, WeakReference, Differs}
use Rattle.terms.specs.declared.service.Service.TheVariants.{Credits, Debits, FasterPayments}
use Rattle.tables.specs.Kinds.{judge}
use Rattle.fields.specs.Judging.{marks}
use Rattle.fields.specs.Words.{blank, head, again, again_number, digits_or_spaces, serial, text, filled, reference, code, free_format, number, amount, date}

-- a text in its 18 places
abbrev pub padded : List ℕ → List ℕ
padded bs = bs ++ blank (18 - length bs)

pub record FieldSamples : Type 0 where
  pub reference_good : judge (reference Debits) (padded (codes "AAAAAB")) ≡ None
  pub reference_same : judge (reference Debits) (padded (codes "AAAAAA")) ≡ Some WeakReference
  pub reference_same_spread : judge (reference Debits) (padded (codes "A-AA AAA.A")) ≡ Some WeakReference
  pub reference_short : judge (reference Debits) (padded (codes "AB CD.E")) ≡ Some WeakReference
  pub reference_late : judge (reference Debits) (padded (codes " AAAAAB")) ≡ Some NotAtLeft
  pub reference_character : judge (reference Debits) (padded (codes "aAAAAB")) ≡ Some WrongCharacter
  pub reference_of_credit : judge (reference Credits) (padded (codes "AAAAAA")) ≡ None
  pub text_blank : judge (text Credits) (padded []) ≡ None
  pub text_late : judge (text Credits) (padded (codes " JONES & SON")) ≡ Some NotAtLeft
  pub text_small : judge (text Credits) (padded (codes "Jones")) ≡ Some WrongCharacter
  pub text_small_faster : judge (text FasterPayments) (padded (codes "Jones")) ≡ None
  pub filled_good : judge (filled Debits) (padded (codes "JONES & SON")) ≡ None
  pub filled_blank : judge (filled Debits) (padded []) ≡ Some NotAtLeft
  pub filled_character : judge (filled Debits) (padded (codes "JONES + SON")) ≡ Some WrongCharacter
  pub serial_good : judge serial (codes "   A12") ≡ None
  pub serial_at_left : judge serial (codes "A12   ") ≡ Some WrongCharacter
  pub serial_empty : judge serial (codes "  0000") ≡ Some NotAtLeft
  pub free_format_slashed : judge (free_format Credits) (codes "/A-1") ≡ None
  pub free_format_ampersand : judge (free_format Credits) (codes "/A&1") ≡ Some NotListed
  pub free_format_of_debit : judge (free_format Debits) (codes "/A-1") ≡ Some NotListed
  pub code_of_debit : judge (code Debits) (codes "17") ≡ None
  pub code_of_other : judge (code Credits) (codes "17") ≡ Some WrongCode
  pub mark_listed : judge marks (codes "SAGE  ") ≡ None
  pub mark_other : judge marks (codes "SAGES ") ≡ Some NotListed
  pub digits_listed : judge (digits_or_spaces 6) (codes "123456") ≡ None
  pub spaces_listed : judge (digits_or_spaces 6) (codes "      ") ≡ None
  pub digits_mixed : judge (digits_or_spaces 6) (codes "12345 ") ≡ Some NotListed
  pub head_other : judge (head (codes "VOL1")) (codes "VOL2") ≡ Some NotListed
  pub again_other : judge (again (codes "123456")) (codes "123457") ≡ Some Differs
  pub again_number_same : judge (again_number 3 7) (codes "007") ≡ None
  pub again_number_other : judge (again_number 3 7) (codes "008") ≡ Some Differs
  pub number_no_digit : judge (number 3) (codes "0 7") ≡ Some NotANumber
  pub amount_least : judge (amount Credits) (codes "00000000001") ≡ None
  pub amount_none : judge (amount Credits) (codes "00000000000") ≡ Some WrongAmount
  pub amount_most : judge (amount Credits) (codes "02000000000") ≡ None
  pub amount_above : judge (amount Debits) (codes "02000000001") ≡ Some WrongAmount
  pub amount_faster : judge (amount FasterPayments) (codes "00025000001") ≡ Some WrongAmount
  pub amount_no_digit : judge (amount Credits) (codes "0000000001 ") ≡ Some NotANumber
  pub date_none : judge (date []) (codes " 15366") ≡ Some NoDate
