-- The number of each cause of a refusal.
use Rattle.std.specs.Prelude.{ℕ}
use Rattle.terms.specs.declared.cause.InputCause.{InputCause}
use Rattle.terms.specs.declared.cause.InputCause.TheVariants.{NoLineFeed, WrongLength, NotListed, NotANumber, WrongCharacter, NoDate, DayOutOfRange, DayNotOpen, WrongCode, WrongAmount, NotAtLeft, WeakReference, Differs}
use Rattle.terms.specs.declared.cause.StateCause.{StateCause}
use Rattle.terms.specs.declared.cause.StateCause.TheVariants.{NotOpen, TableFull, HistoryFull, NoSuchRow, NothingToUndo, NothingToRedo, DayTotalTooLarge, NoPayment, AreaTooSmall}
use Rattle.terms.specs.declared.cause.Cause.{Cause}
use Rattle.terms.specs.declared.cause.Cause.TheVariants.{Input, State}

-- causes in the input
abbrev pub input_number : InputCause → ℕ
input_number NoLineFeed = 1
input_number WrongLength = 2
input_number NotListed = 3
input_number NotANumber = 4
input_number WrongCharacter = 5
input_number NoDate = 6
input_number DayOutOfRange = 7
input_number DayNotOpen = 8
input_number WrongCode = 9
input_number WrongAmount = 10
input_number NotAtLeft = 11
input_number WeakReference = 12
input_number Differs = 13

-- causes in the state
abbrev pub state_number : StateCause → ℕ
state_number NotOpen = 20
state_number TableFull = 21
state_number HistoryFull = 22
state_number NoSuchRow = 23
state_number NothingToUndo = 24
state_number NothingToRedo = 25
state_number DayTotalTooLarge = 26
state_number NoPayment = 27
state_number AreaTooSmall = 28

abbrev pub cause_number : Cause → ℕ
cause_number (Input c) = input_number c
cause_number (State c) = state_number c
