-- Kinds of field that earlier lines may fix: then 13 is their one fault.
use Rattle.std.specs.Prelude.{ℕ, Bool, false, List, [], ◌∷◌, Some, None, Option, nat_eq}
use Rattle.std.specs.Str.{bytes_eq}
use Rattle.terms.specs.declared.cause.InputCause.{InputCause}
use Rattle.terms.specs.declared.cause.InputCause.TheVariants.{NotANumber, NoDate, DayOutOfRange, DayNotOpen, Differs}
use Rattle.terms.specs.declared.service.Service.{Service}
use Rattle.tables.specs.Forms.{Form, read_form}
use Rattle.tables.specs.Forms.Form.{decimals, dates}
use Rattle.tables.specs.Kinds.{Rule, Kind, Value}
use Rattle.tables.specs.Kinds.Kind.{fixed, letters, number as numeral}
use Rattle.fields.specs.Words.{rule, text_rules, filled_rules}

abbrev pub given_cause : {X : Type 0} → InputCause → Option X → InputCause
given_cause c None = c
given_cause c (Some x) = Differs

abbrev pub given_rules : {X : Type 0} → (X → X → Bool) → List (Rule X) → Option X → List (Rule X)
given_rules same rs None = rs
given_rules same rs (Some x) = rule Differs (λ v. same v x) ∷ []

-- a number in a form, that keeps the rules or is the given one
abbrev pub number_given : Form → InputCause → List (Rule ℕ) → Option ℕ → Kind
number_given m c rs o = numeral m (given_cause c o) (given_rules nat_eq rs o)

-- bytes that keep the rules or are the given ones
abbrev pub letters_given : ℕ → List (Rule (List ℕ)) → Option (List ℕ) → Kind
letters_given w rs o = letters w (given_rules bytes_eq rs o)

-- so many digits
abbrev pub digits_given : ℕ → Option ℕ → Kind
digits_given w o = number_given (decimals w) NotANumber [] o

-- a day
abbrev pub day_given : List (Rule ℕ) → Option ℕ → Kind
day_given rs o = number_given dates NoDate rs o

-- a day that passes the test, and is in the set of open days
abbrev pub usable_rules : (ℕ → Bool) → (ℕ → Bool) → List (Rule ℕ)
usable_rules test opens = rule DayOutOfRange test ∷ rule DayNotOpen opens ∷ []

-- the same where it is known whether the day is in the set
abbrev pub open_day_rules : (ℕ → Bool) → Bool → List (Rule ℕ)
open_day_rules test usable = usable_rules test (λ _. usable)

-- a filled text, and a text
abbrev pub filled_given : Service → Option (List ℕ) → Kind
filled_given g o = letters_given 18 (filled_rules g) o

abbrev pub text_given : Service → Option (List ℕ) → Kind
text_given g o = letters_given 18 (text_rules g) o

-- a kind of field for which earlier lines fix a value
abbrev pub given : (k : Kind) → Value k → Kind
given (fixed c bs) v = fixed Differs bs
given (letters w rs) v = letters_given w rs (Some v)
given (numeral m c rs) v = number_given m c rs (Some v)

-- a value of the kind, as one of the fixed kind
abbrev pub given_value : (k : Kind) (x : Value k) → Value k → Value (given k x)
given_value (fixed c bs) x v = v
given_value (letters w rs) x v = v
given_value (numeral m c rs) x v = v

abbrev pub number_stands : ℕ → Option ℕ → Bool
number_stands v None = false
number_stands v (Some n) = nat_eq n v

-- whether bytes say this value
abbrev pub value_stands : (k : Kind) → Value k → List ℕ → Bool
value_stands (fixed c bs) v xs = bytes_eq xs bs
value_stands (letters w rs) v xs = bytes_eq xs v
value_stands (numeral m c rs) v xs = number_stands v (read_form m xs)
