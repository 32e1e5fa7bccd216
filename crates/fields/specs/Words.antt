-- The kinds of field of the format.
use Rattle.std.specs.Prelude.{ℕ, Bool, true, false, not, ◌&&◌, ◌||◌, List, [], ◌∷◌, length, replicate, codes, filter, ◌==◌, nat_eq, nat_le}
use Rattle.terms.specs.declared.cause.InputCause.{InputCause}
use Rattle.terms.specs.declared.cause.InputCause.TheVariants.{NotListed, NotANumber, WrongCharacter, NoDate, WrongCode, WrongAmount, NotAtLeft, WeakReference, Differs}
use Rattle.terms.specs.declared.service.Service.{Service}
use Rattle.terms.specs.declared.service.Service.TheVariants.{Credits, Debits, FasterPayments}
use Rattle.digits.specs.Decimal.{all_digits}
use Rattle.tables.specs.Forms.Form.{decimals, dates}
use Rattle.tables.specs.Kinds.{Rule, Kind}
use Rattle.tables.specs.Kinds.Kind.{fixed, letters, number as numeral}
use Rattle.fields.specs.Characters.{each, one_of, is_space, is_sign_byte, is_letter, is_after_slash, at_left, at_right, empty_serial}

abbrev pub rule : {X : Type 0} → InputCause → (X → Bool) → Rule X
rule c test = record { cause = c; holds = test }

-- fixed contents
abbrev pub head : List ℕ → Kind
head bs = fixed NotListed bs

abbrev pub blank : ℕ → List ℕ
blank n = replicate n 32

abbrev pub spaces : ℕ → Kind
spaces n = fixed NotListed (blank n)

-- what earlier lines fix
abbrev pub again : List ℕ → Kind
again bs = fixed Differs bs

abbrev pub again_number : ℕ → ℕ → Kind
again_number w n = numeral (decimals w) Differs (rule Differs (λ v. nat_eq v n) ∷ [])

-- one of some listed contents
abbrev pub choice_rules : List (List ℕ) → List (Rule (List ℕ))
choice_rules cs = rule NotListed (one_of cs) ∷ []

abbrev pub choice : ℕ → List (List ℕ) → Kind
choice w cs = letters w (choice_rules cs)

-- shut, so that a line's proof need not look into it
unfoldable pub is_spare_text : List ℕ → Bool
is_spare_text v = all_digits v || each is_space v

abbrev pub spare_rules : List (Rule (List ℕ))
spare_rules = rule NotListed is_spare_text ∷ []

abbrev pub digits_or_spaces : ℕ → Kind
digits_or_spaces w = letters w spare_rules

abbrev pub serial_rules : List (Rule (List ℕ))
serial_rules = rule WrongCharacter at_right ∷ rule NotAtLeft (λ v. not (empty_serial v)) ∷ []

abbrev pub serial : Kind
serial = letters 6 serial_rules

-- Texts: 18 characters of the service, beginning at the left unless blank; a filled text is not blank.

abbrev pub text_rules : Service → List (Rule (List ℕ))
text_rules g = rule WrongCharacter (each (is_letter g)) ∷ rule NotAtLeft (λ v. at_left v || each is_space v) ∷ []

abbrev pub text : Service → Kind
text g = letters 18 (text_rules g)

abbrev pub filled_rules : Service → List (Rule (List ℕ))
filled_rules g = rule WrongCharacter (each (is_letter g)) ∷ rule NotAtLeft at_left ∷ []

abbrev pub filled : Service → Kind
filled g = letters 18 (filled_rules g)

-- a reference of service D has six capitals or digits or more, not all the same
abbrev pub all_same : List ℕ → Bool
all_same [] = true
all_same (b ∷ bs) = each (λ c. nat_eq c b) bs

abbrev pub sign_count : List ℕ → ℕ
sign_count v = length (filter is_sign_byte v)

abbrev pub same_signs : List ℕ → Bool
same_signs v = all_same (filter is_sign_byte v)

abbrev pub strong : Service → List ℕ → Bool
strong Credits v = true
strong Debits v = nat_le 6 (sign_count v) && not (same_signs v)
strong FasterPayments v = true

abbrev pub reference_rules : Service → List (Rule (List ℕ))
reference_rules g = rule WrongCharacter (each (is_letter g)) ∷ rule NotAtLeft (λ v. at_left v || each is_space v) ∷ rule WeakReference (strong g) ∷ []

abbrev pub reference : Service → Kind
reference g = letters 18 (reference_rules g)

-- Codes of a payment, and of a contra.

abbrev pub codes_of : Service → List (List ℕ)
codes_of Credits = codes "99" ∷ codes "Z4" ∷ codes "Z5" ∷ []
codes_of Debits = codes "01" ∷ codes "17" ∷ codes "18" ∷ codes "19" ∷ []
codes_of FasterPayments = codes "99" ∷ codes "Z4" ∷ codes "Z5" ∷ []

abbrev pub code : Service → Kind
code g = letters 2 (rule WrongCode (one_of (codes_of g)) ∷ [])

abbrev pub contra_code_text : Service → List ℕ
contra_code_text Credits = codes "17"
contra_code_text Debits = codes "99"
contra_code_text FasterPayments = codes "17"

-- the four free-format characters: spaces or, for C, a slash and three plain characters other than space and ampersand
abbrev pub slashed : List ℕ → Bool
slashed [] = false
slashed (b ∷ bs) = b == 47 && each is_after_slash bs

abbrev pub good_format : Service → List ℕ → Bool
good_format Credits v = each is_space v || slashed v
good_format Debits v = each is_space v
good_format FasterPayments v = each is_space v

abbrev pub format_rules : Service → List (Rule (List ℕ))
format_rules g = rule NotListed (good_format g) ∷ []

abbrev pub free_format : Service → Kind
free_format g = letters 4 (format_rules g)

-- Numbers.

abbrev pub number : ℕ → Kind
number w = numeral (decimals w) NotANumber []

-- the highest amount in pence
abbrev pub highest : Service → ℕ
highest Credits = 2_000_000_000
highest Debits = 2_000_000_000
highest FasterPayments = 25_000_000

abbrev pub good_amount : Service → ℕ → Bool
good_amount g n = nat_le 1 n && nat_le n (highest g)

abbrev pub amount : Service → Kind
amount g = numeral (decimals 11) NotANumber (rule WrongAmount (good_amount g) ∷ [])

abbrev pub date : List (Rule ℕ) → Kind
date rs = numeral dates NoDate rs
