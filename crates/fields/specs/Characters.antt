-- The characters of the services, and tests on runs of bytes.
use Rattle.std.specs.Prelude.{ℕ, Bool, true, false, cond, not, ◌&&◌, ◌||◌, List, [], ◌∷◌, codes, ◌==◌, nat_le}
use Rattle.std.specs.Char.{is_ascii_digit}
use Rattle.std.specs.List.{list_all}
use Rattle.std.specs.Str.{bytes_eq}
use Rattle.terms.specs.declared.service.Service.{Service}
use Rattle.terms.specs.declared.service.Service.TheVariants.{Credits, Debits, FasterPayments}

-- every byte passes the test
abbrev pub each : (ℕ → Bool) → List ℕ → Bool
each test bs = list_all test bs

-- the byte is one of these
abbrev pub among : List ℕ → ℕ → Bool
among [] b = false
among (c ∷ cs) b = b == c || among cs b

-- the bytes are one of these runs
abbrev pub one_of : List (List ℕ) → List ℕ → Bool
one_of [] v = false
one_of (c ∷ cs) v = bytes_eq v c || one_of cs v

abbrev pub is_space : ℕ → Bool
is_space b = b == 32

-- a capital or a digit
abbrev pub is_sign_byte : ℕ → Bool
is_sign_byte b = is_ascii_digit b || (nat_le 65 b && nat_le b 90)

-- what C and D allow
abbrev pub is_plain : ℕ → Bool
is_plain b = is_sign_byte b || among (codes ".&/- ") b

-- what F adds
abbrev pub is_faster_letter : ℕ → Bool
is_faster_letter b = (nat_le 97 b && nat_le b 122) || among (codes "?:(),'+#=!\"%*<>;{@") b

-- what a service allows
abbrev pub is_letter : Service → ℕ → Bool
is_letter Credits b = is_plain b
is_letter Debits b = is_plain b
is_letter FasterPayments b = is_plain b || is_faster_letter b

-- what may follow the slash of the free-format characters: plain, and neither space nor ampersand
abbrev pub is_after_slash : ℕ → Bool
is_after_slash b = is_plain b && not (among (codes " &") b)

-- the first byte is no space
abbrev pub at_left : List ℕ → Bool
at_left [] = false
at_left (b ∷ bs) = not (is_space b)

-- spaces, and then capitals and digits to the end
abbrev pub at_right : List ℕ → Bool
at_right [] = true
at_right (b ∷ bs) = cond (is_space b) (at_right bs) (is_sign_byte b && each is_sign_byte bs)

-- nothing but spaces and zeros
abbrev pub empty_serial : List ℕ → Bool
empty_serial v = each (λ b. is_space b || b == 48) v
