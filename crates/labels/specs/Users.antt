-- UHL1: the processing day, the kind of file and its number.
use Rattle.std.specs.Prelude.{ℕ, Bool, cond, ◌&&◌, List, [], ◌∷◌, codes, ◌==◌, nat_le, nat_lt}
use Rattle.std.specs.Str.{bytes_eq}
use Rattle.terms.specs.declared.cause.InputCause.TheVariants.{NotListed}
use Rattle.terms.specs.declared.service.Service.{Service}
use Rattle.terms.specs.declared.service.Service.TheVariants.{Credits, Debits, FasterPayments}
use Rattle.tables.specs.Kinds.{Kind}
use Rattle.tables.specs.Kinds.Kind.{letters}
use Rattle.tables.specs.Laying.{laid}
use Rattle.tables.specs.Lines.{Table, AllAllowed}
use Rattle.fields.specs.Words.{blank, choice, date, digits_or_spaces, head, number, rule, spaces}
use Rattle.lines.specs.Places.{Place, stands}
use Rattle.places.specs.Given.{usable_rules}
use Rattle.labels.specs.declared.user.Uhl1.{Uhl1}
use Rattle.labels.specs.declared.user.Uhl1Context.{Uhl1Context}

-- the order of opening, creation, processing and expiry day
abbrev pub in_order : Service → ℕ → ℕ → ℕ → ℕ → Bool
in_order Credits o c e d = nat_le c d && (nat_lt d e && nat_lt o d)
in_order Debits o c e d = nat_le c d && (nat_lt d e && nat_lt o d)
in_order FasterPayments o c e d = c == o && (e == o && d == o)

-- by the service, the days of opening, creation and expiry, and the set of open days
abbrev pub processing_day : Service → ℕ → ℕ → ℕ → (ℕ → Bool) → Kind
processing_day g o c e opens = date (usable_rules (in_order g o c e) opens)

abbrev pub processing : Uhl1Context → Kind
processing k = processing_day k.service k.opening k.creation k.expiry (λ _. k.«open»)

-- the kind of file
abbrev pub work : Service → Bool → List ℕ
work Credits multi = cond multi (codes "4 MULTI  ") (codes "1 DAILY  ")
work Debits multi = cond multi (codes "4 MULTI  ") (codes "1 DAILY  ")
work FasterPayments multi = codes "2 FPS    "

-- so many bytes, exactly these
abbrev pub only : ℕ → List ℕ → Kind
only w bs = letters w (rule NotListed (λ v. bytes_eq v bs) ∷ [])

-- 1-4 label, 5-10 processing day, 11-16 fixed, 21-28 zeros, 29-37 work code, 38-40 file number, 48-50 and 51-54 free
abbrev pub uhl1_layout : Kind → List ℕ → Table
uhl1_layout day code =
    head (codes "UHL1") ∷ day ∷ head (codes "999999") ∷ spaces 4 ∷ head (codes "00000000") ∷ only 9 code ∷ number 3
    ∷ spaces 7 ∷ choice 3 (blank 3 ∷ codes "AUD" ∷ []) ∷ digits_or_spaces 4 ∷ spaces 26 ∷ []

abbrev pub uhl1 : Uhl1Context → Table
uhl1 k = uhl1_layout (processing k) (work k.service k.multi)

abbrev pub labelled : ℕ → ℕ → Uhl1
labelled d n = record { processing = d; number = n }

abbrev pub uhl1_place : Uhl1Context → Place Uhl1
uhl1_place k = stands (uhl1 k) (λ d w n audit spare. labelled d n)

-- the line that is written: free places are spaces
abbrev pub uhl1_line : Uhl1Context → Uhl1 → List ℕ
uhl1_line k u = laid (uhl1 k) u.processing (work k.service k.multi) u.number (blank 3) (blank 4)

abbrev pub Uhl1Fits : Uhl1Context → Uhl1 → Type 0
Uhl1Fits k u = AllAllowed (uhl1 k) (u.processing, (work k.service k.multi, (u.number, (blank 3, (blank 4, tt)))))
