-- HDR1 and HDR2: the dates of the file, and the length of its records.
use Rattle.std.specs.Prelude.{◌≡◌, ℕ, Bool, true, cond, List, [], ◌∷◌, Some, codes}
use Rattle.terms.specs.declared.service.Service.{Service}
use Rattle.terms.specs.declared.service.Service.TheVariants.{Credits, Debits, FasterPayments}
use Rattle.tables.specs.Forms.{shown}
use Rattle.tables.specs.Forms.Form.{decimals}
use Rattle.tables.specs.Kinds.{Kind}
use Rattle.tables.specs.Laying.{laid}
use Rattle.tables.specs.Lines.{Table, Values, AllAllowed}
use Rattle.fields.specs.declared.owner.Owner.{Owner}
use Rattle.fields.specs.declared.owner.Owner.TheVariants.{Sun, Marked}
use Rattle.places.specs.Given.{letters_given}
use Rattle.fields.specs.Words.{blank, choice, date, digits_or_spaces, head, spaces}
use Rattle.lines.specs.Feeds.{plain}
use Rattle.lines.specs.Places.{Place, stands}
use Rattle.labels.specs.declared.header.Hdr1.{Hdr1}
use Rattle.labels.specs.declared.header.Hdr1Free.{Hdr1Free}
use Rattle.labels.specs.declared.header.Hdr1Context.{Hdr1Context}
use Rattle.labels.specs.declared.header.Hdr2.{Hdr2}

-- VOL1 42-47
abbrev pub places_of_owner : Owner → List ℕ
places_of_owner (Sun n) = shown (decimals 6) n
places_of_owner (Marked m) = blank 6

-- blank, or VOL1 42-47 again
abbrev pub user_field : List ℕ → Kind
user_field places = choice 6 (blank 6 ∷ places ∷ [])

abbrev pub user : Owner → Kind
user o = user_field (places_of_owner o)

-- 1-5 label, 6-11 free, 12 fixed, 15 free, 16-21 free, 22-27 serial, 28-35 fixed, 36-39 and 40-41 free, 42-47 creation, 48-53 expiry, 54 free, 55-60 zeros
abbrev pub hdr1_layout : List ℕ → List ℕ → Table
hdr1_layout places s =
    head (codes "HDR1A") ∷ user_field places ∷ head (codes "S") ∷ spaces 2 ∷ choice 1 (blank 1 ∷ codes "1" ∷ []) ∷ user_field places ∷ letters_given 6 [] (Some s) ∷ head (codes "00010001")
    ∷ digits_or_spaces 4 ∷ digits_or_spaces 2 ∷ date [] ∷ date [] ∷ choice 1 (blank 1 ∷ codes "0" ∷ []) ∷ head (codes "000000") ∷ spaces 20 ∷ []

abbrev pub hdr1 : Owner → List ℕ → Table
hdr1 o s = hdr1_layout (places_of_owner o) s

abbrev pub header : List ℕ → List ℕ → List ℕ → List ℕ → List ℕ → List ℕ → ℕ → ℕ → List ℕ → Hdr1
header u v w s x y c e a = record { creation = c; expiry = e; free = record { user = u; version = v; user_again = w; spare4 = x; spare2 = y; access = a } }

abbrev pub hdr1_place : Hdr1Context → Place Hdr1
hdr1_place k = stands (hdr1 k.owner k.serial) header

-- the line that is written: free places are spaces
abbrev pub hdr1_line : Hdr1Context → Hdr1 → List ℕ
hdr1_line k h = laid (hdr1 k.owner k.serial) (blank 6) (blank 1) (blank 6) k.serial (blank 4) (blank 2) h.creation h.expiry (blank 1)

abbrev pub no_free : Hdr1Free
no_free = record { user = blank 6; version = blank 1; user_again = blank 6; spare4 = blank 4; spare2 = blank 2; access = blank 1 }

abbrev pub hdr1_values : (k : Hdr1Context) → Hdr1 → Values (hdr1 k.owner k.serial)
hdr1_values k h = (blank 6, (blank 1, (blank 6, (k.serial, (blank 4, (blank 2, (h.creation, (h.expiry, (blank 1, tt)))))))))

pub record Hdr1Fits (k : Hdr1Context) (h : Hdr1) : Type 0 where
  pub allowed : AllAllowed (hdr1 k.owner k.serial) (hdr1_values k h)
  pub free : h.free ≡ no_free
  pub serial : plain k.serial ≡ true

-- the length of a record
abbrev pub record_length_text : Bool → List ℕ
record_length_text multi = cond multi (codes "00106") (codes "00100")

abbrev pub lengths : Service → List (List ℕ)
lengths Credits = codes "00100" ∷ codes "00106" ∷ []
lengths Debits = codes "00100" ∷ codes "00106" ∷ []
lengths FasterPayments = codes "00100" ∷ []

-- 1-10 label, 11-15 length of a record, 51-52 fixed
abbrev pub hdr2 : Service → Table
hdr2 g = head (codes "HDR2F02000") ∷ choice 5 (lengths g) ∷ spaces 35 ∷ head (codes "00") ∷ spaces 28 ∷ []

abbrev pub hdr2_says : Hdr2 → List ℕ
hdr2_says h = record_length_text h.multi

abbrev pub hdr2_place : Service → Place (List ℕ)
hdr2_place g = stands (hdr2 g) (λ long. long)

abbrev pub hdr2_line : Service → Hdr2 → List ℕ
hdr2_line g h = laid (hdr2 g) (hdr2_says h)

abbrev pub Hdr2Fits : Service → Hdr2 → Type 0
Hdr2Fits g h = AllAllowed (hdr2 g) (hdr2_says h, tt)
