-- The fields that tile each kind of line.
use Rattle.std.specs.Prelude.{ℕ, ◌+◌, cond, List, [], ◌∷◌, Some, None, Option, ◌==◌, nat_le}
use Rattle.parts.specs.Kinds.{line_length}
use Rattle.parts.specs.declared.kind.LineKind.{LineKind}
use Rattle.parts.specs.declared.kind.LineKind.TheVariants.{Vol1, Hdr1, Hdr2, Uhl1, Payment, DatedPayment, Contra, DatedContra, Eof1, Eof2, Utl1}
use Rattle.parts.specs.declared.places.FieldPlaces.{FieldPlaces}

-- the first and the last place of a field
abbrev pub places_of : FieldPlaces → ℕ × ℕ
places_of f = (f.first, f.last)

-- the last place of each field
abbrev pub payment_ends : List ℕ
payment_ends = 6 ∷ 14 ∷ 15 ∷ 17 ∷ 23 ∷ 31 ∷ 35 ∷ 46 ∷ 64 ∷ 82 ∷ 100 ∷ 106 ∷ []

abbrev pub contra_ends : List ℕ
contra_ends = 6 ∷ 14 ∷ 15 ∷ 17 ∷ 23 ∷ 31 ∷ 35 ∷ 46 ∷ 64 ∷ 70 ∷ 82 ∷ 100 ∷ 106 ∷ []

abbrev pub field_ends : LineKind → List ℕ
field_ends Vol1 = 4 ∷ 10 ∷ 11 ∷ 31 ∷ 37 ∷ 41 ∷ 47 ∷ 79 ∷ 80 ∷ []
field_ends Hdr1 = 5 ∷ 11 ∷ 12 ∷ 14 ∷ 15 ∷ 21 ∷ 27 ∷ 35 ∷ 39 ∷ 41 ∷ 47 ∷ 53 ∷ 54 ∷ 60 ∷ 80 ∷ []
field_ends Hdr2 = 10 ∷ 15 ∷ 50 ∷ 52 ∷ 80 ∷ []
field_ends Uhl1 = 4 ∷ 10 ∷ 16 ∷ 20 ∷ 28 ∷ 37 ∷ 40 ∷ 47 ∷ 50 ∷ 54 ∷ 80 ∷ []
field_ends Payment = payment_ends
field_ends DatedPayment = payment_ends
field_ends Contra = contra_ends
field_ends DatedContra = contra_ends
field_ends Eof1 = 4 ∷ 5 ∷ 11 ∷ 12 ∷ 14 ∷ 15 ∷ 21 ∷ 27 ∷ 35 ∷ 39 ∷ 41 ∷ 47 ∷ 53 ∷ 54 ∷ 60 ∷ 80 ∷ []
field_ends Eof2 = 4 ∷ 10 ∷ 15 ∷ 50 ∷ 52 ∷ 80 ∷ []
field_ends Utl1 = 4 ∷ 17 ∷ 30 ∷ 37 ∷ 44 ∷ 80 ∷ []

-- the field that begins at a place, where the first of these fields begins at `first`
abbrev pub field_from : ℕ → List ℕ → ℕ → Option (ℕ × ℕ)
field_from first [] place = None
field_from first (last ∷ lasts) place = cond (place == first) (Some (first, last)) (field_from (last + 1) lasts place)

-- the field of a line that begins at a place: an undated record ends before the day
abbrev pub field_places : LineKind → ℕ → Option (ℕ × ℕ)
field_places k place = cond (nat_le place (line_length k)) (field_from 1 (field_ends k) place) None

-- the first and the last place of fields that end at these places, where the first of them begins at `first`
abbrev pub fields_from : ℕ → List ℕ → List (ℕ × ℕ)
fields_from first [] = []
fields_from first (last ∷ lasts) = (first, last) ∷ fields_from (last + 1) lasts
