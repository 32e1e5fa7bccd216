-- VOL1: the serial and the owner.
use Rattle.std.specs.Prelude.{ℕ, Bool, cond, List, [], ◌∷◌, codes}
use Rattle.std.specs.Str.{bytes_eq}
use Rattle.tables.specs.Kinds.{Kind}
use Rattle.tables.specs.Laying.{laid}
use Rattle.tables.specs.Lines.{Table, AllAllowed}
use Rattle.tables.specs.Walks.{part}
use Rattle.fields.specs.declared.owner.Owner.{Owner}
use Rattle.fields.specs.declared.owner.Owner.TheVariants.{Sun, Marked}
use Rattle.fields.specs.Judging.{mark_text, marks}
use Rattle.fields.specs.Words.{blank, choice, head, number, serial, spaces}
use Rattle.lines.specs.Places.{Place, stands}
use Rattle.labels.specs.declared.volume.Vol1.{Vol1}

-- the owner by what stands in the line
pub data OwnerSays : Type 0 where
  numbered : ℕ → OwnerSays
  marked : List ℕ → OwnerSays

abbrev pub owner_says : Owner → OwnerSays
owner_says (Sun n) = numbered n
owner_says (Marked m) = marked (mark_text m)

pub record Vol1Says : Type 0 where
  pub owner : OwnerSays
  pub serial : List ℕ

abbrev pub vol1_says : Vol1 → Vol1Says
vol1_says v = record { owner = owner_says v.owner; serial = v.serial }

-- 1-4 label, 5-10 serial, 11 free, 32-37 mark, 42-47 service user number, 80 fixed
abbrev pub vol1 : Kind → Kind → Table
vol1 mark user =
    head (codes "VOL1") ∷ serial ∷ choice 1 (blank 1 ∷ codes "0" ∷ []) ∷ spaces 20 ∷ mark ∷ spaces 4 ∷ user ∷ spaces 32 ∷ head (codes "1") ∷ []

abbrev pub vol1_sun : Table
vol1_sun = vol1 (spaces 6) (number 6)

abbrev pub vol1_marked : Table
vol1_marked = vol1 marks (spaces 6)

-- no mark stands at 32-37
unfoldable pub has_sun : List ℕ → Bool
has_sun l = bytes_eq (part 31 37 l) (blank 6)

abbrev pub volume : OwnerSays → List ℕ → Vol1Says
volume o s = record { owner = o; serial = s }

abbrev pub vol1_place : List ℕ → Place Vol1Says
vol1_place l = cond (has_sun l) (stands vol1_sun (λ s free n. volume (numbered n) s)) (stands vol1_marked (λ s free m. volume (marked m) s))

-- VOL1 32-37
abbrev pub places_of_mark : Owner → List ℕ
places_of_mark (Sun n) = blank 6
places_of_mark (Marked m) = mark_text m

-- the line that is written: the free place is a space
abbrev pub owner_line : OwnerSays → List ℕ → List ℕ
owner_line (numbered n) s = laid vol1_sun s (blank 1) n
owner_line (marked m) s = laid vol1_marked s (blank 1) m

abbrev pub vol1_line : Vol1Says → List ℕ
vol1_line v = owner_line v.owner v.serial

abbrev pub OwnerFits : OwnerSays → List ℕ → Type 0
OwnerFits (numbered n) s = AllAllowed vol1_sun (s, (blank 1, (n, tt)))
OwnerFits (marked m) s = AllAllowed vol1_marked (s, (blank 1, (m, tt)))

abbrev pub Vol1Fits : Vol1Says → Type 0
Vol1Fits v = OwnerFits v.owner v.serial
