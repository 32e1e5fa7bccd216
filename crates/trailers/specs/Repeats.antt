-- EOF1: the bytes of HDR1 from place 5 on, but spaces at 55-60.
use Rattle.std.specs.Prelude.{◌≡◌, ℕ, true, List, [], ◌∷◌, Some, codes}
use Rattle.tables.specs.Kinds.{Kind}
use Rattle.tables.specs.Laying.{laid}
use Rattle.tables.specs.Lines.{Table, Values, AllAllowed}
use Rattle.fields.specs.Words.{again, blank, head, spaces}
use Rattle.lines.specs.Feeds.{plain}
use Rattle.lines.specs.Places.{Place, stands}
use Rattle.places.specs.Given.{day_given, letters_given}
use Rattle.trailers.specs.declared.closing.Eof1Context.{Eof1Context}
use Rattle.labels.specs.declared.header.Hdr1.{Hdr1}

-- bytes that HDR1 has there
abbrev pub repeated : ℕ → List ℕ → Kind
repeated w bs = letters_given w [] (Some bs)

-- 1-4 label, then field by field as HDR1 from place 5 on
abbrev pub eof1 : List ℕ → Hdr1 → Table
eof1 s h =
    head (codes "EOF1") ∷ again (codes "A") ∷ repeated 6 h.free.user ∷ again (codes "S") ∷ again (blank 2) ∷ repeated 1 h.free.version ∷ repeated 6 h.free.user_again ∷ repeated 6 s ∷ again (codes "00010001")
    ∷ repeated 4 h.free.spare4 ∷ repeated 2 h.free.spare2 ∷ day_given [] (Some h.creation) ∷ day_given [] (Some h.expiry) ∷ repeated 1 h.free.access ∷ spaces 6 ∷ again (blank 20) ∷ []

abbrev pub eof1_place : Eof1Context → Place (Unit {0})
eof1_place k = stands (eof1 k.serial k.header) (λ u v w s x y c e a. tt)

abbrev pub eof1_line : Eof1Context → List ℕ
eof1_line k =
    laid (eof1 k.serial k.header) k.header.free.user k.header.free.version k.header.free.user_again k.serial
    k.header.free.spare4 k.header.free.spare2 k.header.creation k.header.expiry k.header.free.access

abbrev pub eof1_values : (k : Eof1Context) → Values (eof1 k.serial k.header)
eof1_values k = (
  k.header.free.user,
  (
    k.header.free.version,
    (
      k.header.free.user_again,
      (
        k.serial,
        (k.header.free.spare4, (k.header.free.spare2, (k.header.creation, (k.header.expiry, (k.header.free.access, tt))))),
      ),
    ),
  ),
)

pub record Eof1Fits (k : Eof1Context) : Type 0 where
  pub allowed : AllAllowed (eof1 k.serial k.header) (eof1_values k)
  -- nothing that is repeated holds a line feed
  pub user : plain k.header.free.user ≡ true
  pub version : plain k.header.free.version ≡ true
  pub user_again : plain k.header.free.user_again ≡ true
  pub serial : plain k.serial ≡ true
  pub spare4 : plain k.header.free.spare4 ≡ true
  pub spare2 : plain k.header.free.spare2 ≡ true
  pub access : plain k.header.free.access ≡ true
