-- A line is a table of fields, which tile it.
use Rattle.std.specs.Prelude.{◌≡◌, ℕ, ◌+◌, cond, ◌≢◌, ◌⊎◌, ◌↔◌, List, [], ◌∷◌, ◌++◌, length, take, drop, Some, None, Option, ◌==◌}
use Rattle.tables.specs.Forms.{form_width, shown, read_form}
use Rattle.terms.specs.declared.cause.InputCause.{InputCause}
use Rattle.tables.specs.Kinds.{Kind, width, Allowed, judge, value_of}
use Rattle.terms.specs.declared.cause.InputCause.TheVariants.{WrongLength}
use Rattle.tables.specs.Kinds.Kind.{fixed, letters, number}

abbrev pub Table : Type 0
Table = List Kind

abbrev pub line_width : Table → ℕ
line_width [] = 0
line_width (k ∷ ks) = width k + line_width ks

-- The language of a table.

-- what a line says: a value for each field that is not fixed
abbrev pub Values : Table → Type 0
Values [] = Unit {0}
Values (fixed c bs ∷ ks) = Values ks
Values (letters w rs ∷ ks) = List ℕ × Values ks
Values (number m c rs ∷ ks) = ℕ × Values ks

abbrev pub AllAllowed : (t : Table) → Values t → Type 0
AllAllowed [] v = Unit {0}
AllAllowed (fixed c bs ∷ ks) v = AllAllowed ks v
AllAllowed (letters w rs ∷ ks) v = Allowed (letters w rs) v.0 × AllAllowed ks v.1
AllAllowed (number m c rs ∷ ks) v = Allowed (number m c rs) v.0 × AllAllowed ks v.1

abbrev pub line : (t : Table) → Values t → List ℕ
line [] v = []
line (fixed c bs ∷ ks) v = bs ++ line ks v
line (letters w rs ∷ ks) v = v.0 ++ line ks v.1
line (number m c rs ∷ ks) v = shown m v.0 ++ line ks v.1

-- a function of the values of a line, one by one
abbrev pub By : Table → Type 0 → Type 0
By [] X = X
By (fixed c bs ∷ ks) X = By ks X
By (letters w rs ∷ ks) X = List ℕ → By ks X
By (number m c rs ∷ ks) X = ℕ → By ks X

abbrev pub at_values : (X : Type 0) (t : Table) → By t X → Values t → X
at_values X [] f v = f
at_values X (fixed c bs ∷ ks) f v = at_values X ks f v
at_values X (letters w rs ∷ ks) f v = at_values X ks (f v.0) v.1
at_values X (number m c rs ∷ ks) f v = at_values X ks (f v.0) v.1

abbrev pub by_values : (X : Type 0) (t : Table) → (Values t → X) → By t X
by_values X [] f = f tt
by_values X (fixed c bs ∷ ks) f = by_values X ks f
by_values X (letters w rs ∷ ks) f = λ x. by_values X ks (λ v. f (x, v))
by_values X (number m c rs ∷ ks) f = λ x. by_values X ks (λ v. f (x, v))

-- the line of these values
abbrev pub lay : (t : Table) → By t (List ℕ)
lay t = by_values (List ℕ) t (line t)

-- l is the line of the values v
pub record IsLine (t : Table) (v : Values t) (l : List ℕ) : Type 0 where
  pub allowed : AllAllowed t v
  pub is : l ≡ line t v

-- What is wrong with a line, and what it says if nothing is.

pub record TableFault : Type 0 where
  pub cause : InputCause
  -- the first place of the field; places count from 1
  pub place : ℕ

abbrev pub or_later : ℕ → Option InputCause → Option TableFault → Option TableFault
or_later place None later = later
or_later place (Some c) later = Some (record { cause = c; place = place })

-- that of the first field from the left that has one
unfoldable pub fields_fault : Table → ℕ → List ℕ → Option TableFault
fields_fault [] place l = None
fields_fault (k ∷ ks) place l = or_later place (judge k (take (width k) l)) (fields_fault ks (width k + place) (drop (width k) l))

abbrev pub wrong_width : TableFault
wrong_width = record { cause = WrongLength; place = 1 }

unfoldable pub line_fault : Table → List ℕ → Option TableFault
line_fault t l = cond (length l == line_width t) (fields_fault t 1 l) (Some wrong_width)

unfoldable pub values : (t : Table) → List ℕ → Values t
values [] l = tt
values (fixed c bs ∷ ks) l = values ks (drop (length bs) l)
values (letters w rs ∷ ks) l = (take w l, values ks (drop w l))
values (number m c rs ∷ ks) l = (value_of (read_form m (take (form_width m) l)), values ks (drop (form_width m) l))

-- A line has no fault exactly if it is a line of the table's language, and then it is the line of what is read and of nothing else.
pub record ReadsLine (t : Table) (l : List ℕ) : Type 0 where
  pub sound : line_fault t l ≡ None → IsLine t (values t l) l
  pub complete : (v : Values t) → IsLine t v l → line_fault t l ≡ None
  pub one : (v : Values t) → IsLine t v l → values t l ≡ v

abbrev pub LineLaw : Type 0
LineLaw = (t : Table) (l : List ℕ) → ReadsLine t l

-- A fault, said without judging from the left: the fields in front are those of some values, and this one has the fault. `from` is the place of the first.
pub record TableFieldFault (t : Table) (from : ℕ) (l : List ℕ) (e : TableFault) : Type 0 where
  pub front : Table
  pub kind : Kind
  pub back : Table
  pub tiles : t ≡ front ++ kind ∷ back
  pub before : Values front
  pub allowed : AllAllowed front before
  pub bytes : List ℕ
  pub after : List ℕ
  pub is : l ≡ line front before ++ (bytes ++ after)
  pub wide : length bytes ≡ width kind
  pub faulty : judge kind bytes ≡ Some e.cause
  pub at : e.place ≡ line_width front + from

abbrev pub FirstIn : Table → List ℕ → TableFault → Type 0
FirstIn t l e = ((length l ≢ line_width t) × (e ≡ wrong_width)) ⊎ ((length l ≡ line_width t) × TableFieldFault t 1 l e)

abbrev pub FaultLaw : Type 0
FaultLaw = (t : Table) (l : List ℕ) (e : TableFault) → (line_fault t l ≡ Some e) ↔ FirstIn t l e
