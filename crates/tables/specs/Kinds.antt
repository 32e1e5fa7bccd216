-- The kinds of field: what one says, how that is laid out, and what is wrong with other bytes.
use Rattle.std.specs.Prelude.{◌≡◌, ℕ, Bool, true, cond, List, [], ◌∷◌, length, Some, None, Option}
use Rattle.std.specs.Str.{bytes_eq}
use Rattle.terms.specs.declared.cause.InputCause.{InputCause}
use Rattle.tables.specs.Forms.{Form, form_width, Within, shown, read_form}

-- what is asked of a field's value, and the cause if it does not hold
pub record Rule (X : Type 0) : Type 0 where
  pub cause : InputCause
  pub holds : X → Bool

abbrev pub Keeps : {X : Type 0} → List (Rule X) → X → Type 0
Keeps [] x = Unit {0}
Keeps (r ∷ rs) x = (r.holds x ≡ true) × Keeps rs x

-- rules stand by rising cause, so this is the lowest
abbrev pub broken : {X : Type 0} → List (Rule X) → X → Option InputCause
broken [] x = None
broken (r ∷ rs) x = cond (r.holds x) (broken rs x) (Some r.cause)

pub data Kind : Type 0 where
  -- these bytes, else the cause
  fixed : InputCause → List ℕ → Kind
  -- bytes that keep the rules, in so many places
  letters : ℕ → List (Rule (List ℕ)) → Kind
  -- a number in this form that keeps the rules; the cause is that of bytes in no such form
  number : Form → InputCause → List (Rule ℕ) → Kind

abbrev pub width : Kind → ℕ
width (fixed c bs) = length bs
width (letters w rs) = w
width (number m c rs) = form_width m

-- The language of a kind.

-- what a field says
abbrev pub Value : Kind → Type 0
Value (fixed c bs) = Unit {0}
Value (letters w rs) = List ℕ
Value (number m c rs) = ℕ

abbrev pub Allowed : (k : Kind) → Value k → Type 0
Allowed (fixed c bs) v = Unit {0}
Allowed (letters w rs) v = (length v ≡ w) × Keeps rs v
Allowed (number m c rs) v = Within m v × Keeps rs v

abbrev pub field : (k : Kind) → Value k → List ℕ
field (fixed c bs) v = bs
field (letters w rs) v = v
field (number m c rs) v = shown m v

-- What is wrong with bytes at a field, and what they say if nothing is.

abbrev pub broken_by : InputCause → List (Rule ℕ) → Option ℕ → Option InputCause
broken_by c rs None = Some c
broken_by c rs (Some v) = broken rs v

abbrev pub value_of : Option ℕ → ℕ
value_of None = 0
value_of (Some v) = v

abbrev pub judge : Kind → List ℕ → Option InputCause
judge (fixed c bs) xs = cond (bytes_eq xs bs) None (Some c)
judge (letters w rs) xs = broken rs xs
judge (number m c rs) xs = broken_by c rs (read_form m xs)

abbrev pub says : (k : Kind) → List ℕ → Value k
says (fixed c bs) xs = tt
says (letters w rs) xs = xs
says (number m c rs) xs = value_of (read_form m xs)
