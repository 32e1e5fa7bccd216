-- The fields of a line, read one by one from the left: the first fault ends the reading.
use Rattle.std.specs.Prelude.{◌≡◌, ℕ, ◌+◌, ◌-◌, List, [], ◌∷◌, length, take, drop, Some, None, Ok, Err, Option, Result}
use Rattle.terms.specs.declared.cause.InputCause.{InputCause}
use Rattle.tables.specs.Forms.{form_width}
use Rattle.tables.specs.Kinds.{Kind, width, Value, judge, says}
use Rattle.tables.specs.Kinds.Kind.{fixed, letters, number}
use Rattle.tables.specs.Lines.{Table, By, at_values, values, TableFault, fields_fault}

-- the bytes of a line after the first `from`, up to the first `to`
unfoldable pub part : ℕ → ℕ → List ℕ → List ℕ
part from to l = take (to - from) (drop from l)

abbrev pub judged : {V : Type 0} → Option InputCause → V → Result V InputCause
judged None v = Ok v
judged (Some c) v = Err c

-- what the bytes of a field say, or the lowest cause in them
unfoldable pub reading : (k : Kind) → List ℕ → Result (Value k) InputCause
reading k bs = judged (judge k bs) (says k bs)

-- a cause gets its position, in whatever a fault is
abbrev pub placed : {V E : Type 0} → (InputCause → ℕ → E) → ℕ → Result V InputCause → Result V E
placed fault position (Ok v) = Ok v
placed fault position (Err c) = Err (fault c position)

-- what the field after the first `from` bytes of a line says
unfoldable pub field_reading : {E : Type 0} → (InputCause → ℕ → E) → (k : Kind) → ℕ → List ℕ → Result (Value k) E
field_reading fault k from l = placed fault (from + 1) (reading k (part from (from + width k) l))

abbrev pub after : {A B E : Type 0} → Result A E → (A → Result B E) → Result B E
after (Ok x) f = f x
after (Err e) f = Err e

-- what the fields of a table say, put together by f, or the first fault
abbrev pub fields_reading : {E : Type 0} → (InputCause → ℕ → E) → (X : Type 0) (t : Table) → By t X → ℕ → List ℕ → Result X E
fields_reading fault X [] f from l = Ok f
fields_reading fault X (fixed c bs ∷ ks) f from l = after (field_reading fault (fixed c bs) from l) (λ _. fields_reading fault X ks f (from + length bs) l)
fields_reading fault X (letters w rs ∷ ks) f from l = after (field_reading fault (letters w rs) from l) (λ v. fields_reading fault X ks (f v) (from + w) l)
fields_reading fault X (number m c rs ∷ ks) f from l = after (field_reading fault (number m c rs) from l) (λ v. fields_reading fault X ks (f v) (from + form_width m) l)

abbrev pub outcome : {X E : Type 0} → (InputCause → ℕ → E) → Option TableFault → X → Result X E
outcome fault None x = Ok x
outcome fault (Some e) x = Err (fault e.cause e.place)

-- the walk finds the fault of the fields, and else what they say
abbrev pub WalkLaw : Type 1
WalkLaw = (E X : Type 0) (fault : InputCause → ℕ → E) (t : Table) (f : By t X) (l : List ℕ) → fields_reading fault X t f 0 l ≡ outcome fault (fields_fault t 1 l) (at_values X t f (values t l))
