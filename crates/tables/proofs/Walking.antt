-- Reading the fields one by one gives the fault of the fields, and else what they say.
use Rattle.std.proofs.Common.{◌≡◌, ℕ, ◌+◌, ◌-◌, List, [], ◌∷◌, length, take, drop, Some, None, Option, Result, refl, ◌∙◌, arith}
use Rattle.std.proofs.lemmas.List.{drop-drop}
use Rattle.terms.specs.declared.cause.InputCause.{InputCause}
use Rattle.tables.specs.Forms.{form_width, read_form}
use Rattle.tables.specs.Kinds.{Kind, width, Value, judge, says, value_of}
use Rattle.tables.specs.Kinds.Kind.{fixed, letters, number}
use Rattle.tables.specs.Lines.{Table, By, at_values, values, TableFault, or_later, fields_fault}
use Rattle.tables.specs.Walks.{part, judged, reading, placed, field_reading, after, fields_reading, outcome, WalkLaw}

module _ {E X : Type 0} (fault : InputCause → ℕ → E) where
  -- one field, and then what follows it
  step : (k : Kind) (from : ℕ) (l : List ℕ) (next : Value k → Result X E) (later : Option TableFault) (x : X) →
      next (says k (take (width k) (drop from l))) ≡ outcome fault later x →
      after (field_reading fault k from l) next ≡ outcome fault (or_later (from + 1) (judge k (take (width k) (drop from l))) later) x
  unfolding field_reading reading part
  step k from l next later x h =
      let wide : (from + width k) - from ≡ width k = omega arith in
      rw wide (by_judge (judge k (take (width k) (drop from l))))
    where
      by_judge : (o : Option InputCause) → after (placed fault (from + 1) (judged o (says k (take (width k) (drop from l))))) next ≡ outcome fault (or_later (from + 1) o later) x
      by_judge None = h
      by_judge (Some c) = refl

  walk : (t : Table) (f : By t X) (from : ℕ) (l : List ℕ) → fields_reading fault X t f from l ≡ outcome fault (fields_fault t (from + 1) (drop from l)) (at_values X t f (values t (drop from l)))
  unfolding fields_fault values
  walk [] f from l = refl
  walk (fixed c bs ∷ ks) f from l =
      let w = length bs in
      let n : from + w + 1 ≡ w + (from + 1) = omega arith in
      let rest = drop-drop w from l in
      step (fixed c bs) from l (λ _. fields_reading fault X ks f (from + w) l) (fields_fault ks (w + (from + 1)) (drop w (drop from l))) (at_values X ks f (values ks (drop w (drop from l))))
      (walk ks f (from + w) l ∙ rw (n, rest) refl)
  walk (letters w rs ∷ ks) f from l =
      let n : from + w + 1 ≡ w + (from + 1) = omega arith in
      let rest = drop-drop w from l in
      step (letters w rs) from l (λ v. fields_reading fault X ks (f v) (from + w) l) (fields_fault ks (w + (from + 1)) (drop w (drop from l))) (at_values X ks (f (take w (drop from l))) (values ks (drop w (drop from l))))
      (walk ks (f (take w (drop from l))) (from + w) l ∙ rw (n, rest) refl)
  walk (number m c rs ∷ ks) f from l =
      let w = form_width m in
      let v = value_of (read_form m (take w (drop from l))) in
      let n : from + w + 1 ≡ w + (from + 1) = omega arith in
      let rest = drop-drop w from l in
      step (number m c rs) from l (λ v. fields_reading fault X ks (f v) (from + w) l) (fields_fault ks (w + (from + 1)) (drop w (drop from l))) (at_values X ks (f v) (values ks (drop w (drop from l))))
      (walk ks (f v) (from + w) l ∙ rw (n, rest) refl)

pub walk_law : WalkLaw
walk_law E X fault t f l = walk fault t f 0 l
