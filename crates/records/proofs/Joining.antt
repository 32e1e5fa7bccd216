-- A table that goes on after another: its fields are read after the other's.
use Rattle.std.proofs.Common.{◌≡◌, ℕ, ◌+◌, List, [], ◌∷◌, ◌++◌, length, Ok, Err, Result, sym, refl, ap, ◌∙◌, add-zero, add_assoc}
use Rattle.terms.specs.declared.cause.InputCause.{InputCause}
use Rattle.tables.specs.Forms.{form_width}
use Rattle.tables.specs.Kinds.Kind.{fixed, letters, number}
use Rattle.tables.specs.Lines.{By, Table, line_width}
use Rattle.tables.specs.Walks.{after, field_reading, fields_reading}

-- what the values of both are put together to
abbrev pub joined : (X Y : Type 0) (t u : Table) → By t X → (X → By u Y) → By (t ++ u) Y
joined X Y [] u f h = h f
joined X Y (fixed c bs ∷ ks) u f h = joined X Y ks u f h
joined X Y (letters w rs ∷ ks) u f h = λ v. joined X Y ks u (f v) h
joined X Y (number m c rs ∷ ks) u f h = λ v. joined X Y ks u (f v) h

after_both : {A B C E : Type 0} (r : Result A E) (f : A → Result B E) (h : B → Result C E) (k : A → Result C E) → ((x : A) → k x ≡ after (f x) h) → after r k ≡ after (after r f) h
after_both (Ok x) f h k e = e x
after_both (Err c) f h k e = refl

module _ {E : Type 0} (X Y : Type 0) (fault : InputCause → ℕ → E) (u : Table) (h : X → By u Y) (l : List ℕ) where
  abbrev rest : ℕ → X → Result Y E
  rest from x = fields_reading fault Y u (h x) from l

  moved : (r : Result X E) (a b : ℕ) → a ≡ b → after r (rest a) ≡ after r (rest b)
  moved r a b e = ap (λ (n : ℕ). after r (rest n)) e

  pub reading_then : (t : Table) (f : By t X) (from : ℕ) → fields_reading fault Y (t ++ u) (joined X Y t u f h) from l ≡ after (fields_reading fault X t f from l) (rest (from + line_width t))
  reading_then [] f from = ap (λ (n : ℕ). rest n f) (sym (add-zero from))
  reading_then (fixed c bs ∷ ks) f from =
      after_both (field_reading fault (fixed c bs) from l) _ (rest (from + (length bs + line_width ks))) _
      (λ x. reading_then ks f (from + length bs) ∙ moved _ _ _ (add_assoc from (length bs) (line_width ks)))
  reading_then (letters w rs ∷ ks) f from =
      after_both (field_reading fault (letters w rs) from l) _ (rest (from + (w + line_width ks))) _
      (λ x. reading_then ks (f x) (from + w) ∙ moved _ _ _ (add_assoc from w (line_width ks)))
  reading_then (number m c rs ∷ ks) f from =
      after_both (field_reading fault (number m c rs) from l) _ (rest (from + (form_width m + line_width ks))) _
      (λ x. reading_then ks (f x) (from + form_width m) ∙ moved _ _ _ (add_assoc from (form_width m) (line_width ks)))
