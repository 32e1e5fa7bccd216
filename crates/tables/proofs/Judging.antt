-- Each kind's fields are read as what they were laid out for, and bytes with no fault are such a field.
use Rattle.std.proofs.Common.{◌≡◌, ℕ, Bool, true, false, cond, List, [], ◌∷◌, length, Some, None, Option, sym, refl, ap, arith}
use Rattle.std.proofs.lemmas.Slice.Eq.{bytes_eq-Decides}
use Rattle.std.specs.Str.{bytes_eq}
use Rattle.tables.specs.Forms.{read_form}
use Rattle.terms.specs.declared.cause.InputCause.{InputCause}
use Rattle.tables.specs.Kinds.{Rule, Keeps, broken, Kind, width, Value, Allowed, field, judge, says, broken_by, value_of}
use Rattle.tables.specs.Kinds.Kind.{fixed, letters, number}
use Rattle.tables.proofs.Showing.{shown_length, read_shown, shown_read}

pub some_none : {X : Type 0} (x : X) → ◌≡◌ {A = Option X} (Some x) None → ⊥
some_none x e = let z : ◌≡◌ {A = ℕ} 0 1 = cc in omega arith

-- a test that gives no fault
pub no_fault : {X : Type 0} (b : Bool) (o : Option X) (x : X) → cond b o (Some x) ≡ None → (b ≡ true) × (o ≡ None)
no_fault true o x e = (refl, e)
no_fault false o x e = absurd (some_none x e)

pub keeps_unbroken : {X : Type 0} (rs : List (Rule X)) (x : X) → Keeps rs x → broken rs x ≡ None
keeps_unbroken [] x h = refl
keeps_unbroken (r ∷ rs) x h = rw h.0 (keeps_unbroken rs x h.1)

pub unbroken_keeps : {X : Type 0} (rs : List (Rule X)) (x : X) → broken rs x ≡ None → Keeps rs x
unbroken_keeps [] x h = tt
unbroken_keeps (r ∷ rs) x h = let p = no_fault (r.holds x) (broken rs x) r.cause h in (p.0, unbroken_keeps rs x p.1)

pub field_length : (k : Kind) (v : Value k) → Allowed k v → length (field k v) ≡ width k
field_length (fixed c bs) v a = refl
field_length (letters w rs) v a = a.0
field_length (number m c rs) v a = shown_length m v

pub judge-field : (k : Kind) (v : Value k) → Allowed k v → judge k (field k v) ≡ None
judge-field (fixed c bs) v a = rw ((bytes_eq-Decides bs bs).1 refl)
judge-field (letters w rs) v a = keeps_unbroken rs v a.1
judge-field (number m c rs) v a = rw (read_shown m v a.0) (keeps_unbroken rs v a.1)

pub says-field : (k : Kind) (v : Value k) → Allowed k v → says k (field k v) ≡ v
says-field (fixed c bs) v a = refl
says-field (letters w rs) v a = refl
says-field (number m c rs) v a = ap value_of (read_shown m v a.0)

-- what is read, if it has no fault
unjudged : (c : InputCause) (rs : List (Rule ℕ)) (o : Option ℕ) → broken_by c rs o ≡ None → (o ≡ Some (value_of o)) × (broken rs (value_of o) ≡ None)
unjudged c rs None h = absurd (some_none c h)
unjudged c rs (Some v) h = (refl, h)

pub judged_allowed : (k : Kind) (xs : List ℕ) → length xs ≡ width k → judge k xs ≡ None → Allowed k (says k xs)
judged_allowed (fixed c bs) xs l h = tt
judged_allowed (letters w rs) xs l h = (l, unbroken_keeps rs xs h)
judged_allowed (number m c rs) xs l h =
    let u = unjudged c rs (read_form m xs) h in
    ((shown_read m xs (value_of (read_form m xs)) l u.0).0, unbroken_keeps rs (value_of (read_form m xs)) u.1)

pub judged_field : (k : Kind) (xs : List ℕ) → length xs ≡ width k → judge k xs ≡ None → field k (says k xs) ≡ xs
judged_field (fixed c bs) xs l h = sym ((bytes_eq-Decides xs bs).0 (no_fault (bytes_eq xs bs) None c h).0)
judged_field (letters w rs) xs l h = refl
judged_field (number m c rs) xs l h = (shown_read m xs (value_of (read_form m xs)) l (unjudged c rs (read_form m xs) h).0).1
