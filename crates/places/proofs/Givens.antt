-- Fields that earlier lines may fix: what is read of them is what their kind says.
use Rattle.std.proofs.Common.{◌≡◌, ℕ, Bool, true, false, cond, eqb, eqb-true, leb, List, [], ◌∷◌, length, ◌≤◌, Some, None, Ok, Err, Option, Result, sym, refl, ap}
use Rattle.std.specs.Result.{result_eq, result_ok}
use Rattle.std.proofs.lemmas.Slice.Eq.{bytes_eq-Decides}
use Rattle.std.proofs.lemmas.Bool.{le-leb}
use Rattle.terms.specs.declared.cause.InputCause.{InputCause}
use Rattle.terms.specs.declared.cause.InputCause.TheVariants.{NotANumber, Differs}
use Rattle.digits.specs.Decimal.{all_digits, digits_reading, number_in}
use Rattle.days.specs.Dates.{date_reading}
use Rattle.tables.specs.Forms.{read_form}
use Rattle.tables.specs.Forms.Form.{decimals, dates}
use Rattle.tables.specs.Kinds.{Kind, Value, broken_by, value_of}
use Rattle.tables.specs.Kinds.Kind.{fixed, letters, number}
use Rattle.tables.specs.Walks.{judged, reading}
use Rattle.fields.specs.Words.{rule}
use Rattle.places.specs.Given.{given, given_value, number_stands, value_stands}

-- the fixed value stands
pub kept : (k : Kind) (v : Value k) (bs : List ℕ) → true ≡ value_stands k v bs → Ok (given_value k v v) ≡ reading (given k v) bs
unfolding reading
kept (fixed c cs) v bs h = rw (sym h) refl
kept (letters w rs) v bs h = let same : bs ≡ v = (bytes_eq-Decides bs v).0 (sym h) in rw (sym h) (ap Ok (sym same))
kept (number m c rs) v bs h = by_form (read_form m bs) h
  where
    by_form : (o : Option ℕ) → true ≡ number_stands v o → Ok v ≡ judged (broken_by Differs (rule Differs (λ n. eqb n v) ∷ []) o) (value_of o)
    by_form None e = cc
    by_form (Some n) e = rw (sym e) (ap Ok (sym (eqb-true n v (sym e))))

-- something else stands
pub other : (k : Kind) (v : Value k) (bs : List ℕ) → false ≡ value_stands k v bs → Err Differs ≡ reading (given k v) bs
unfolding reading
other (fixed c cs) v bs h = rw (sym h) refl
other (letters w rs) v bs h = rw (sym h) refl
other (number m c rs) v bs h = by_form (read_form m bs) h
  where
    by_form : (o : Option ℕ) → false ≡ number_stands v o → Err Differs ≡ judged (broken_by Differs (rule Differs (λ n. eqb n v) ∷ []) o) (value_of o)
    by_form None e = refl
    by_form (Some n) e = rw (sym e) refl

-- a number that is read is the one that stands
pub by_reading : (same : InputCause → InputCause → Bool) (v : ℕ) (r : Result ℕ InputCause) → result_eq eqb same r (Ok v) ≡ number_stands v (result_ok r)
by_reading same v (Ok n) = refl
by_reading same v (Err c) = refl

pub digits_form : (w : ℕ) (bs : List ℕ) → length bs ≤ 19 → result_ok (digits_reading bs) ≡ read_form (decimals w) bs
unfolding read_form
digits_form w bs few = let t : leb (length bs) 19 ≡ true = le-leb (length bs) 19 few in rw t (by_digits (all_digits bs))
  where
    by_digits : (b : Bool) → result_ok (cond b (Ok (number_in bs)) (Err NotANumber)) ≡ cond b (Some (number_in bs)) None
    by_digits true = refl
    by_digits false = refl

pub date_form : (bs : List ℕ) → result_ok (date_reading bs) ≡ read_form dates bs
unfolding read_form
date_form bs = refl
