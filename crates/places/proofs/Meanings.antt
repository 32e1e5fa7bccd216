-- What the calls on numbers, days and amounts read is what their kinds of field say.
use Rattle.std.proofs.Common.{◌≡◌, ℕ, ◌/◌, ◌%◌, ◌^◌, ◌<◌, ◌≤◌, Bool, true, false, cond, leb, List, [], ◌∷◌, length, drop, Some, None, Ok, Err, Result, refl, ap, subst, arith}
use mathlib.Core.Path.{subst⁻¹}
use Rattle.std.specs.Result.{result_ok}
use Rattle.std.proofs.lemmas.Bool.{le-leb, lt-ltb}
use Rattle.terms.specs.declared.service.Service.{Service}
use Rattle.terms.specs.declared.cause.InputCause.{InputCause}
use Rattle.terms.specs.declared.cause.InputCause.TheVariants.{NotANumber, NoDate, WrongAmount}
use Rattle.digits.specs.Decimal.{all_digits, number_in, digits_reading}
use Rattle.digits.proofs.Numbers.{number_below}
use Rattle.days.specs.Dates.{dated, date_form, date_reading, in_year, day_number}
use Rattle.tables.specs.Forms.{read_form}
use Rattle.tables.specs.Kinds.{broken_by, value_of}
use Rattle.tables.specs.Walks.{reading, after, judged}
use Rattle.fields.specs.Words.{amount, date, good_amount, number, rule}
use Rattle.fields.specs.Judging.{amount_making, amount_reading, number_making, number_reading}

-- digits, as many as a number of 64 bits holds
pub digits_say : (w : ℕ) (bs : List ℕ) → length bs ≤ 19 → digits_reading bs ≡ reading (number w) bs
unfolding reading read_form
digits_say w bs few = let t : leb (length bs) 19 ≡ true = le-leb (length bs) 19 few in rw t (by_digits (all_digits bs))
  where
    by_digits : (b : Bool) → cond b (Ok (number_in bs)) (Err NotANumber) ≡ judged (broken_by NotANumber [] (cond b (Some (number_in bs)) None)) (value_of (cond b (Some (number_in bs)) None))
    by_digits true = refl
    by_digits false = refl

-- a number of so many digits is below the limit
pub number_says : (w limit : ℕ) (bs : List ℕ) → length bs ≡ w → w ≤ 19 → limit ≡ 10 ^ w → number_reading limit bs ≡ reading (number w) bs
unfolding reading read_form
number_says w limit bs wide few e =
    let t : leb (length bs) 19 ≡ true = le-leb (length bs) 19 (omega arith) in
    rw t (by_digits (all_digits bs) refl)
  where
    by_digits : (b : Bool) → all_digits bs ≡ b → after (cond b (Ok (number_in bs)) (Err NotANumber)) (number_making limit) ≡ judged (broken_by NotANumber [] (cond b (Some (number_in bs)) None)) (value_of (cond b (Some (number_in bs)) None))
    by_digits true h =
        let below : number_in bs < limit = subst⁻¹ (λ (n : ℕ). number_in bs < n) e (subst (λ (n : ℕ). number_in bs < 10 ^ n) wide (number_below bs h)) in
        rw (lt-ltb (number_in bs) limit below) refl
    by_digits false h = refl

pub amount_says : (g : Service) (bs : List ℕ) → length bs ≤ 19 → amount_reading g bs ≡ reading (amount g) bs
unfolding reading read_form
amount_says g bs few = let t : leb (length bs) 19 ≡ true = le-leb (length bs) 19 few in rw t (by_digits (all_digits bs))
  where
    by_limit : (b : Bool) → cond b (Ok (number_in bs)) (Err WrongAmount) ≡ judged (cond b None (Some WrongAmount)) (number_in bs)
    by_limit true = refl
    by_limit false = refl

    by_digits : (b : Bool) → after (cond b (Ok (number_in bs)) (Err NotANumber)) (amount_making g) ≡ judged (broken_by NotANumber (rule WrongAmount (good_amount g) ∷ []) (cond b (Some (number_in bs)) None)) (value_of (cond b (Some (number_in bs)) None))
    by_digits true = by_limit (good_amount g (number_in bs))
    by_digits false = refl

-- a date is a day, or has one cause
by_result : (r : Result ℕ InputCause) → ((c : InputCause) → r ≡ Err c → c ≡ NoDate) → r ≡ judged (broken_by NoDate [] (result_ok r)) (value_of (result_ok r))
by_result (Ok d) h = refl
by_result (Err c) h = ap Err (h c refl)

one_cause : (bs : List ℕ) (c : InputCause) → date_reading bs ≡ Err c → c ≡ NoDate
one_cause bs c = by_form (date_form bs)
  where
    n : ℕ
    n = number_in (drop 1 bs)

    by_year : (b : Bool) → cond b (Ok (day_number (n / 1000) (n % 1000))) (Err NoDate) ≡ Err c → c ≡ NoDate
    by_year true e = let z : ◌≡◌ {A = ℕ} 0 1 = cc in absurd (omega arith)
    by_year false e = cc

    by_form : (b : Bool) → cond b (dated n) (Err NoDate) ≡ Err c → c ≡ NoDate
    by_form true e = by_year (in_year (n / 1000) (n % 1000)) e
    by_form false e = cc

pub date_says : (bs : List ℕ) → date_reading bs ≡ reading (date []) bs
unfolding reading read_form
date_says bs = by_result (date_reading bs) (one_cause bs)
