-- The year and the place in the year come back from a day's number, and so do texts from days.
use Rattle.std.proofs.Common.{◌≡◌, ℕ, suc, ◌+◌, ◌-◌, ◌*◌, ◌/◌, ◌%◌, ◌^◌, ◌<◌, ◌≤◌, Bool, true, false, cond, ◌&&◌, eqb, leb, List, [], ◌∷◌, ◌++◌, length, get_or, take, drop, IfOk, Ok, Err, Result, sym, refl, ap, ◌∙◌, subst, arith, length-drop}
use Rattle.std.specs.Str.{bytes_eq}
use Rattle.std.proofs.lemmas.Nat.{div-mul-add, mod-mul-add}
use Rattle.std.proofs.lemmas.Slice.Eq.{bytes_eq-Decides}
use Rattle.std.proofs.lemmas.List.{take-append-drop}
use Rattle.std.proofs.lemmas.Bool.{and_from, and_parts, eq-eqb, eqb-true, le-leb, leb-true}
use Rattle.std.proofs.lemmas.Bool.Decides.{nat_tests}
use Rattle.terms.specs.declared.cause.InputCause.{InputCause}
use Rattle.digits.specs.Decimal.{all_digits, number_in, digits_reading, decimal}
use Rattle.digits.proofs.Numbers.{length-decimal, all_decimal, number_decimal, decimal_number, number_below, passing}
use Rattle.days.specs.Dates.{first_day_of, year_length, day_number, in_year, dated, date_form, date_reading, year_of, place_of, year_day, date_text, date_writing, DateLaws}

-- Years and places.

year_back : (y k : ℕ) → 1 ≤ k → k ≤ year_length y → 4 * (365 * y + (y + 3) / 4 + k - 1) / 1461 ≡ y
year_back y k l h = grind (arith, nat_tests)

last_day : (y k : ℕ) → y ≤ 99 → 1 ≤ k → k ≤ year_length y → 365 * y + (y + 3) / 4 + k - 1 ≤ 36524
last_day y k m l h = grind (arith, nat_tests)

day_back : (n y k d : ℕ) → n ≡ 1000 * y + k → 1 ≤ k → k ≤ year_length y → d ≡ 365 * y + (y + 3) / 4 + k - 1 → year_of d ≡ y → year_day d ≡ n
day_back n y k d e l h i j = rw j (omega arith)

-- five digits that name a day are those of the day
pub dated_back : (n d : ℕ) → n < 10 ^ 5 → dated n ≡ Ok d → (d ≤ 36524) × (year_day d ≡ n)
dated_back n d l e =
    let v = passing (in_year (n / 1000) (n % 1000)) (day_number (n / 1000) (n % 1000)) d _ e in
    let p = and_parts (leb 1 (n % 1000)) (leb (n % 1000) (year_length (n / 1000))) v.0 in
    let low = leb-true 1 (n % 1000) p.0 in
    let high = leb-true (n % 1000) (year_length (n / 1000)) p.1 in
    let small : n / 1000 ≤ 99 = omega arith in
    let whole : n ≡ 1000 * (n / 1000) + n % 1000 = omega arith in
    let year : year_of d ≡ n / 1000 = ap year_of (sym v.1) ∙ year_back (n / 1000) (n % 1000) low high in (
      subst (λ (m : ℕ). m ≤ 36524) v.1 (last_day (n / 1000) (n % 1000) small low high),
      day_back n (n / 1000) (n % 1000) d whole low high (sym v.1) year,
    )

in_its_year : (d y : ℕ) → y ≡ 4 * d / 1461 → (first_day_of y ≤ d) × (d - first_day_of y + 1 ≤ year_length y)
in_its_year d y e = (omega arith, grind (arith, nat_tests))

small_year : (d : ℕ) → d ≤ 36524 → 4 * d / 1461 ≤ 99
small_year d h = omega arith

-- the five digits of a day name it
pub dated_of : (d : ℕ) → d ≤ 36524 → (year_day d < 10 ^ 5) × (dated (year_day d) ≡ Ok d)
dated_of d h =
    let y = year_of d in
    let k = place_of d in
    let r = in_its_year d y refl in
    let few : year_length y ≤ 366 = grind (arith, nat_tests) in
    let s = small_year d h in
    let small : k < 1000 = omega (arith, r.1, few) in
    let q : (1000 * y + k) / 1000 ≡ y = omega (arith, div-mul-add y 1000 k small) in
    let m : (1000 * y + k) % 1000 ≡ k = omega (arith, mod-mul-add y 1000 k small) in
    let t : in_year y k ≡ true = and_from _ _ (le-leb 1 k (omega arith)) (le-leb k (year_length y) r.1) in
    let e : day_number y k ≡ d = omega (arith, r.0) in
    (omega (arith, s, small), rw (q, m, t, e) refl)

-- Texts.

pub text_reads : (d : ℕ) → d ≤ 36524 → date_reading (date_text d) ≡ Ok d
text_reads d h =
    let r = dated_of d h in
    let six : eqb (suc (length (decimal 5 (year_day d)))) 6 ≡ true = eq-eqb _ 6 (omega (arith, length-decimal 5 (year_day d))) in
    rw (six, all_decimal 5 (year_day d), number_decimal 5 (year_day d) r.0) r.1

passing_on : (b : Bool) (r : Result ℕ InputCause) (e : InputCause) (d : ℕ) → cond b r (Err e) ≡ Ok d → (b ≡ true) × (r ≡ Ok d)
passing_on true r e d h = (refl, h)
passing_on false r e d h = let z : ◌≡◌ {A = ℕ} 0 1 = cc in absurd (omega arith)

pub only_text : (bs : List ℕ) (d : ℕ) → date_reading bs ≡ Ok d → (d ≤ 36524) × (bs ≡ date_text d)
only_text bs d e =
    let ys = drop 1 bs in
    let v = passing_on (date_form bs) (dated (number_in ys)) _ d e in
    let p = and_parts (eqb (length bs) 6) (bytes_eq (take 1 bs) (32 ∷ []) && all_digits ys) v.0 in
    let q = and_parts (bytes_eq (take 1 bs) (32 ∷ [])) (all_digits ys) p.1 in
    let six = eqb-true (length bs) 6 p.0 in
    let five : length ys ≡ 5 = length-drop 1 bs ∙ omega arith in
    let small : number_in ys < 10 ^ 5 = subst (λ m. number_in ys < 10 ^ m) five (number_below ys q.1) in
    let back = dated_back (number_in ys) d small v.1 in
    let text : date_text d ≡ bs = ap (λ n. 32 ∷ decimal 5 n) back.1 ∙ ap (λ m. 32 ∷ decimal m (number_in ys)) (sym five) ∙ ap (λ zs. 32 ∷ zs) (decimal_number ys q.1) ∙ ap (λ zs. zs ++ ys) (sym ((bytes_eq-Decides (take 1 bs) (32 ∷ [])).0 q.0)) ∙ take-append-drop 1 bs in
    (back.0, sym text)

pub date_laws : DateLaws
date_laws =
    record {
      written_reads = λ d text e.
          let v = passing (leb d 36524) (date_text d) text _ e in
          subst (λ (bs : List ℕ). date_reading bs ≡ Ok d) v.1 (text_reads d (leb-true d 36524 v.0));
      one_text = λ text d e.
          let v = only_text text d e in
          let t : leb d 36524 ≡ true = le-leb d 36524 v.0 in
          let same : text ≡ date_text d = v.1 in
          rw t (cc);
      days_read = λ d. ((λ p. (only_text p.0 d p.1).0), (λ h. (date_text d, text_reads d h)));
    }

-- The steps of the code.

-- five digits after a space are read as the day that they name
pub digits_name : (bs : List ℕ) (n : ℕ) → length bs ≡ 6 → get_or bs 0 0 ≡ 32 → Ok n ≡ digits_reading (drop 1 bs) → dated n ≡ date_reading bs
digits_name [] n six e h = absurd (omega arith)
digits_name (b ∷ bs) n six e h =
    let v = passing (leb (length bs) 19 && all_digits bs) (number_in bs) n _ (sym h) in
    let all = and_parts (leb (length bs) 19) (all_digits bs) v.0 in
    rw (e, eq-eqb (suc (length bs)) 6 six, all.1) (ap dated (sym v.1))

-- what is read has the text that is written
pub read_text : (bs : List ℕ) (r : Result ℕ InputCause) → r ≡ date_reading bs → IfOk r (λ d. (d ≤ 36524) × (bs ≡ date_text d))
read_text bs (Ok d) e = only_text bs d (sym e)
read_text bs (Err c) e = tt

-- what is written of a day reads as that day
pub writing_reads : (d : ℕ) (text : List ℕ) → Ok text ≡ date_writing d → date_reading text ≡ Ok d
writing_reads d text e = date_laws.written_reads d text (sym e)
