-- What is shown of a number or a day is read again, and what is read is shown so.
use Rattle.std.proofs.Common.{◌≡◌, ℕ, suc, ◌^◌, ◌<◌, Bool, true, false, cond, List, length, Some, None, Ok, Err, Result, sym, refl, ap, ◌∙◌, subst, arith}
use Rattle.std.specs.Result.{result_ok}
use Rattle.terms.specs.declared.cause.InputCause.{InputCause}
use Rattle.digits.specs.Decimal.{decimal, all_digits, number_in}
use Rattle.digits.proofs.Numbers.{length-decimal, all_decimal, number_decimal, decimal_number, number_below}
use Rattle.days.specs.Dates.{date_reading, year_day}
use Rattle.days.proofs.Dating.{text_reads, only_text}
use Rattle.tables.specs.Forms.{Form, form_width, Within, shown, read_form}
use Rattle.tables.specs.Forms.Form.{decimals, dates}

pub shown_length : (m : Form) (n : ℕ) → length (shown m n) ≡ form_width m
unfolding shown
shown_length (decimals w) n = length-decimal w n
shown_length dates d = ap suc (length-decimal 5 (year_day d))

pub read_shown : (m : Form) (n : ℕ) → Within m n → read_form m (shown m n) ≡ Some n
unfolding shown read_form
read_shown (decimals w) n a = rw (all_decimal w n, number_decimal w n a)
read_shown dates d a = ap result_ok (text_reads d a)

passing : {X : Type 0} (b : Bool) (x y : X) → cond b (Some x) None ≡ Some y → (b ≡ true) × (x ≡ y)
passing true x y e = (refl, cc)
passing false x y e = let z : ◌≡◌ {A = ℕ} 0 1 = cc in absurd (omega arith)

accepted : (r : Result ℕ InputCause) (n : ℕ) → result_ok r ≡ Some n → r ≡ Ok n
accepted (Ok m) n e = cc
accepted (Err c) n e = let z : ◌≡◌ {A = ℕ} 0 1 = cc in absurd (omega arith)

pub shown_read : (m : Form) (xs : List ℕ) (n : ℕ) → length xs ≡ form_width m → read_form m xs ≡ Some n → Within m n × (shown m n ≡ xs)
unfolding shown read_form
shown_read (decimals w) xs n l e =
    let p = passing (all_digits xs) (number_in xs) n e in (
      subst (λ v. v < 10 ^ w) p.1 (subst (λ m. number_in xs < 10 ^ m) l (number_below xs p.0)),
      ap (decimal w) (sym p.1) ∙ ap (λ m. decimal m (number_in xs)) (sym l) ∙ decimal_number xs p.0,
    )
shown_read dates xs n l e = let p = only_text xs n (accepted (date_reading xs) n e) in (p.0, sym p.1)
