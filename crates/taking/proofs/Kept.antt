-- A sum that is kept up to the largest number of 64 bits is compared as the sum itself: no field has so many digits.
use Rattle.std.proofs.Common.{◌≡◌, ℕ, ◌+◌, ◌-◌, ◌^◌, ◌<◌, ◌≤◌, min, Bool, true, false, cond, eqb, leb, List, [], length, take, drop, Some, None, Option, Result, sym, refl, ap, ◌∙◌, arith, length-take}
use native.Mathlib.Nat.{min-eq_left, min-eq_right, pow-le-pow_right}
use Rattle.std.proofs.lemmas.Bool.{leb-false, leb-true, ne_eqb}
use Rattle.terms.specs.declared.cause.InputCause.TheVariants as cause
use Rattle.digits.specs.Decimal.{all_digits, number_in}
use Rattle.digits.proofs.Numbers.{number_below}
use Rattle.tables.specs.Forms.{read_form}
use Rattle.tables.specs.Kinds.{broken_by, value_of}
use Rattle.tables.specs.Walks.{field_reading, judged, part, placed, reading}
use Rattle.lines.specs.declared.fault.FileFault.{FileFault}
use Rattle.lines.specs.Faults.{fault_of}
use Rattle.places.specs.Given.{digits_given, given_rules}
use Rattle.taking.specs.Records.{most}

same_test : (v n : ℕ) → v < most → eqb v (min n most) ≡ eqb v n
same_test v n h = go (leb n most) refl
  where
    go : (t : Bool) → leb n most ≡ t → eqb v (min n most) ≡ eqb v n
    go true e = ap (eqb v) (min-eq_left (leb-true n most e))
    go false e =
        let large : most ≤ n = omega (arith, leb-false n most e) in
        ne_eqb v (min n most) (λ q. omega (arith, min-eq_right large)) ∙ sym (ne_eqb v n (λ q. omega arith))

-- what bytes say where the number n is fixed
abbrev compared : ℕ → ℕ → Option ℕ → Result ℕ FileFault
compared from n o = placed fault_of (from + 1) (judged (broken_by cause.Differs (given_rules eqb [] (Some n)) o) (value_of o))

kept_compared : (w n from : ℕ) (bs : List ℕ) → length bs ≤ w → 10 ^ w ≤ most → (t : Bool) → all_digits bs ≡ t → compared from (min n most) (cond t (Some (number_in bs)) None) ≡ compared from n (cond t (Some (number_in bs)) None)
kept_compared w n from bs few h true e =
    let low : number_in bs < most = omega (arith, number_below bs e, pow-le-pow_right {n = 10} (omega arith) few) in
    ap (λ (b : Bool). placed fault_of (from + 1) (judged (cond b None (Some cause.Differs)) (number_in bs))) (same_test (number_in bs) n low)
kept_compared w n from bs few h false e = refl

pub kept_number : (w n from : ℕ) (l : List ℕ) → 10 ^ w ≤ most → field_reading fault_of (digits_given w (Some (min n most))) from l ≡ field_reading fault_of (digits_given w (Some n)) from l
unfolding field_reading reading part read_form
kept_number w n from l h =
    let bs = take (from + w - from) (drop from l) in
    kept_compared w n from bs (omega (arith, length-take (from + w - from) (drop from l))) h (all_digits bs) refl
