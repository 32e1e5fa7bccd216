-- A day of which it was looked up beforehand whether it is open is judged as by the set of open days.
use Rattle.std.proofs.Common.{◌≡◌, ℕ, ◌+◌, ◌-◌, ◌≤◌, Bool, cond, List, ◌++◌, length, take, drop, Some, None, Option, sym, refl, ap, ◌∙◌, arith, length-append, length-drop}
use lib.Seq.{take-append-le}
use Rattle.std.proofs.lemmas.List.{drop-append-le}
use Rattle.std.proofs.lemmas.Bool.{cond-true, le-leb}
use Rattle.terms.specs.declared.cause.InputCause.TheVariants as cause
use Rattle.tables.specs.Forms.{read_form}
use Rattle.tables.specs.Forms.Form.{dates}
use Rattle.tables.specs.Kinds.{broken_by, value_of}
use Rattle.tables.specs.Walks.{field_reading, judged, part, placed, reading}
use Rattle.fields.specs.Words.{date}
use Rattle.lines.specs.Faults.{fault_of}
use Rattle.places.specs.Given.{usable_rules}
use Rattle.taking.specs.Taking.{if_open, open_at}

-- a part that lies within the line
pub part_front : (from to : ℕ) (l more : List ℕ) → from ≤ to → to ≤ length l → part from to (l ++ more) ≡ part from to l
unfolding part
part_front from to l more h k =
    let a : from ≤ length l = omega arith in
    let b : to - from ≤ length (drop from l) = omega (arith, length-drop from l) in
    ap (take (to - from)) (drop-append-le from l more a) ∙ take-append-le (to - from) (drop from l) more b

pub open_in_line : (opens : ℕ → Bool) (from : ℕ) (l more : List ℕ) → from + 6 ≤ length l → open_at opens from (l ++ more) ≡ if_open opens (read_form dates (part from (from + 6) l))
unfolding open_at
open_in_line opens from l more h =
    cond-true _ _ _ (le-leb (from + 6) (length (l ++ more)) (omega (arith, length-append l more)))
    ∙ ap (λ (bs : List ℕ). if_open opens (read_form dates bs)) (part_front from (from + 6) l more (omega arith) h)

pub looked_up : (test opens : ℕ → Bool) (from : ℕ) (l : List ℕ) (flag : Bool) → flag ≡ if_open opens (read_form dates (part from (from + 6) l)) → field_reading fault_of (date (usable_rules test opens)) from l ≡ field_reading fault_of (date (usable_rules test (λ _. flag))) from l
unfolding field_reading reading
looked_up test opens from l flag e = go (read_form dates (part from (from + 6) l)) e
  where
    go : (o : Option ℕ) → flag ≡ if_open opens o →
        placed fault_of (from + 1) (judged (broken_by cause.NoDate (usable_rules test opens) o) (value_of o)) ≡ placed fault_of (from + 1) (judged (broken_by cause.NoDate (usable_rules test (λ _. flag)) o) (value_of o))
    go None h = refl
    go (Some d) h = ap (λ (b : Bool). placed fault_of (from + 1) (judged (cond (test d) (cond b None (Some cause.DayNotOpen)) (Some cause.DayOutOfRange)) d)) (sym h)
