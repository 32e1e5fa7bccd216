-- A day that is read and then judged by rules is what a field with these rules says.
use Rattle.std.proofs.Common.{◌≡◌, ℕ, Bool, true, false, cond, List, [], Some, None, Ok, Err, Option, Result, sym, refl, ap, ◌∙◌}
use Rattle.terms.specs.declared.cause.InputCause.{InputCause}
use Rattle.terms.specs.declared.cause.InputCause.TheVariants.{NoDate, DayNotOpen, DayOutOfRange}
use Rattle.tables.specs.Forms.{read_form}
use Rattle.tables.specs.Forms.Form.{dates}
use Rattle.tables.specs.Kinds.{Rule, broken, broken_by, value_of}
use Rattle.tables.specs.Walks.{after, judged, reading}
use Rattle.fields.specs.Words.{date}
use Rattle.places.specs.Given.{open_day_rules}

abbrev by_rules : List (Rule ℕ) → ℕ → Result ℕ InputCause
by_rules rs d = judged (broken rs d) d

day_judged : (rs : List (Rule ℕ)) (bs : List ℕ) → reading (date rs) bs ≡ after (reading (date []) bs) (by_rules rs)
unfolding reading
day_judged rs bs = by_form (read_form dates bs)
  where
    by_form : (o : Option ℕ) → judged (broken_by NoDate rs o) (value_of o) ≡ after (judged (broken_by NoDate [] o) (value_of o)) (by_rules rs)
    by_form None = refl
    by_form (Some d) = refl

module _ (test : ℕ → Bool) (usable : Bool) (bs : List ℕ) where
  abbrev Reads : Result ℕ InputCause → Type 0
  Reads r = r ≡ reading (date (open_day_rules test usable)) bs

  then_judged : {r : Result ℕ InputCause} → r ≡ reading (date []) bs → Reads (after r (by_rules (open_day_rules test usable)))
  then_judged h = ap (λ (r : Result ℕ InputCause). after r (by_rules (open_day_rules test usable))) h ∙ sym (day_judged (open_day_rules test usable) bs)

  pub no_day : (c : InputCause) → Err c ≡ reading (date []) bs → Reads (Err c)
  no_day c h = then_judged h

  pub day_by : (d : ℕ) (b u : Bool) → Ok d ≡ reading (date []) bs → test d ≡ b → usable ≡ u → Reads (cond b (cond u (Ok d) (Err DayNotOpen)) (Err DayOutOfRange))
  day_by d b u read t f = sym (by_tests (test d) usable b u t f) ∙ then_judged read
    where
      by_tests : (x y b u : Bool) → x ≡ b → y ≡ u → judged (cond x (cond y None (Some DayNotOpen)) (Some DayOutOfRange)) d ≡ cond b (cond u (Ok d) (Err DayNotOpen)) (Err DayOutOfRange)
      by_tests true true b u e g = rw (sym e, sym g) refl
      by_tests true false b u e g = rw (sym e, sym g) refl
      by_tests false y b u e g = rw (sym e) refl
