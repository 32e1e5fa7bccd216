-- UHL1: its day and work code as they are read, and that what is written is read again.
use Rattle.std.specs.Prelude.{◌≡◌, ℕ, ◌+◌, Bool, true, false, cond, List, [], ◌∷◌, Some, None, Ok, Err, codes, Result, refl}
use Rattle.std.proofs.Common.{sym, ap, subst, arith}
use Rattle.std.specs.Result.{result_map_both}
use Rattle.std.specs.Str.{bytes_eq}
use Rattle.std.proofs.lemmas.Slice.Eq.{bytes_eq-Decides}
use Rattle.terms.specs.declared.cause.InputCause.{InputCause}
use Rattle.terms.specs.declared.cause.InputCause.TheVariants as cause
use Rattle.terms.specs.declared.service.Service.{Service}
use Rattle.terms.specs.declared.service.Service.TheVariants.{Credits, Debits, FasterPayments}
use Rattle.tables.specs.Walks.{field_reading, judged, part, placed, reading}
use Rattle.tables.proofs.Written.{written_reads}
use Rattle.fields.specs.Judging.{verdict}
use Rattle.fields.specs.Words.{blank, head}
use Rattle.lines.specs.declared.fault.FieldFault.{FieldFault}
use Rattle.lines.specs.declared.fault.FileFault.{FileFault}
use Rattle.lines.specs.Faults.{fault_of, in_field, of_file}
use Rattle.lines.specs.Feeds.{plain}
use Rattle.lines.specs.Places.{place_reading}
use Rattle.places.proofs.Unbroken.{PlainKind, PlainTable, choice_plain, laid_plain, spare_plain}
use Rattle.labels.specs.declared.user.Uhl1.{Uhl1}
use Rattle.labels.specs.declared.user.Uhl1Context.{Uhl1Context}
use Rattle.labels.specs.Users.{labelled, only, uhl1, Uhl1Fits, uhl1_line, uhl1_place, work}

-- The work code: bytes that are the text are what the field says, as it is read and at its place in a line.

pub only_read : (w : ℕ) (text bs : List ℕ) (r : Result (Unit {0}) InputCause) → r ≡ verdict (head text) bs → result_map_both (λ _. text) (λ e. e) r ≡ reading (only w text) bs
unfolding reading
only_read w text bs r e = rw e (by_same (bytes_eq bs text) refl)
  where
    by_same : (b : Bool) → bytes_eq bs text ≡ b → result_map_both (λ _. text) (λ e. e) (judged (cond b None (Some cause.NotListed)) (tt {0})) ≡ judged (cond b None (Some cause.NotListed)) bs
    by_same true h = ap Ok (sym ((bytes_eq-Decides bs text).0 h))
    by_same false h = refl

pub only_says : (w from : ℕ) (text l : List ℕ) (r : Result (Unit {0}) FieldFault) → of_file (λ v. v) r ≡ placed in_field (from + 1) (verdict (head text) (part from (from + w) l)) → of_file (λ _. text) r ≡ field_reading fault_of (only w text) from l
unfolding field_reading reading
only_says w from text l r e = by_same (bytes_eq (part from (from + w) l) text) refl r e
  where
    by_same : (b : Bool) → bytes_eq (part from (from + w) l) text ≡ b → (r : Result (Unit {0}) FieldFault) → of_file (λ v. v) r ≡ placed in_field (from + 1) (judged (cond b None (Some cause.NotListed)) (tt {0})) → of_file (λ _. text) r ≡ placed fault_of (from + 1) (judged (cond b None (Some cause.NotListed)) (part from (from + w) l))
    by_same true h (Ok u) e = ap Ok (sym ((bytes_eq-Decides (part from (from + w) l) text).0 h))
    by_same true h (Err f) e = absurd (no_err e)
      where
        no_err : {f : FileFault} → ◌≡◌ {A = Result (Unit {0}) FileFault} (Err f) (Ok tt) → ⊥
        no_err q = let z : ◌≡◌ {A = ℕ} 0 1 = cc in omega arith
    by_same false h (Ok u) e = absurd (no_ok e)
      where
        no_ok : {f : FileFault} → ◌≡◌ {A = Result (Unit {0}) FileFault} (Ok tt) (Err f) → ⊥
        no_ok q = let z : ◌≡◌ {A = ℕ} 0 1 = cc in omega arith
    by_same false h (Err f) e = ap (λ (x : FileFault). Err x) (inside e)
      where
        inside : {f g : FileFault} → ◌≡◌ {A = Result (Unit {0}) FileFault} (Err f) (Err g) → f ≡ g
        inside q = cc

-- Written and read again.

work_plain : (g : Service) (m : Bool) → plain (work g m) ≡ true
work_plain Credits true = refl
work_plain Credits false = refl
work_plain Debits true = refl
work_plain Debits false = refl
work_plain FasterPayments m = refl

only_plain : (w : ℕ) (text : List ℕ) → plain text ≡ true → PlainKind (only w text)
only_plain w text p v k = subst (λ (l : List ℕ). plain l ≡ true) (sym ((bytes_eq-Decides v text).0 k.0)) p

uhl1_plain : (k : Uhl1Context) → PlainTable (uhl1 k)
uhl1_plain k = (
  refl,
  (
    tt,
    (
      refl,
      (
        refl,
        (
          refl,
          (
            only_plain 9 (work k.service k.multi) (work_plain k.service k.multi),
            (
              tt,
              (
                refl,
                (choice_plain 3 (blank 3 ∷ codes "AUD" ∷ []) (refl, (refl, tt)), (spare_plain 4, (refl, tt))),
              ),
            ),
          ),
        ),
      ),
    ),
  ),
)

pub uhl1_unbroken : (k : Uhl1Context) (u : Uhl1) → Uhl1Fits k u → plain (uhl1_line k u) ≡ true
uhl1_unbroken k u a = laid_plain (uhl1 k) (u.processing, (work k.service k.multi, (u.number, (blank 3, (blank 4, tt))))) (uhl1_plain k) a

pub uhl1_back : (k : Uhl1Context) (u : Uhl1) → Uhl1Fits k u → place_reading (uhl1_place k) (uhl1_line k u) ≡ Ok u
uhl1_back k u a = written_reads fault_of (uhl1 k) (λ d w n audit spare. labelled d n) (u.processing, (work k.service k.multi, (u.number, (blank 3, (blank 4, tt))))) a
