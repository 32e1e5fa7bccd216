-- The reading of a file goes on line by line as lines are taken off its bytes.
use Rattle.std.proofs.Common.{◌≡◌, ℕ, ◌+◌, Bool, true, false, cond, eqb, List, ◌∷◌, ◌++◌, length, take, drop, Some, None, Ok, Err, Option, Result, sym, refl, ap, ◌∙◌, arith}
use Rattle.std.specs.Result.{result_map_both}
use Rattle.std.proofs.lemmas.List.{drop-drop, drop_at}
use Rattle.std.proofs.lemmas.Bool.{cond-false, cond-true, eq-eqb, eqb-false, ne_eqb}
use Rattle.tables.specs.Lines.{By, Table, Values, at_values, fields_fault, values, line_width, TableFault}
use Rattle.tables.specs.Walks.{outcome}
use Rattle.tables.proofs.Walking.{walk_law}
use Rattle.lines.specs.declared.fault.Fault.{Fault}
use Rattle.lines.specs.declared.fault.FileFault.{FileFault}
use Rattle.lines.specs.declared.fault.FileFault.TheVariants.{Line}
use Rattle.lines.specs.declared.fault.LineFault.TheVariants.{WrongLength}
use Rattle.lines.specs.Faults.{fault_of, numbered}
use Rattle.lines.specs.Feeds.{cut_reading, feed_from}
use Rattle.lines.specs.Places.{Place, place_reading, stands}
use Rattle.grammar.specs.Headings.{Setting}
use Rattle.grammar.specs.Next.{Next, Said, next}
use Rattle.grammar.specs.Next.Next.{comes}
use Rattle.grammar.specs.Reading.Outcome.{refused}
use Rattle.grammar.specs.Reading.{Outcome, finish, line_said, no_line, onward, reading_on, step}
use Rattle.grammar.proofs.Bytes.{reading_cut, reading_end}
use Rattle.taking.specs.Taking.{carried, taking}
use Rattle.taking.proofs.Feeds.{Fed, feed_none, feed_some, wide_line}

-- A line that is judged at the place where it stands.

pub line_reads : (p : Place Said) (l : List ℕ) → length l ≡ line_width p.table → line_said (comes p) l ≡ place_reading p l
line_reads p l h = cond-true _ _ _ (eq-eqb (length l) (line_width p.table) h)

pub line_wrong : (p : Place Said) (l : List ℕ) → (length l ≡ line_width p.table → ⊥) → line_said (comes p) l ≡ Err (Line WrongLength)
line_wrong p l h = cond-false _ _ _ (ne_eqb (length l) (line_width p.table) h)

-- what is put together by k of what a line says
pub reading_as : {X Y : Type 0} (k : X → Y) (t : Table) (make : By t X) (add : By t Y) → ((v : Values t) → at_values Y t add v ≡ k (at_values X t make v)) → (l : List ℕ) → place_reading (stands t add) l ≡ result_map_both k (λ e. e) (place_reading (stands t make) l)
reading_as {X} {Y} k t make add same l =
    walk_law FileFault Y fault_of t add l
    ∙ put (fields_fault t 1 l)
    ∙ ap (result_map_both k (λ e. e)) (sym (walk_law FileFault X fault_of t make l))
  where
    put : (o : Option TableFault) → outcome fault_of o (at_values Y t add (values t l)) ≡ result_map_both k (λ e. e) (outcome fault_of o (at_values X t make (values t l)))
    put None = ap (λ (y : Y). Ok y) (same (values t l))
    put (Some e) = refl

-- The step from what is said by the line that is taken off the bytes: rd reads it, and k says what is said then.

module _ {X : Type 0} (g : Setting) (n : ℕ) (s : Said) (long : ℕ) (k : X → Said) (rd : List ℕ → Result X FileFault) (bytes : List ℕ) where
  pub record Agrees : Type 0 where
    pub same : (l tail : List ℕ) → bytes ≡ l ++ 10 ∷ tail → length l ≡ long → step g s l ≡ result_map_both k (λ e. e) (rd l)
    pub other : (l tail : List ℕ) → bytes ≡ l ++ 10 ∷ tail → (length l ≡ long → ⊥) → step g s l ≡ Err (Line WrongLength)
    pub ends : finish n s bytes ≡ no_line n bytes

  abbrev later : X → Outcome
  later x = reading_on g (n + 1) (k x) (drop (long + 1) bytes)

  abbrev goes_on : Option ℕ → Outcome
  goes_on o = carried (result_map_both (λ x. x) (λ e. numbered e n) (cut_reading long rd bytes o)) later

  either_way : (r : Result X FileFault) → onward n (result_map_both k (λ e. e) r) (λ to. reading_on g (n + 1) to (drop (long + 1) bytes)) ≡ carried (result_map_both (λ x. x) (λ e. numbered e n) r) later
  either_way (Ok x) = refl
  either_way (Err e) = refl

  some_line : Agrees → (m : ℕ) (f : Fed 0 bytes m) (t : Bool) → eqb m long ≡ t → onward n (step g s f.front) (λ to. reading_on g (n + 1) to f.tail) ≡ goes_on (Some m)
  some_line a m f true e =
      let w = wide_line long f e in
      let past : drop (long + 1) bytes ≡ f.tail = sym (drop-drop 1 long bytes) ∙ ap (drop 1) (ap (drop long) f.is ∙ drop_at f.front (10 ∷ f.tail) long w.0) in
      ap (λ (r : Result Said FileFault). onward n r (λ to. reading_on g (n + 1) to f.tail)) (a.same f.front f.tail f.is w.0)
      ∙ ap (λ (l : List ℕ). onward n (result_map_both k (λ e. e) (rd f.front)) (λ to. reading_on g (n + 1) to l)) (sym past)
      ∙ either_way (rd f.front)
      ∙ ap (λ (l : List ℕ). carried (result_map_both (λ x. x) (λ e. numbered e n) (rd l)) later) (sym w.1)
      ∙ ap (λ (r : Result X FileFault). carried (result_map_both (λ x. x) (λ e. numbered e n) r) later) (sym (cond-true (eqb m long) _ _ e))
  some_line a m f false e =
      let narrow : length f.front ≡ long → ⊥ = λ h. eqb-false m long e (omega (arith, f.at)) in
      ap (λ (r : Result Said FileFault). onward n r (λ to. reading_on g (n + 1) to f.tail)) (a.other f.front f.tail f.is narrow)
      ∙ ap (λ (r : Result X FileFault). carried (result_map_both (λ x. x) (λ e. numbered e n) r) later) (sym (cond-false (eqb m long) _ _ e))

  pub on_line : Agrees → reading_on g n s bytes ≡ carried (taking n long rd bytes) later
  on_line a = go (feed_from 0 bytes) refl
    where
      go : (o : Option ℕ) → feed_from 0 bytes ≡ o → reading_on g n s bytes ≡ goes_on (feed_from 0 bytes)
      go None e = reading_end g n s bytes (feed_none bytes 0 e) ∙ a.ends ∙ ap goes_on (sym e)
      go (Some m) e =
          let f = feed_some bytes 0 m e in
          ap (reading_on g n s) f.is
          ∙ reading_cut g n s f.front f.tail f.unbroken
          ∙ some_line a m f (eqb m long) refl
          ∙ ap goes_on (sym e)

-- The line is read as x, and rest is behind it; or it has the fault e.

pub went : {X : Type 0} {g : Setting} {n : ℕ} {s : Said} {long : ℕ} {k : X → Said} {rd : List ℕ → Result X FileFault} {bytes : List ℕ} → Agrees g n s long k rd bytes → (x : X) (rest : List ℕ) → rest ≡ drop (long + 1) bytes → Ok x ≡ taking n long rd bytes → reading_on g n s bytes ≡ reading_on g (n + 1) (k x) rest
went {X} {g} {n} {s} {long} {k} {rd} {bytes} a x rest is h =
    on_line g n s long k rd bytes a
    ∙ ap (λ (r : Result X Fault). carried r (later g n s long k rd bytes)) (sym h)
    ∙ ap (reading_on g (n + 1) (k x)) (sym is)

pub failed : {X : Type 0} {g : Setting} {n : ℕ} {s : Said} {long : ℕ} {k : X → Said} {rd : List ℕ → Result X FileFault} {bytes : List ℕ} → Agrees g n s long k rd bytes → (e : Fault) → Err e ≡ taking n long rd bytes → reading_on g n s bytes ≡ refused e
failed {X} {g} {n} {s} {long} {k} {rd} {bytes} a e h =
    on_line g n s long k rd bytes a ∙ ap (λ (r : Result X Fault). carried r (later g n s long k rd bytes)) (sym h)

-- One table stands there, whatever the line.
pub table_agrees : {X : Type 0} (g : Setting) (n : ℕ) (s : Said) (long : ℕ) (bytes : List ℕ) (k : X → Said) (t : Table) (make : By t X) (add : By t Said) → ((l tail : List ℕ) → bytes ≡ l ++ 10 ∷ tail → next g s l ≡ comes (stands t add)) → line_width t ≡ long → ((v : Values t) → at_values Said t add v ≡ k (at_values X t make v)) → finish n s bytes ≡ no_line n bytes → Agrees g n s long k (λ l. place_reading (stands t make) l) bytes
unfolding step
table_agrees g n s long bytes k t make add stood wide made ends = record {
  same = λ l tail is h. ap (λ (x : Next). line_said x l) (stood l tail is) ∙ line_reads (stands t add) l (h ∙ sym wide) ∙ reading_as k t make add made l;
  other = λ l tail is h. ap (λ (x : Next). line_said x l) (stood l tail is) ∙ line_wrong (stands t add) l (λ e. h (e ∙ wide));
  ends = ends;
}

-- a line that two readings read alike is taken alike
pub taking_as : {X Y : Type 0} (n long : ℕ) (k : X → Y) (rd : List ℕ → Result X FileFault) (to : List ℕ → Result Y FileFault) (bytes : List ℕ) → ((l tail : List ℕ) → bytes ≡ l ++ 10 ∷ tail → length l ≡ long → to l ≡ result_map_both k (λ e. e) (rd l)) → taking n long to bytes ≡ result_map_both k (λ e. e) (taking n long rd bytes)
taking_as {X} {Y} n long k rd to bytes same = ap (result_map_both (λ y. y) (λ e. numbered e n)) (all (feed_from 0 bytes) refl) ∙ put (cut_reading long rd bytes (feed_from 0 bytes))
  where
    put : (r : Result X FileFault) → result_map_both (λ y. y) (λ e. numbered e n) (result_map_both k (λ e. e) r) ≡ result_map_both k (λ e. e) (result_map_both (λ x. x) (λ e. numbered e n) r)
    put (Ok x) = refl
    put (Err e) = refl

    sized : (m : ℕ) → feed_from 0 bytes ≡ Some m → (t : Bool) → eqb m long ≡ t → cond t (to (take long bytes)) (Err (Line WrongLength)) ≡ result_map_both k (λ e. e) (cond t (rd (take long bytes)) (Err (Line WrongLength)))
    sized m e true q =
        let f = feed_some bytes 0 m e in
        let w = wide_line long f q in
        ap to w.1 ∙ same f.front f.tail f.is w.0 ∙ ap (λ (l : List ℕ). result_map_both k (λ e. e) (rd l)) (sym w.1)
    sized m e false q = refl

    all : (o : Option ℕ) → feed_from 0 bytes ≡ o → cut_reading long to bytes o ≡ result_map_both k (λ e. e) (cut_reading long rd bytes o)
    all None e = refl
    all (Some m) e = sized m e (eqb m long) refl
