-- Payments and contras, taken off the bytes by what the records before them fix.
use Rattle.std.proofs.Common.{◌≡◌, ℕ, ◌≤◌, Bool, true, false, cond, not, ◌&&◌, List, [], ◌∷◌, ◌++◌, length, Some, None, Err, Option, sym, refl, ap, ◌∙◌, arith}
use Rattle.std.specs.Result.{result_map_both}
use Rattle.std.proofs.lemmas.Bool.{cond-false, cond-true}
use Rattle.terms.specs.declared.service.Service.{Service}
use Rattle.terms.specs.declared.service.Service.TheVariants.{Credits, Debits, FasterPayments}
use Rattle.tables.specs.Lines.{line_width}
use Rattle.lines.specs.declared.fault.FileFault.TheVariants.{Line}
use Rattle.lines.specs.declared.fault.LineFault.TheVariants.{WrongLength}
use Rattle.lines.specs.Places.{Place, place_reading}
use Rattle.places.specs.Given.{day_given}
use Rattle.labels.specs.declared.header.Hdr1Free.{Hdr1Free}
use Rattle.records.specs.Contras.{contra_layout, contra_shown}
use Rattle.records.specs.Payments.{OriginatorSays, payment_layout}
use Rattle.grammar.specs.Headings.{Batch, Entry, Setting, Top}
use Rattle.grammar.specs.Next.{Fixed, Next, Open, Said, closing, entry, fixed, is_eof1, next, open_of, originator, payment_day, paying}
use Rattle.grammar.specs.Next.Next.{comes}
use Rattle.grammar.specs.Next.Paid.{none, first, closed, during}
use Rattle.grammar.specs.Next.Said.{paid}
use Rattle.grammar.specs.Reading.{finish, line_said, no_line, step}
use Rattle.taking.specs.Records.{closed_on, kept, paid_on, read, record_long}
use Rattle.taking.proofs.Peeks.{contra_peek, eof1_peek, no_contra}
use Rattle.taking.proofs.Stepping.{Agrees, line_reads, line_wrong, reading_as, table_agrees}

-- Widths.

pub paying_wide : {X : Type 0} (g : Setting) (multi : Bool) (d : ℕ) (x : Fixed) (add : OriginatorSays → Entry → ℕ → X) → line_width (paying g multi d x add).table ≡ record_long multi
paying_wide g true d x add = refl
paying_wide g false d x add = refl

contra_wide : (g : Service) (o : OriginatorSays) (total : ℕ) (narrative : Option (List ℕ)) (multi : Bool) → line_width (cond multi (contra_layout g o total narrative (day_given [] (Some 0) ∷ [])) (contra_layout g o total narrative [])) ≡ record_long multi
contra_wide Credits o total narrative true = refl
contra_wide Credits o total narrative false = refl
contra_wide Debits o total narrative true = refl
contra_wide Debits o total narrative false = refl
contra_wide FasterPayments o total narrative true = refl
contra_wide FasterPayments o total narrative false = refl

pub closing_wide : {X : Type 0} (g : Setting) (multi : Bool) (o : OriginatorSays) (b : Open) (narrative : Option (List ℕ)) (add : List ℕ → X) → line_width (closing g multi o b narrative add).table ≡ record_long multi
closing_wide g true o b narrative add = contra_wide g.service o b.total narrative true
closing_wide g false o b narrative add = contra_wide g.service o b.total narrative false

module _ (g : Setting) (n : ℕ) (s : Said) (bytes : List ℕ) where
  -- A payment.

  pub paying_agrees : (d : ℕ) (x : Fixed) (add : OriginatorSays → Entry → ℕ → Said) (multi : Bool) → ((l tail : List ℕ) → bytes ≡ l ++ 10 ∷ tail → next g s l ≡ comes (paying g multi d x add)) → finish n s bytes ≡ no_line n bytes → Agrees g n s (record_long multi) (λ r. add r.originator r.entry r.day) (λ l. place_reading (paying g multi d x read) l) bytes
  paying_agrees d x add true stood ends =
      table_agrees g n s 106 bytes (λ r. add r.originator r.entry r.day) (payment_layout g.service x.originator (payment_day g d x ∷ []))
      (λ s a c from_s from_a f n from_name r m day. read (originator from_s from_a from_name) (entry s a c f n r m) day)
      (λ s a c from_s from_a f n from_name r m day. add (originator from_s from_a from_name) (entry s a c f n r m) day)
      stood refl (λ v. refl) ends
  paying_agrees d x add false stood ends =
      table_agrees g n s 100 bytes (λ r. add r.originator r.entry r.day) (payment_layout g.service x.originator [])
      (λ s a c from_s from_a f n from_name r m. read (originator from_s from_a from_name) (entry s a c f n r m) d)
      (λ s a c from_s from_a f n from_name r m. add (originator from_s from_a from_name) (entry s a c f n r m) d)
      stood refl (λ v. refl) ends

  -- A contra, where the bytes show its code; p is the place of a payment.

  closing_as : (o : OriginatorSays) (b : Open) (narrative : Option (List ℕ)) (add : List ℕ → Said) (multi : Bool) (l : List ℕ) → place_reading (closing g multi o b narrative add) l ≡ result_map_both add (λ e. e) (place_reading (closing g multi o b narrative (λ said. said)) l)
  closing_as o b narrative add true l =
      reading_as add (contra_layout g.service o b.total narrative (day_given [] (Some b.day) ∷ []))
      (λ s a from_s from_a total said name day. said) (λ s a from_s from_a total said name day. add said) (λ v. refl) l
  closing_as o b narrative add false l =
      reading_as add (contra_layout g.service o b.total narrative [])
      (λ s a from_s from_a total said name. said) (λ s a from_s from_a total said name. add said) (λ v. refl) l

  long_enough : (multi : Bool) (l : List ℕ) → length l ≡ record_long multi → 17 ≤ length l
  long_enough true l h = omega arith
  long_enough false l h = omega arith

  pub closing_agrees : (o : OriginatorSays) (b : Open) (narrative : Option (List ℕ)) (add : List ℕ → Said) (multi : Bool) (p : Place Said) → line_width p.table ≡ record_long multi → ((l : List ℕ) → next g s l ≡ comes (cond (contra_shown g.service l) (closing g multi o b narrative add) p)) → contra_shown g.service bytes ≡ true → finish n s bytes ≡ no_line n bytes → Agrees g n s (record_long multi) add (λ l. place_reading (closing g multi o b narrative (λ said. said)) l) bytes
  unfolding step
  closing_agrees o b narrative add multi p wide stood shown ends = record {
    same = λ l tail is h.
        let here : contra_shown g.service l ≡ true = sym (contra_peek g.service l tail (long_enough multi l h)) ∙ ap (contra_shown g.service) (sym is) ∙ shown in
        ap (λ (x : Next). line_said x l) (stood l ∙ ap (λ (t : Bool). comes (cond t (closing g multi o b narrative add) p)) here)
        ∙ line_reads (closing g multi o b narrative add) l (h ∙ sym (closing_wide g multi o b narrative add))
        ∙ closing_as o b narrative add multi l;
    other = λ l tail is h. ap (λ (x : Next). line_said x l) (stood l) ∙ either l h (contra_shown g.service l);
    ends = ends;
  }
    where
      either : (l : List ℕ) → (length l ≡ record_long multi → ⊥) → (t : Bool) → line_said (comes (cond t (closing g multi o b narrative add) p)) l ≡ Err (Line WrongLength)
      either l h true = line_wrong (closing g multi o b narrative add) l (λ e. h (e ∙ closing_wide g multi o b narrative add))
      either l h false = line_wrong p l (λ e. h (e ∙ wide))

-- The next record after the records so far.

module _ (g : Setting) (n : ℕ) (t : Top) (f : Hdr1Free) (bytes : List ℕ) where
  abbrev d : ℕ
  d = t.processing

  -- it is a payment

  pub payment_none : Agrees g n (paid t f none) (record_long t.multi) (λ r. paid t f (paid_on none r)) (λ l. place_reading (paying g t.multi d (kept (fixed d none)) read) l) bytes
  payment_none = paying_agrees g n (paid t f none) bytes d (fixed d none) (λ o p day. paid t f (paid_on none (read o p day))) t.multi (λ l tail is. refl) refl

  module _ (o : OriginatorSays) where
    pub payment_first : (b : Batch) → contra_shown g.service bytes ≡ false → Agrees g n (paid t f (first o b)) (record_long t.multi) (λ r. paid t f (paid_on (first o b) r)) (λ l. place_reading (paying g t.multi d (kept (fixed d (first o b))) read) l) bytes
    payment_first b shown =
        paying_agrees g n (paid t f (first o b)) bytes d (fixed d (first o b)) (λ o' p day. paid t f (paid_on (first o b) (read o' p day))) t.multi
        (λ l tail is. ap comes (cond-false (contra_shown g.service l) _ _ (no_contra g.service l tail (ap (contra_shown g.service) (sym is) ∙ shown)))) refl

    pub payment_closed : (m : List ℕ) (bs : List Batch) → (t.multi && not (is_eof1 bytes)) ≡ true → Agrees g n (paid t f (closed o m bs)) (record_long t.multi) (λ r. paid t f (paid_on (closed o m bs) r)) (λ l. place_reading (paying g t.multi d (kept (fixed d (closed o m bs))) read) l) bytes
    payment_closed m bs more =
        paying_agrees g n (paid t f (closed o m bs)) bytes d (fixed d (closed o m bs)) (λ o' p day. paid t f (paid_on (closed o m bs) (read o' p day))) t.multi
        (λ l tail is. ap comes (cond-true (t.multi && not (is_eof1 l)) _ _ (ap (λ (b : Bool). t.multi && not b) (sym (eof1_peek l tail) ∙ ap is_eof1 (sym is)) ∙ more))) refl

    pub payment_during : (m : List ℕ) (bs : List Batch) (b : Batch) → contra_shown g.service bytes ≡ false → Agrees g n (paid t f (during o m bs b)) (record_long t.multi) (λ r. paid t f (paid_on (during o m bs b) r)) (λ l. place_reading (paying g t.multi d (kept (fixed d (during o m bs b))) read) l) bytes
    payment_during m bs b shown =
        paying_agrees g n (paid t f (during o m bs b)) bytes d (fixed d (during o m bs b)) (λ o' p day. paid t f (paid_on (during o m bs b) (read o' p day))) t.multi
        (λ l tail is. ap comes (cond-false (contra_shown g.service l) _ _ (no_contra g.service l tail (ap (contra_shown g.service) (sym is) ∙ shown)))) refl

    -- it is a contra

    pub contra_first : (b : Batch) → contra_shown g.service bytes ≡ true → Agrees g n (paid t f (first o b)) (record_long t.multi) (λ m. paid t f (closed_on (first o b) m)) (λ l. place_reading (closing g t.multi o (open_of b) None (λ said. said)) l) bytes
    contra_first b shown =
        closing_agrees g n (paid t f (first o b)) bytes o (open_of b) None (λ m. paid t f (closed_on (first o b) m)) t.multi
        (paying g t.multi d (fixed d (first o b)) (λ _ p _. paid t f (paid_on (first o b) (read o p 0)))) (paying_wide g t.multi d (fixed d (first o b)) (λ _ p _. paid t f (paid_on (first o b) (read o p 0)))) (λ l. refl) shown refl

    pub contra_during : (m : List ℕ) (bs : List Batch) (b : Batch) → contra_shown g.service bytes ≡ true → Agrees g n (paid t f (during o m bs b)) (record_long t.multi) (λ m'. paid t f (closed_on (during o m bs b) m')) (λ l. place_reading (closing g t.multi o (open_of b) (Some m) (λ said. said)) l) bytes
    contra_during m bs b shown =
        closing_agrees g n (paid t f (during o m bs b)) bytes o (open_of b) (Some m) (λ m'. paid t f (closed_on (during o m bs b) m')) t.multi
        (paying g t.multi d (fixed d (during o m bs b)) (λ _ p _. paid t f (paid_on (during o m bs b) (read o p 0)))) (paying_wide g t.multi d (fixed d (during o m bs b)) (λ _ p _. paid t f (paid_on (during o m bs b) (read o p 0)))) (λ l. refl) shown refl
