-- Records as they are read by the originator, the day and the total that the code keeps.
use Rattle.std.proofs.Common.{◌≡◌, ℕ, ◌+◌, min, Bool, true, false, List, [], ◌∷◌, Some, None, Option, sym, refl, ◌∙◌, lit≤}
use Rattle.std.specs.Option.{option_map as if_some}
use Rattle.std.specs.Result.{result_map_both}
use Rattle.terms.specs.declared.service.Service.{Service}
use Rattle.terms.specs.declared.service.Service.TheVariants.{Credits, Debits, FasterPayments}
use Rattle.tables.specs.Forms.{read_form}
use Rattle.tables.specs.Forms.Form.{dates}
use Rattle.tables.specs.Walks.{part}
use Rattle.lines.specs.Places.{place_reading, stands}
use Rattle.places.specs.Given.{day_given}
use Rattle.records.specs.declared.payment.DayRule.TheVariants.{Fixed as Day, Range}
use Rattle.records.specs.declared.payment.Originator.{Originator}
use Rattle.records.specs.Contras.{contra_layout, contra_of, contra_place, dated_contra_place}
use Rattle.records.specs.Payments.{OriginatorSays, dated_place, in_range, originator_says, payment_layout, payment_of, payment_place}
use Rattle.grammar.specs.Headings.{Setting}
use Rattle.grammar.specs.Next.{Fixed, Open, closing, entry, originator, payment_day, paying}
use Rattle.taking.specs.Records.{dated_read, most, read, read_on}
use Rattle.taking.specs.Taking.{if_open}
use Rattle.taking.proofs.Kept.{kept_number}
use Rattle.taking.proofs.LookedUp.{looked_up}
use Rattle.taking.proofs.Stepping.{reading_as}

-- what is fixed, by what the code keeps
abbrev fixing : Option Originator → Option (List ℕ) → Option Open → ℕ → Fixed
fixing o n b next = record { originator = if_some originator_says o; narrative = n; batch = b; next = next }

module _ (g : Setting) (d : ℕ) (n : Option (List ℕ)) (next : ℕ) (l : List ℕ) where
  -- A payment of a single-day file.

  pub single_reads : (o : Option Originator) (b : Option Open) → place_reading (paying g false d (fixing o n b next) read) l ≡ result_map_both (read_on d) (λ e. e) (place_reading (payment_place g.service o) l)
  single_reads None b =
      reading_as (read_on d) (payment_layout g.service None []) payment_of
      (λ s a c from_s from_a f n from_name r m. read (originator from_s from_a from_name) (entry s a c f n r m) d) (λ v. refl) l
  single_reads (Some o) b =
      reading_as (read_on d) (payment_layout g.service (Some (originator_says o)) []) payment_of
      (λ s a c from_s from_a f n from_name r m. read (originator from_s from_a from_name) (entry s a c f n r m) d) (λ v. refl) l

  -- A payment of a multi-day file, by the kind of its day.

  dated_with : (o : Option OriginatorSays) (x : Fixed) → place_reading (stands (payment_layout g.service o (payment_day g d x ∷ [])) (λ s a c from_s from_a f n from_name r m day. read (originator from_s from_a from_name) (entry s a c f n r m) day)) l
      ≡ result_map_both dated_read (λ e. e) (place_reading (stands (payment_layout g.service o (payment_day g d x ∷ [])) (λ s a c from_s from_a f n from_name r m day. record { payment = payment_of s a c from_s from_a f n from_name r m; day = day })) l)
  dated_with o x =
      reading_as dated_read (payment_layout g.service o (payment_day g d x ∷ []))
      (λ s a c from_s from_a f n from_name r m day. record { payment = payment_of s a c from_s from_a f n from_name r m; day = day })
      (λ s a c from_s from_a f n from_name r m day. read (originator from_s from_a from_name) (entry s a c f n r m) day) (λ v. refl) l

  -- a later payment of a batch
  pub later_reads : (o : Option Originator) (b : Open) → place_reading (paying g true d (fixing o n (Some b) next) read) l ≡ result_map_both dated_read (λ e. e) (place_reading (dated_place g.service o (Day b.day)) l)
  later_reads None b = dated_with None (fixing None n (Some b) next)
  later_reads (Some o) b = dated_with (Some (originator_says o)) (fixing (Some o) n (Some b) next)

  -- the first of a batch, whose day was looked up
  pub first_reads : (o : Option Originator) (flag : Bool) → flag ≡ if_open g.opens (read_form dates (part 100 106 l)) → place_reading (paying g true d (fixing o n None next) read) l ≡ result_map_both dated_read (λ e. e) (place_reading (dated_place g.service o (Range next (d + 39) flag)) l)
  first_reads None flag e = let day = looked_up (in_range next (d + 39)) g.opens 100 l flag e in dated_with None (fixing None n None next) ∙ simp day
  first_reads (Some o) flag e = let day = looked_up (in_range next (d + 39)) g.opens 100 l flag e in dated_with (Some (originator_says o)) (fixing (Some o) n None next) ∙ simp day

module _ (o : Originator) (total : ℕ) (n : Option (List ℕ)) (l : List ℕ) where
  -- A contra: its total is kept up to a limit.

  kept_single : (g : Service) → place_reading (stands (contra_layout g (originator_says o) (min total most) n []) (λ s a from_s from_a total said name. said)) l ≡ place_reading (stands (contra_layout g (originator_says o) total n []) (λ s a from_s from_a total said name. said)) l
  kept_single Credits = let e = kept_number 11 total 35 l (lit≤ tt) in simp e
  kept_single Debits = let e = kept_number 11 total 35 l (lit≤ tt) in simp e
  kept_single FasterPayments = let e = kept_number 11 total 35 l (lit≤ tt) in simp e

  kept_dated : (day : ℕ) (g : Service) → place_reading (stands (contra_layout g (originator_says o) (min total most) n (day_given [] (Some day) ∷ [])) (λ s a from_s from_a total said name day. said)) l ≡ place_reading (stands (contra_layout g (originator_says o) total n (day_given [] (Some day) ∷ [])) (λ s a from_s from_a total said name day. said)) l
  kept_dated day Credits = let e = kept_number 11 total 35 l (lit≤ tt) in simp e
  kept_dated day Debits = let e = kept_number 11 total 35 l (lit≤ tt) in simp e
  kept_dated day FasterPayments = let e = kept_number 11 total 35 l (lit≤ tt) in simp e

  pub contra_reads : (g : Setting) (day : ℕ) → place_reading (closing g false (originator_says o) (record { day = day; total = total }) n (λ said. said)) l ≡ result_map_both (λ c. c.narrative) (λ e. e) (place_reading (contra_place g.service o (min total most) n) l)
  contra_reads g day =
      sym (kept_single g.service)
      ∙ reading_as (λ c. c.narrative) (contra_layout g.service (originator_says o) (min total most) n []) (λ s a. contra_of) (λ s a from_s from_a total said name. said) (λ v. refl) l

  pub dated_contra_reads : (g : Setting) (day : ℕ) → place_reading (closing g true (originator_says o) (record { day = day; total = total }) n (λ said. said)) l ≡ result_map_both (λ c. c.narrative) (λ e. e) (place_reading (dated_contra_place g.service o (min total most) n day) l)
  dated_contra_reads g day =
      sym (kept_dated day g.service)
      ∙ reading_as (λ c. c.narrative) (contra_layout g.service (originator_says o) (min total most) n (day_given [] (Some day) ∷ []))
      (λ s a from_s from_a sum said name day. contra_of from_s from_a sum said name) (λ s a from_s from_a total said name day. said) (λ v. refl) l
