-- One line more with no fault: what is said then fits, with that line more.
use Rattle.std.proofs.Common.{◌≡◌, ℕ, suc, Bool, true, false, cond, not, ◌&&◌, List, [], ◌∷◌, ◌++◌, map, Some, None, Ok, Option, sym, refl, ap, ◌∙◌, append_assoc, le_refl}
use Rattle.std.proofs.ByRecursion.{All-push}
use Rattle.std.proofs.lemmas.Slice.Eq.{bytes_eq-Decides}
use Rattle.std.proofs.lemmas.List.{flat_map_more, map-append}
use Rattle.std.proofs.lemmas.Bool.{and_parts, eqb-true, false≢true}
use Rattle.lines.specs.Places.{stands}
use Rattle.labels.specs.declared.header.Hdr1Free.{Hdr1Free}
use Rattle.labels.specs.Volumes.{has_sun}
use Rattle.trailers.specs.Repeats.{eof1}
use Rattle.records.specs.Contras.{contra_shown}
use Rattle.records.specs.Payments.{OriginatorSays}
use Rattle.grammar.specs.Files.{BatchFits, BatchesFit, ClosedFits, DayFits, EntryFits, FirstFits, DuringFits, Fits, LabelsFit, OpenFits, PaidFits, Spare, batch_lines, closed_lines, contra_image, label_lines, lines_of, payment_image, payment_lines, some}
use Rattle.grammar.specs.Headings.{Batch, Entry, Setting, Top, header_of, next_day, one_more, opened}
use Rattle.grammar.specs.Next.{Next, Paid, Said, closing, fixed, heading, is_eof1, next, next_record, open_of, paying}
use Rattle.grammar.specs.Next.Next.{comes, over}
use Rattle.grammar.specs.Next.Paid.{none, first, closed, during}
use Rattle.grammar.specs.Next.Said.{start, volume, header, sized, paid, ended1, ended2, whole}
use Rattle.grammar.specs.Reading.{line_said, step}
use Rattle.grammar.proofs.Grown.{Grown, each_eof1, each_eof2, each_hdr1, each_hdr2, each_uhl1, each_utl1, each_vol1}
use Rattle.grammar.proofs.Judged.{no_result, said_line}
use Rattle.grammar.proofs.Records.{DaySaid, Each, Payer, at_line, each_contra, each_payment, payer_fits, payer_same}

-- Fitting batches, and one more.

pub batches_push : (g : Setting) (t : Top) (d : ℕ) (bs : List Batch) (b : Batch) → BatchesFit g t d bs → BatchFits g t (next_day d bs) b → BatchesFit g t d (bs ++ b ∷ [])
batches_push g t d [] b f k = (k, tt)
batches_push g t d (c ∷ bs) b f k = (f.0, batches_push g t (suc c.day) bs b f.1 k)

some_push : {X : Type 0} (xs : List X) (x : X) → some (xs ++ x ∷ []) ≡ true
some_push [] x = refl
some_push (y ∷ ys) x = refl

open_more : (g : Setting) (t : Top) (from : ℕ) (b : Batch) (e : Entry) → OpenFits g t from b → EntryFits g.service e → OpenFits g t from (one_more b e)
open_more g t from b e a k = record { day = a.day; some = some_push b.payments e; payments = All-push (EntryFits g.service) b.payments e a.payments k }

lines_more : (multi : Bool) (o : OriginatorSays) (b : Batch) (e : Entry) (front : List (List ℕ)) → front ++ payment_lines multi o (one_more b e) ≡ (front ++ payment_lines multi o b) ++ payment_image multi o b.day e ∷ []
lines_more multi o b e front =
    let laid = payment_image multi o b.day in
    ap (λ (ls : List (List ℕ)). front ++ ls) (map-append laid b.payments (e ∷ [])) ∙ sym (append_assoc front (map laid b.payments) (laid e ∷ []))

-- Days.

module _ (g : Setting) (d : ℕ) where
  -- of the first batch
  first_day_of : (multi : Bool) (day : ℕ) → DaySaid g multi d (fixed d none) day → DayFits g multi d d day
  first_day_of true day a = a
  first_day_of false day a = (a, le_refl d)

  -- of a later one, which only a multi-day file has
  later_day : (o : OriginatorSays) (n : List ℕ) (bs : List Batch) (multi : Bool) (day : ℕ) → multi ≡ true → DaySaid g multi d (fixed d (closed o n bs)) day → DayFits g multi d (next_day d bs) day
  later_day o n bs true day e a = a
  later_day o n bs false day e a = absurd (false≢true e)

  -- a payment of an open batch has its day
  day_image : (oo : Option OriginatorSays) (nn : Option (List ℕ)) (m : ℕ) (b : Batch) (multi : Bool) (day : ℕ) → DaySaid g multi d (record { originator = oo; narrative = nn; batch = Some (open_of b); next = m }) day → (o : OriginatorSays) (e : Entry) → payment_image multi o b.day e ≡ payment_image multi o day e
  day_image oo nn m b true day a o e = ap (λ (n : ℕ). payment_image true o n e) (sym (eqb-true day b.day a.1.0))
  day_image oo nn m b false day a o e = refl

  -- and the originator of the file
  again_image : (o q : OriginatorSays) (nn : Option (List ℕ)) (m : ℕ) (b : Batch) (multi : Bool) (day : ℕ) (e : Entry) → DaySaid g multi d (record { originator = Some o; narrative = nn; batch = Some (open_of b); next = m }) day → Payer g.service (Some o) q → payment_image multi o b.day e ≡ payment_image multi q day e
  again_image o q nn m b multi day e a k =
      day_image (Some o) nn m b multi day a o e ∙ ap (λ (p : OriginatorSays). payment_image multi p day e) (sym (payer_same g.service o q k))

module _ (g : Setting) (x : Spare) (t : Top) (f : Hdr1Free) where
  each_first : LabelsFit g t f x → Each (paying g t.multi t.processing (fixed t.processing none) (λ o e d. paid t f (first o (opened d e)))) (Grown g x (paid t f none))
  unfolding lines_of
  each_first fits =
      each_payment g t.multi t.processing (fixed t.processing none) (λ o e d. paid t f (first o (opened d e))) (Grown g x (paid t f none))
      (λ o e day a k d. record {
        spare = x;
        fits = record {
          labels = fits;
          originator = payer_fits g.service o a;
          paid = record { day = first_day_of g t.processing t.multi day d; some = refl; payments = (k, tt) };
        };
        is = refl;
      })

  each_in_first : (o : OriginatorSays) (b : Batch) → FirstFits g t f x o b → (contra : Bool) → Each (cond contra (closing g t.multi o (open_of b) None (λ n. paid t f (closed o n (b ∷ [])))) (paying g t.multi t.processing (fixed t.processing (first o b)) (λ _ e _. paid t f (first o (one_more b e))))) (Grown g x (paid t f (first o b)))
  unfolding lines_of
  each_in_first o b fits true =
      each_contra g o b None (λ n. paid t f (closed o n (b ∷ []))) (Grown g x (paid t f (first o b))) t.multi
      (λ n k total.
      let front = label_lines g t f x in
      let ps = payment_lines t.multi o b in
      record {
        spare = x;
        fits = record {
          heading = record { labels = fits.labels; originator = fits.originator; narrative = k };
          batches = (record { paid = fits.paid; total = total }, tt);
          some = refl;
        };
        is =
            sym (flat_map_more (batch_lines g.service t.multi o n) front [] b)
            ∙ sym (append_assoc front ps (contra_image g.service t.multi o n b ∷ []));
      })
  each_in_first o b fits false =
      each_payment g t.multi t.processing (fixed t.processing (first o b)) (λ _ e _. paid t f (first o (one_more b e))) (Grown g x (paid t f (first o b)))
      (λ q e day a k d.
      let front = label_lines g t f x in
      let same = again_image g t.processing o q _ _ b t.multi day e d a in
      record {
        spare = x;
        fits = record { labels = fits.labels; originator = fits.originator; paid = open_more g t t.processing b e fits.paid k };
        is = lines_more t.multi o b e front ∙ ap (λ (l : List ℕ). (front ++ payment_lines t.multi o b) ++ l ∷ []) same;
      })

  each_in_during : (o : OriginatorSays) (n : List ℕ) (bs : List Batch) (b : Batch) → DuringFits g (heading t o n) f x bs b → (contra : Bool) → Each (cond contra (closing g t.multi o (open_of b) (Some n) (λ _. paid t f (closed o n (bs ++ b ∷ [])))) (paying g t.multi t.processing (fixed t.processing (during o n bs b)) (λ _ e _. paid t f (during o n bs (one_more b e))))) (Grown g x (paid t f (during o n bs b)))
  unfolding lines_of
  each_in_during o n bs b fits true =
      each_contra g o b (Some n) (λ _. paid t f (closed o n (bs ++ b ∷ []))) (Grown g x (paid t f (during o n bs b))) t.multi
      (λ m k total.
      let front = closed_lines g t f x o n bs in
      let ps = payment_lines t.multi o b in
      record {
        spare = x;
        fits = record {
          heading = fits.closed.heading;
          batches = batches_push g t t.processing bs b fits.closed.batches (record { paid = fits.paid; total = total });
          some = some_push bs b;
        };
        is =
            sym (flat_map_more (batch_lines g.service t.multi o n) (label_lines g t f x) bs b)
            ∙ sym (append_assoc front ps (contra_image g.service t.multi o n b ∷ []))
            ∙ ap (λ (v : List ℕ). (front ++ ps) ++ contra_image g.service t.multi o v b ∷ []) (sym ((bytes_eq-Decides m n).0 k.1.0));
      })
  each_in_during o n bs b fits false =
      each_payment g t.multi t.processing (fixed t.processing (during o n bs b)) (λ _ e _. paid t f (during o n bs (one_more b e))) (Grown g x (paid t f (during o n bs b)))
      (λ q e day a k d.
      let front = closed_lines g t f x o n bs in
      let same = again_image g t.processing o q _ _ b t.multi day e d a in
      record {
        spare = x;
        fits = record { closed = fits.closed; paid = open_more g t (next_day t.processing bs) b e fits.paid k };
        is = lines_more t.multi o b e front ∙ ap (λ (l : List ℕ). (front ++ payment_lines t.multi o b) ++ l ∷ []) same;
      })

  each_closed : (o : OriginatorSays) (n : List ℕ) (bs : List Batch) → ClosedFits g (heading t o n) f x bs → (more : Bool) → (more ≡ true → t.multi ≡ true) → Each (cond more (paying g t.multi t.processing (fixed t.processing (closed o n bs)) (λ _ e d. paid t f (during o n bs (opened d e)))) (stands (eof1 t.serial (header_of t f)) (λ u v w s y z c e a. ended1 (heading t o n) f bs))) (Grown g x (paid t f (closed o n bs)))
  unfolding lines_of
  each_closed o n bs fits true multi =
      each_payment g t.multi t.processing (fixed t.processing (closed o n bs)) (λ _ e d. paid t f (during o n bs (opened d e))) (Grown g x (paid t f (closed o n bs)))
      (λ q e day a k d. record {
        spare = x;
        fits = record { closed = fits; paid = record { day = later_day g t.processing o n bs t.multi day (multi refl) d; some = refl; payments = (k, tt) } };
        is = ap (λ (p : OriginatorSays). closed_lines g t f x o n bs ++ payment_image t.multi p day e ∷ []) (sym (payer_same g.service o q a));
      })
  each_closed o n bs fits false multi = each_eof1 g x (heading t o n) f bs fits

  each_record : (p : Paid) (l : List ℕ) → PaidFits g t f x p → Each (next_record g t f p l) (Grown g x (paid t f p))
  each_record none l fits = each_first fits
  each_record (first o b) l fits = each_in_first o b fits (contra_shown g.service l)
  each_record (closed o n bs) l fits = each_closed o n bs fits (t.multi && not (is_eof1 l)) (λ e. (and_parts t.multi (not (is_eof1 l)) e).0)
  each_record (during o n bs b) l fits = each_in_during o n bs b fits (contra_shown g.service l)

-- The line that comes next.

abbrev EachNext : Next → (List ℕ → Said → Type 0) → Type 0
EachNext (comes p) P = Each p P
EachNext over P = Unit {0}

each_next : (g : Setting) (x : Spare) (s : Said) (l : List ℕ) → Fits g x s → EachNext (next g s l) (Grown g x s)
each_next g x start l fits = each_vol1 g x (has_sun l)
each_next g x (volume o s) l fits = each_hdr1 g x o s fits
each_next g x (header o s h) l fits = each_hdr2 g x o s h fits
each_next g x (sized o s h multi) l fits = each_uhl1 g x o s h multi fits
each_next g x (paid t f p) l fits = each_record g x t f p l fits
each_next g x (ended1 h f bs) l fits = each_eof2 g x h f bs fits
each_next g x (ended2 h f bs) l fits = each_utl1 g x h f bs fits
each_next g x (whole h f bs) l fits = tt

at_next : (n : Next) (P : List ℕ → Said → Type 0) → EachNext n P → (l : List ℕ) (to : Said) → line_said n l ≡ Ok to → P l to
at_next (comes p) P each l to h = at_line p P each l to (said_line p l to h)
at_next over P each l to h = absurd (no_result (sym h))

pub step_sound : (g : Setting) (x : Spare) (s : Said) (l : List ℕ) (to : Said) → Fits g x s → step g s l ≡ Ok to → Grown g x s l to
unfolding step
step_sound g x s l to fits h = at_next (next g s l) (Grown g x s) (each_next g x s l fits) l to h
