-- No line of a fitting beginning of a file holds a line feed.
use Rattle.std.proofs.Common.{◌≡◌, ℕ, suc, ◌^◌, ◌<◌, Bool, true, false, List, [], ◌∷◌, ◌++◌, None, refl}
use Rattle.std.specs.List.{flat_map}
use Rattle.std.proofs.ByRecursion.{All-append, All-map, All-weaker}
use Rattle.terms.specs.declared.service.Service.{Service}
use Rattle.tables.specs.Kinds.{Allowed}
use Rattle.tables.specs.Lines.{Table}
use Rattle.fields.specs.Words.{text}
use Rattle.lines.specs.Feeds.{plain}
use Rattle.places.specs.Given.{day_given}
use Rattle.places.proofs.Unbroken.{PlainLines, PlainTable, code_plain, contra_code_plain, filled_plain, format_plain, given_plain, line_plain, reference_plain, text_plain}
use Rattle.labels.specs.declared.header.Hdr1Free.{Hdr1Free}
use Rattle.records.specs.Contras.{contra_layout}
use Rattle.records.specs.Payments.{OriginatorSays, payment_layout}
use Rattle.grammar.specs.Files.{BatchesFit, ClosedFits, DayFits, EntryFits, Fits, HeadingFits, OpenFits, OriginatorFits, PaidFits, Spare, batch_lines, closed_lines, contra_image, eof1_image, eof2_image, label_lines, lines_of, paid_lines, payment_image, payment_lines, utl1_image}
use Rattle.grammar.specs.Headings.{Batch, Entry, Heading, Setting, Top, batch_total}
use Rattle.grammar.specs.Next.{Paid, Said, heading}
use Rattle.grammar.specs.Next.Paid.{none, first, closed, during}
use Rattle.grammar.specs.Next.Said.{start, volume, header, sized, paid, ended1, ended2, whole}
use Rattle.grammar.proofs.Plain.{eof1_plain, eof2_plain, hdr1_plain, hdr2_plain, labels_plain, utl1_plain, vol1_plain}
use Rattle.grammar.proofs.Records.{Dated, contra_allowed, contra_values, first_payer, payment_allowed, payment_values}

abbrev Unbroken : List ℕ → Type 0
Unbroken l = plain l ≡ true

-- the day of a fitting batch can be written where it stands
pub day_dated : (g : Setting) (multi : Bool) (p from day : ℕ) → DayFits g multi p from day → Dated multi day
day_dated g true p from day d = d.0
day_dated g false p from day d = tt

-- Payments.

payment_fields : (g : Service) (t : Table) → PlainTable t → PlainTable (payment_layout g None t)
payment_fields g t p = (tt, (tt, (refl, (code_plain g, (tt, (tt, (format_plain g, (tt, (filled_plain g, (reference_plain g, (filled_plain g, p)))))))))))

payment_plain : (g : Service) (multi : Bool) (o : OriginatorSays) (day : ℕ) → OriginatorFits g o → Dated multi day → (e : Entry) → EntryFits g e → plain (payment_image multi o day e) ≡ true
payment_plain g true o day a d e k =
    let t : Table = day_given [] None ∷ [] in
    line_plain (payment_layout g None t) (payment_values g None t o e (day, tt)) (payment_fields g t (tt, tt)) (payment_allowed g None t o e (day, tt) (first_payer g o a) k ((d, tt), tt))
payment_plain g false o day a d e k =
    line_plain (payment_layout g None []) (payment_values g None [] o e tt) (payment_fields g [] tt) (payment_allowed g None [] o e tt (first_payer g o a) k tt)

payments_plain : (g : Setting) (t : Top) (o : OriginatorSays) (b : Batch) (from : ℕ) → OriginatorFits g.service o → OpenFits g t from b → PlainLines (payment_lines t.multi o b)
payments_plain g t o b from a f =
    let dated = day_dated g t.multi t.processing from b.day f.day in
    All-map Unbroken (payment_image t.multi o b.day) b.payments
    (All-weaker (EntryFits g.service) (λ e. Unbroken (payment_image t.multi o b.day e)) (payment_plain g.service t.multi o b.day a dated) b.payments f.payments)

-- Contras.

module _ (g : Service) (o : OriginatorSays) (total : ℕ) where
  contra_fields : (t : Table) → OriginatorFits g o → PlainTable t → PlainTable (contra_layout g o total None t)
  contra_fields t a p =
      (tt, (tt, (refl, (contra_code_plain g, (tt, (tt, (refl, (tt, (text_plain g, (refl, (refl, (given_plain 18 [] o.name (filled_plain g o.name a.name.1), p))))))))))))

contra_plain : (g : Service) (multi : Bool) (o : OriginatorSays) (n : List ℕ) (b : Batch) → OriginatorFits g o → Allowed (text g) n → batch_total b < 10 ^ 11 → Dated multi b.day → plain (contra_image g multi o n b) ≡ true
contra_plain g true o n b a k l d =
    let t : Table = day_given [] None ∷ [] in
    let total = batch_total b in
    line_plain (contra_layout g o total None t) (contra_values g o total None n t (b.day, tt)) (contra_fields g o total t a (tt, tt)) (contra_allowed g o total None n t (b.day, tt) a l k ((d, tt), tt))
contra_plain g false o n b a k l d =
    let total = batch_total b in
    line_plain (contra_layout g o total None []) (contra_values g o total None n [] tt) (contra_fields g o total [] a tt) (contra_allowed g o total None n [] tt a l k tt)

-- Batches.

batches_plain : (g : Setting) (h : Heading) (f : Hdr1Free) (x : Spare) (from : ℕ) → HeadingFits g h f x → (bs : List Batch) → BatchesFit g h.top from bs → PlainLines (flat_map (batch_lines g.service h.top.multi h.originator h.narrative) bs)
batches_plain g h f x from a [] k = tt
batches_plain g h f x from a (b ∷ bs) k =
    let t = h.top in
    let o = h.originator in
    let n = h.narrative in
    let dated = day_dated g t.multi t.processing from b.day k.0.paid.day in
    All-append Unbroken (batch_lines g.service t.multi o n b) (flat_map (batch_lines g.service t.multi o n) bs)
    (All-append Unbroken (payment_lines t.multi o b) (contra_image g.service t.multi o n b ∷ [])
    (payments_plain g t o b from a.originator k.0.paid) (contra_plain g.service t.multi o n b a.originator a.narrative k.0.total dated, tt))
    (batches_plain g h f x (suc b.day) a bs k.1)

module _ (g : Setting) (x : Spare) where
  closed_plain : (h : Heading) (f : Hdr1Free) (bs : List Batch) → ClosedFits g h f x bs → PlainLines (closed_lines g h.top f x h.originator h.narrative bs)
  closed_plain h f bs a =
      All-append Unbroken (label_lines g h.top f x) (flat_map (batch_lines g.service h.top.multi h.originator h.narrative) bs)
      (labels_plain g h.top f x a.heading.labels) (batches_plain g h f x h.top.processing a.heading bs a.batches)

  paid_plain : (t : Top) (f : Hdr1Free) (p : Paid) → PaidFits g t f x p → PlainLines (paid_lines g t f x p)
  paid_plain t f none a = labels_plain g t f x a
  paid_plain t f (first o b) a =
      All-append Unbroken (label_lines g t f x) (payment_lines t.multi o b) (labels_plain g t f x a.labels) (payments_plain g t o b t.processing a.originator a.paid)
  paid_plain t f (closed o n bs) a = closed_plain (heading t o n) f bs a
  paid_plain t f (during o n bs b) a =
      All-append Unbroken (closed_lines g t f x o n bs) (payment_lines t.multi o b) (closed_plain (heading t o n) f bs a.closed) (payments_plain g t o b _ a.closed.heading.originator a.paid)

  -- EOF1, and then EOF2
  ended_plain : (h : Heading) (f : Hdr1Free) (bs : List Batch) (more : List (List ℕ)) → ClosedFits g h f x bs → PlainLines more → PlainLines (closed_lines g h.top f x h.originator h.narrative bs ++ eof1_image h.top f ∷ more)
  ended_plain h f bs more a p =
      let s = a.heading.labels.sized in
      All-append Unbroken (closed_lines g h.top f x h.originator h.narrative bs) (eof1_image h.top f ∷ more) (closed_plain h f bs a) (eof1_plain h.top f s.volume.serial s.header, p)

  pub lines_plain : (s : Said) → Fits g x s → PlainLines (lines_of g x s)
  unfolding lines_of
  lines_plain start a = tt
  lines_plain (volume o s) a = (vol1_plain o s x.access a, tt)
  lines_plain (header o s h) a = (vol1_plain o s x.access a.volume, (hdr1_plain o s h a.volume.serial a.header, tt))
  lines_plain (sized o s h multi) a =
      (vol1_plain o s x.access a.volume, (hdr1_plain o s h a.volume.serial a.header, (hdr2_plain g.service multi a.size, tt)))
  lines_plain (paid t f p) a = paid_plain t f p a
  lines_plain (ended1 h f bs) a = ended_plain h f bs [] a tt
  lines_plain (ended2 h f bs) a = ended_plain h f bs (eof2_image h.top ∷ []) a (eof2_plain h.top, tt)
  lines_plain (whole h f bs) a =
      ended_plain h f bs (eof2_image h.top ∷ utl1_image g.service bs ∷ []) a.closed (eof2_plain h.top, (utl1_plain g.service bs a.total a.debits a.credits, tt))
