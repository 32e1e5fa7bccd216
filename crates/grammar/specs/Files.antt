-- The grammar: the lines of a file, or of a beginning of one, and what may stand in them.
use Rattle.std.specs.Prelude.{◌≡◌, ℕ, suc, ◌+◌, ◌^◌, ◌<◌, ◌≤◌, Bool, true, false, cond, List, [], ◌∷◌, ◌++◌, map, None, codes}
use Rattle.std.specs.List.{flat_map, AllByRecursion}
use Rattle.terms.specs.declared.service.Service.{Service}
use Rattle.terms.specs.declared.service.Service.TheVariants.{Credits}
use Rattle.tables.specs.Kinds.{Allowed}
use Rattle.tables.specs.Lines.{line}
use Rattle.fields.specs.Judging.{marks}
use Rattle.fields.specs.Words.{amount, blank, choice, code, date, digits_or_spaces, filled, free_format, number, reference, serial, text}
use Rattle.places.specs.Given.{day_given}
use Rattle.labels.specs.declared.header.Hdr1.{Hdr1}
use Rattle.labels.specs.declared.header.Hdr1Free.{Hdr1Free}
use Rattle.labels.specs.Headers.{hdr1_layout, hdr2, lengths, record_length_text, user_field}
use Rattle.labels.specs.Users.{processing_day, uhl1_layout, work}
use Rattle.labels.specs.Volumes.{OwnerSays, vol1_marked, vol1_sun}
use Rattle.labels.specs.Volumes.OwnerSays.{numbered, marked}
use Rattle.trailers.specs.Closings.{eof2, utl1}
use Rattle.trailers.specs.Repeats.{eof1, eof1_values}
use Rattle.records.specs.Contras.{contra_layout}
use Rattle.records.specs.Payments.{OriginatorSays, day_in_range, payment_layout}
use Rattle.grammar.specs.Cuts.{feeds}
use Rattle.grammar.specs.Headings.{Batch, Entry, Heading, Setting, Top, batch_total, closing_of, credit_count_of, debit_count_of, file_total, header_of, next_day, user_places}
use Rattle.grammar.specs.Next.{Paid, Said, heading}
use Rattle.grammar.specs.Next.Paid.{none, first, closed, during}
use Rattle.grammar.specs.Next.Said.{start, volume, header, sized, paid, ended1, ended2, whole}

-- what stands in the free places that no later line repeats: VOL1 11, UHL1 48-50 and 51-54
pub record Spare : Type 0 where
  pub access : List ℕ
  pub audit : List ℕ
  pub spare : List ℕ

-- The lines.

abbrev pub vol1_image : OwnerSays → List ℕ → List ℕ → List ℕ
vol1_image (numbered n) s access = line vol1_sun (s, (access, (n, tt)))
vol1_image (marked m) s access = line vol1_marked (s, (access, (m, tt)))

abbrev pub hdr1_image : OwnerSays → List ℕ → Hdr1 → List ℕ
hdr1_image o s h =
    let f = h.free in
    line (hdr1_layout (user_places o) s)
    (f.user, (f.version, (f.user_again, (s, (f.spare4, (f.spare2, (h.creation, (h.expiry, (f.access, tt)))))))))

abbrev pub hdr2_image : Service → Bool → List ℕ
hdr2_image g multi = line (hdr2 g) (record_length_text multi, tt)

abbrev pub uhl1_image : Setting → Top → Spare → List ℕ
uhl1_image g t x =
    let code = work g.service t.multi in
    line (uhl1_layout (processing_day g.service g.opening t.creation t.expiry g.opens) code)
    (t.processing, (code, (t.number, (x.audit, (x.spare, tt)))))

-- the day stands in the records of a multi-day file
abbrev pub payment_image : Bool → OriginatorSays → ℕ → Entry → List ℕ
payment_image multi o day p =
    cond multi
    (line (payment_layout Credits None (day_given [] None ∷ []))
    (p.sort_code, (p.account, (p.code, (o.sort_code, (o.account, (p.free_format, (p.amount, (o.name, (p.reference, (p.name, (day, tt))))))))))))
    (line (payment_layout Credits None [])
    (p.sort_code, (p.account, (p.code, (o.sort_code, (o.account, (p.free_format, (p.amount, (o.name, (p.reference, (p.name, tt)))))))))))

abbrev pub contra_image : Service → Bool → OriginatorSays → List ℕ → Batch → List ℕ
contra_image g multi o narrative b =
    let total = batch_total b in
    cond multi
    (line (contra_layout g o total None (day_given [] None ∷ [])) (o.sort_code, (o.account, (o.sort_code, (o.account, (total, (narrative, (o.name, (b.day, tt)))))))))
    (line (contra_layout g o total None []) (o.sort_code, (o.account, (o.sort_code, (o.account, (total, (narrative, (o.name, tt))))))))

abbrev pub eof1_image : Top → Hdr1Free → List ℕ
eof1_image t f = line (eof1 t.serial (header_of t f)) (eof1_values (record { serial = t.serial; header = header_of t f }))

abbrev pub eof2_image : Top → List ℕ
eof2_image t = line (eof2 t.multi) (record_length_text t.multi, tt)

abbrev pub utl1_image : Service → List Batch → List ℕ
utl1_image g bs = line (utl1 (closing_of g bs)) (file_total bs, (file_total bs, (debit_count_of g bs, (credit_count_of g bs, tt))))

abbrev pub payment_lines : Bool → OriginatorSays → Batch → List (List ℕ)
payment_lines multi o b = map (payment_image multi o b.day) b.payments

abbrev pub batch_lines : Service → Bool → OriginatorSays → List ℕ → Batch → List (List ℕ)
batch_lines g multi o n b = payment_lines multi o b ++ contra_image g multi o n b ∷ []

abbrev pub label_lines : Setting → Top → Hdr1Free → Spare → List (List ℕ)
label_lines g t f x =
    vol1_image t.owner t.serial x.access ∷ hdr1_image t.owner t.serial (header_of t f) ∷ hdr2_image g.service t.multi ∷ uhl1_image g t x ∷ []

abbrev pub closed_lines : Setting → Top → Hdr1Free → Spare → OriginatorSays → List ℕ → List Batch → List (List ℕ)
closed_lines g t f x o n bs = label_lines g t f x ++ flat_map (batch_lines g.service t.multi o n) bs

abbrev pub trailer_lines : Service → Heading → Hdr1Free → List Batch → List (List ℕ)
trailer_lines g h f bs = eof1_image h.top f ∷ eof2_image h.top ∷ utl1_image g bs ∷ []

abbrev pub paid_lines : Setting → Top → Hdr1Free → Spare → Paid → List (List ℕ)
paid_lines g t f x none = label_lines g t f x
paid_lines g t f x (first o b) = label_lines g t f x ++ payment_lines t.multi o b
paid_lines g t f x (closed o n bs) = closed_lines g t f x o n bs
paid_lines g t f x (during o n bs b) = closed_lines g t f x o n bs ++ payment_lines t.multi o b

abbrev pub file_lines : Setting → Heading → Hdr1Free → Spare → List Batch → List (List ℕ)
file_lines g h f x bs = closed_lines g h.top f x h.originator h.narrative bs ++ trailer_lines g.service h f bs

unfoldable pub lines_of : Setting → Spare → Said → List (List ℕ)
lines_of g x start = []
lines_of g x (volume o s) = vol1_image o s x.access ∷ []
lines_of g x (header o s h) = vol1_image o s x.access ∷ hdr1_image o s h ∷ []
lines_of g x (sized o s h multi) = vol1_image o s x.access ∷ hdr1_image o s h ∷ hdr2_image g.service multi ∷ []
lines_of g x (paid t f p) = paid_lines g t f x p
lines_of g x (ended1 h f bs) = closed_lines g h.top f x h.originator h.narrative bs ++ eof1_image h.top f ∷ []
lines_of g x (ended2 h f bs) = closed_lines g h.top f x h.originator h.narrative bs ++ eof1_image h.top f ∷ eof2_image h.top ∷ []
lines_of g x (whole h f bs) = file_lines g h f x bs

-- What may stand in them.

abbrev pub OwnerFits : OwnerSays → Type 0
OwnerFits (numbered n) = Allowed (number 6) n
OwnerFits (marked m) = Allowed marks m

pub record VolumeFits (o : OwnerSays) (s a : List ℕ) : Type 0 where
  pub owner : OwnerFits o
  pub serial : Allowed serial s
  pub access : Allowed (choice 1 (blank 1 ∷ codes "0" ∷ [])) a

pub record HeaderFits (o : OwnerSays) (h : Hdr1) : Type 0 where
  pub user : Allowed (user_field (user_places o)) h.free.user
  pub version : Allowed (choice 1 (blank 1 ∷ codes "1" ∷ [])) h.free.version
  pub user_again : Allowed (user_field (user_places o)) h.free.user_again
  pub spare4 : Allowed (digits_or_spaces 4) h.free.spare4
  pub spare2 : Allowed (digits_or_spaces 2) h.free.spare2
  pub creation : Allowed (date []) h.creation
  pub expiry : Allowed (date []) h.expiry
  pub access : Allowed (choice 1 (blank 1 ∷ codes "0" ∷ [])) h.free.access

-- a multi-day file is none of Faster Payments
abbrev pub SizeFits : Service → Bool → Type 0
SizeFits g multi = Allowed (choice 5 (lengths g)) (record_length_text multi)

pub record SizedFits (g : Service) (o : OwnerSays) (s a : List ℕ) (h : Hdr1) (multi : Bool) : Type 0 where
  pub volume : VolumeFits o s a
  pub header : HeaderFits o h
  pub size : SizeFits g multi

pub record LabelsFit (g : Setting) (t : Top) (f : Hdr1Free) (x : Spare) : Type 0 where
  pub sized : SizedFits g.service t.owner t.serial x.access (header_of t f) t.multi
  pub processing : Allowed (processing_day g.service g.opening t.creation t.expiry g.opens) t.processing
  pub number : Allowed (number 3) t.number
  pub audit : Allowed (choice 3 (blank 3 ∷ codes "AUD" ∷ [])) x.audit
  pub spare : Allowed (digits_or_spaces 4) x.spare

pub record OriginatorFits (g : Service) (o : OriginatorSays) : Type 0 where
  pub sort_code : Allowed (number 6) o.sort_code
  pub account : Allowed (number 8) o.account
  pub name : Allowed (filled g) o.name

pub record EntryFits (g : Service) (p : Entry) : Type 0 where
  pub sort_code : Allowed (number 6) p.sort_code
  pub account : Allowed (number 8) p.account
  pub code : Allowed (code g) p.code
  pub free_format : Allowed (free_format g) p.free_format
  pub amount : Allowed (amount g) p.amount
  pub reference : Allowed (reference g) p.reference
  pub name : Allowed (filled g) p.name

-- the day of a batch that may not be before `from`, p being the processing day: in a multi-day file an open day up to the 39th after p; a
-- single-day file has only p, so that no second batch can follow it
abbrev pub DayFits : Setting → Bool → ℕ → ℕ → ℕ → Type 0
DayFits g true p from day = Allowed (day_in_range from (p + 39) g.opens) day
DayFits g false p from day = (day ≡ p) × (from ≤ p)

abbrev pub some : {X : Type 0} → List X → Bool
some [] = false
some (x ∷ xs) = true

-- a batch that has its payments so far
pub record OpenFits (g : Setting) (t : Top) (from : ℕ) (b : Batch) : Type 0 where
  pub day : DayFits g t.multi t.processing from b.day
  pub some : some b.payments ≡ true
  pub payments : AllByRecursion (EntryFits g.service) b.payments

-- one with its contra, whose total has eleven digits
pub record BatchFits (g : Setting) (t : Top) (from : ℕ) (b : Batch) : Type 0 where
  pub paid : OpenFits g t from b
  pub total : batch_total b < 10 ^ 11

-- on strictly rising days
abbrev pub BatchesFit : Setting → Top → ℕ → List Batch → Type 0
BatchesFit g t from [] = Unit {0}
BatchesFit g t from (b ∷ bs) = BatchFits g t from b × BatchesFit g t (suc b.day) bs

pub record HeadingFits (g : Setting) (h : Heading) (f : Hdr1Free) (x : Spare) : Type 0 where
  pub labels : LabelsFit g h.top f x
  pub originator : OriginatorFits g.service h.originator
  pub narrative : Allowed (text g.service) h.narrative

pub record ClosedFits (g : Setting) (h : Heading) (f : Hdr1Free) (x : Spare) (bs : List Batch) : Type 0 where
  pub heading : HeadingFits g h f x
  pub batches : BatchesFit g h.top h.top.processing bs
  pub some : some bs ≡ true

-- the trailer's totals have thirteen digits, its counts seven
pub record FileFits (g : Setting) (h : Heading) (f : Hdr1Free) (x : Spare) (bs : List Batch) : Type 0 where
  pub closed : ClosedFits g h f x bs
  pub total : file_total bs < 10 ^ 13
  pub debits : debit_count_of g.service bs < 10 ^ 7
  pub credits : credit_count_of g.service bs < 10 ^ 7

pub record FirstFits (g : Setting) (t : Top) (f : Hdr1Free) (x : Spare) (o : OriginatorSays) (b : Batch) : Type 0 where
  pub labels : LabelsFit g t f x
  pub originator : OriginatorFits g.service o
  pub paid : OpenFits g t t.processing b

pub record DuringFits (g : Setting) (h : Heading) (f : Hdr1Free) (x : Spare) (bs : List Batch) (b : Batch) : Type 0 where
  pub closed : ClosedFits g h f x bs
  pub paid : OpenFits g h.top (next_day h.top.processing bs) b

abbrev pub PaidFits : Setting → Top → Hdr1Free → Spare → Paid → Type 0
PaidFits g t f x none = LabelsFit g t f x
PaidFits g t f x (first o b) = FirstFits g t f x o b
PaidFits g t f x (closed o n bs) = ClosedFits g (heading t o n) f x bs
PaidFits g t f x (during o n bs b) = DuringFits g (heading t o n) f x bs b

pub record BegunFits (o : OwnerSays) (s a : List ℕ) (h : Hdr1) : Type 0 where
  pub volume : VolumeFits o s a
  pub header : HeaderFits o h

abbrev pub Fits : Setting → Spare → Said → Type 0
Fits g x start = Unit {0}
Fits g x (volume o s) = VolumeFits o s x.access
Fits g x (header o s h) = BegunFits o s x.access h
Fits g x (sized o s h multi) = SizedFits g.service o s x.access h multi
Fits g x (paid t f p) = PaidFits g t f x p
Fits g x (ended1 h f bs) = ClosedFits g h f x bs
Fits g x (ended2 h f bs) = ClosedFits g h f x bs
Fits g x (whole h f bs) = FileFits g h f x bs

-- The bytes are a file of this heading and these batches, with some allowed contents of the free places.
pub record Belongs (g : Setting) (h : Heading) (bs : List Batch) (bytes : List ℕ) : Type 0 where
  pub free : Hdr1Free
  pub spare : Spare
  pub fits : FileFits g h free spare bs
  pub is : bytes ≡ feeds (file_lines g h free spare bs)
