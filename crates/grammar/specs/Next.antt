-- What the lines so far say, and which line comes next: the table that it is judged by, and what it adds.
use Rattle.std.specs.Prelude.{ℕ, ◌+◌, Bool, cond, not, ◌&&◌, List, [], ◌∷◌, ◌++◌, take, Some, None, codes, Option}
use Rattle.std.specs.Option.{option_map as if_some}
use Rattle.std.specs.Str.{bytes_eq}
use Rattle.tables.specs.Kinds.{Kind}
use Rattle.lines.specs.Places.{Place, stands}
use Rattle.places.specs.Given.{day_given, usable_rules}
use Rattle.labels.specs.declared.header.Hdr1.{Hdr1}
use Rattle.labels.specs.declared.header.Hdr1Free.{Hdr1Free}
use Rattle.labels.specs.Headers.{hdr1_layout, hdr2, header as header_says}
use Rattle.labels.specs.Users.{processing_day, uhl1_layout, work}
use Rattle.labels.specs.Volumes.{OwnerSays, has_sun, vol1_marked, vol1_sun}
use Rattle.labels.specs.Volumes.OwnerSays.{numbered, marked}
use Rattle.trailers.specs.Closings.{eof2, utl1}
use Rattle.trailers.specs.Repeats.{eof1}
use Rattle.records.specs.Contras.{contra_layout, contra_shown}
use Rattle.records.specs.Payments.{OriginatorSays, in_range, payment_layout}
use Rattle.grammar.specs.Headings.{Batch, Entry, Heading, Setting, Top, batch_total, closing_of, header_of, next_day, one_more, opened, user_places}

-- What the records so far say.
pub data Paid : Type 0 where
  -- there are none
  none : Paid
  -- the payments of the first batch, which has no contra yet
  first : OriginatorSays → Batch → Paid
  -- batches with their contras, which give the narrative
  closed : OriginatorSays → List ℕ → List Batch → Paid
  -- the same, and the payments of a batch that has no contra yet
  during : OriginatorSays → List ℕ → List Batch → Batch → Paid

-- What the lines so far say. The free places of VOL1 and UHL1 are left out; EOF1 repeats those of HDR1.
pub data Said : Type 0 where
  start : Said
  -- VOL1: owner and serial
  volume : OwnerSays → List ℕ → Said
  -- and HDR1
  header : OwnerSays → List ℕ → Hdr1 → Said
  -- and HDR2: whether the file is multi-day
  sized : OwnerSays → List ℕ → Hdr1 → Bool → Said
  -- and UHL1, and records
  paid : Top → Hdr1Free → Paid → Said
  -- and EOF1; EOF2; UTL1
  ended1 ended2 whole : Heading → Hdr1Free → List Batch → Said

-- What the records so far fix for the next one.

-- an open batch, by its day and the sum of its payments
pub record Open : Type 0 where
  pub day : ℕ
  pub total : ℕ

pub record Fixed : Type 0 where
  pub originator : Option OriginatorSays
  pub narrative : Option (List ℕ)
  pub batch : Option Open
  -- the first day that one more batch may have
  pub next : ℕ

abbrev pub open_of : Batch → Open
open_of b = record { day = b.day; total = batch_total b }

-- d is the processing day
abbrev pub fixed : ℕ → Paid → Fixed
fixed d none = record { originator = None; narrative = None; batch = None; next = d }
fixed d (first o b) = record { originator = Some o; narrative = None; batch = Some (open_of b); next = d }
fixed d (closed o n bs) = record { originator = Some o; narrative = Some n; batch = None; next = next_day d bs }
fixed d (during o n bs b) = record { originator = Some o; narrative = Some n; batch = Some (open_of b); next = next_day d bs }

-- The tables of records by what is fixed.

-- the batch's day again; in a batch's first payment an open day in range
abbrev pub payment_day : Setting → ℕ → Fixed → Kind
payment_day g processing x = day_given (usable_rules (in_range x.next (processing + 39)) g.opens) (if_some (λ b. b.day) x.batch)

abbrev pub entry : ℕ → ℕ → List ℕ → List ℕ → ℕ → List ℕ → List ℕ → Entry
entry s a c f n r m = record { sort_code = s; account = a; code = c; free_format = f; amount = n; reference = r; name = m }

abbrev pub originator : ℕ → ℕ → List ℕ → OriginatorSays
originator s a n = record { sort_code = s; account = a; name = n }

-- a payment, its day that of the file where it is single-day
abbrev pub paying : {X : Type 0} → Setting → Bool → ℕ → Fixed → (OriginatorSays → Entry → ℕ → X) → Place X
paying g multi processing x add =
    cond multi
    (stands (payment_layout g.service x.originator (payment_day g processing x ∷ []))
    (λ s a c from_s from_a f n from_name r m day. add (originator from_s from_a from_name) (entry s a c f n r m) day))
    (stands (payment_layout g.service x.originator [])
    (λ s a c from_s from_a f n from_name r m. add (originator from_s from_a from_name) (entry s a c f n r m) processing))

-- the contra of an open batch
abbrev pub closing : {X : Type 0} → Setting → Bool → OriginatorSays → Open → Option (List ℕ) → (List ℕ → X) → Place X
closing g multi o b narrative add =
    cond multi
    (stands (contra_layout g.service o b.total narrative (day_given [] (Some b.day) ∷ [])) (λ s a from_s from_a total said name day. add said))
    (stands (contra_layout g.service o b.total narrative []) (λ s a from_s from_a total said name. add said))

-- Which line it is.

-- the length of a record that HDR2 gives is that of a multi-day file
abbrev pub names_multi : List ℕ → Bool
names_multi long = bytes_eq long (codes "00106")

abbrev pub is_eof1 : List ℕ → Bool
is_eof1 l = bytes_eq (take 4 l) (codes "EOF1")

abbrev pub top : OwnerSays → List ℕ → Hdr1 → Bool → ℕ → ℕ → Top
top o s h multi d n = record { owner = o; serial = s; creation = h.creation; expiry = h.expiry; multi = multi; processing = d; number = n }

abbrev pub heading : Top → OriginatorSays → List ℕ → Heading
heading t o n = record { top = t; originator = o; narrative = n }

-- l is the line that comes after the records so far
abbrev pub next_record : Setting → Top → Hdr1Free → Paid → List ℕ → Place Said
next_record g t f none l = paying g t.multi t.processing (fixed t.processing none) (λ o p d. paid t f (first o (opened d p)))
next_record g t f (first o b) l =
    cond (contra_shown g.service l)
    (closing g t.multi o (open_of b) None (λ n. paid t f (closed o n (b ∷ []))))
    (paying g t.multi t.processing (fixed t.processing (first o b)) (λ _ p _. paid t f (first o (one_more b p))))
next_record g t f (closed o n bs) l =
    cond (t.multi && not (is_eof1 l))
    (paying g t.multi t.processing (fixed t.processing (closed o n bs)) (λ _ p d. paid t f (during o n bs (opened d p))))
    (stands (eof1 t.serial (header_of t f)) (λ u v w s x y c e a. ended1 (heading t o n) f bs))
next_record g t f (during o n bs b) l =
    cond (contra_shown g.service l)
    (closing g t.multi o (open_of b) (Some n) (λ _. paid t f (closed o n (bs ++ b ∷ []))))
    (paying g t.multi t.processing (fixed t.processing (during o n bs b)) (λ _ p _. paid t f (during o n bs (one_more b p))))

pub data Next : Type 0 where
  -- a line by the table of this place
  comes : Place Said → Next
  -- none
  over : Next

-- l is the line that comes
abbrev pub next : Setting → Said → List ℕ → Next
next g start l =
    comes (cond (has_sun l) (stands vol1_sun (λ s free n. volume (numbered n) s)) (stands vol1_marked (λ s free m. volume (marked m) s)))
next g (volume o s) l = comes (stands (hdr1_layout (user_places o) s) (λ u v w again x y c e a. header o s (header_says u v w again x y c e a)))
next g (header o s h) l = comes (stands (hdr2 g.service) (λ long. sized o s h (names_multi long)))
next g (sized o s h multi) l =
    comes (stands (uhl1_layout (processing_day g.service g.opening h.creation h.expiry g.opens) (work g.service multi))
    (λ d code n audit spare. paid (top o s h multi d n) h.free none))
next g (paid t f p) l = comes (next_record g t f p l)
next g (ended1 h f bs) l = comes (stands (eof2 h.top.multi) (λ long. ended2 h f bs))
next g (ended2 h f bs) l = comes (stands (utl1 (closing_of g.service bs)) (λ dt ct dc cc. whole h f bs))
next g (whole h f bs) l = over
