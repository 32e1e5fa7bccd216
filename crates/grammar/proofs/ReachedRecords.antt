-- The walk over the records of a batch comes to what they say.
use Rattle.std.proofs.Common.{◌≡◌, ℕ, ◌^◌, ◌<◌, Bool, true, false, not, ◌&&◌, List, [], ◌∷◌, ◌++◌, map, Some, None, Option, refl, append_assoc, append-nil}
use Rattle.std.specs.List.{AllByRecursion}
use Rattle.std.proofs.lemmas.Bool.{and_from, eq-eqb, false≢true, not_from_false}
use Rattle.tables.specs.Kinds.{Allowed}
use Rattle.fields.specs.Words.{text, text_rules}
use Rattle.labels.specs.declared.header.Hdr1Free.{Hdr1Free}
use Rattle.records.specs.Contras.{contra_shown}
use Rattle.records.specs.Payments.{OriginatorSays}
use Rattle.grammar.specs.Files.{BatchFits, DayFits, EntryFits, OpenFits, OriginatorFits, batch_lines, contra_image, payment_image}
use Rattle.grammar.specs.Headings.{Batch, Entry, Setting, Top, batch_total, next_day, one_more, opened}
use Rattle.grammar.specs.Next.{Fixed, Said, closing, fixed, is_eof1, next, open_of, paying}
use Rattle.grammar.specs.Next.Next.{comes}
use Rattle.grammar.specs.Next.Paid.{none, first, closed, during}
use Rattle.grammar.specs.Next.Said.{paid}
use Rattle.grammar.proofs.Contents.{bytes_fit}
use Rattle.grammar.proofs.Peeks.{contra_shows, payment_no_eof1, payment_shows}
use Rattle.grammar.proofs.Reached.{Reaches, reach_line, reach_none, reach_then, this}
use Rattle.grammar.proofs.Records.{Dated, DaySaid, Payer, contra_line, first_payer, payment_line, same_payer}
use Rattle.grammar.proofs.Unbroken.{day_dated}

abbrev batch : ℕ → List Entry → Batch
batch day es = record { day = day; payments = es }

module _ (g : Setting) where
  -- Days.

  module _ (d : ℕ) where
    first_said : (multi : Bool) (day : ℕ) → DayFits g multi d d day → DaySaid g multi d (fixed d none) day
    first_said true day a = a
    first_said false day a = a.0

    -- the day of an open batch again
    again_said : (oo : Option OriginatorSays) (nn : Option (List ℕ)) (m : ℕ) (b : Batch) (multi : Bool) (from : ℕ) → DayFits g multi d from b.day → DaySaid g multi d (record { originator = oo; narrative = nn; batch = Some (open_of b); next = m }) b.day
    again_said oo nn m b true from a = (a.0, (eq-eqb b.day b.day refl, tt))
    again_said oo nn m b false from a = a.0

    later_said : (o : OriginatorSays) (n : List ℕ) (bs : List Batch) (multi : Bool) (day : ℕ) → multi ≡ true → DayFits g multi d (next_day d bs) day → DaySaid g multi d (fixed d (closed o n bs)) day
    later_said o n bs true day e a = a
    later_said o n bs false day e a = absurd (false≢true e)

  module _ (t : Top) (f : Hdr1Free) (o : OriginatorSays) (a : OriginatorFits g.service o) where
    -- Payments.

    -- a payment of the originator where it may stand
    reach_paying : (s : Said) (x : Fixed) (add : OriginatorSays → Entry → ℕ → Said) (day : ℕ) (e : Entry) → next g s (payment_image t.multi o day e) ≡ comes (paying g t.multi t.processing x add) → Payer g.service x.originator o → EntryFits g.service e → DaySaid g t.multi t.processing x day → Reaches g s (payment_image t.multi o day e ∷ []) (add o e day)
    reach_paying s x add day e i q k d =
        reach_line g s (paying g t.multi t.processing x add) (payment_image t.multi o day e) (add o e day) i (payment_line g t.multi t.processing x add o e day q k d)

    reach_first : (day : ℕ) (e : Entry) → DayFits g t.multi t.processing t.processing day → EntryFits g.service e → Reaches g (paid t f none) (payment_image t.multi o day e ∷ []) (paid t f (first o (opened day e)))
    reach_first day e d k =
        reach_paying (paid t f none) (fixed t.processing none) (λ o e d. paid t f (first o (opened d e))) day e refl
        (first_payer g.service o a) k (first_said t.processing t.multi day d)

    reach_in_first : (b : Batch) (from : ℕ) → DayFits g t.multi t.processing from b.day → (e : Entry) → EntryFits g.service e → Reaches g (paid t f (first o b)) (payment_image t.multi o b.day e ∷ []) (paid t f (first o (one_more b e)))
    reach_in_first b from d e k =
        reach_paying (paid t f (first o b)) (fixed t.processing (first o b)) (λ _ e _. paid t f (first o (one_more b e))) b.day e
        (this (contra_shown g.service (payment_image t.multi o b.day e)) false _ _ (payment_shows g.service t.multi o b.day e k.code))
        (same_payer g.service o a) k (again_said t.processing _ _ _ b t.multi from d)

    reach_in_during : (n : List ℕ) (bs : List Batch) (b : Batch) (from : ℕ) → DayFits g t.multi t.processing from b.day → (e : Entry) → EntryFits g.service e → Reaches g (paid t f (during o n bs b)) (payment_image t.multi o b.day e ∷ []) (paid t f (during o n bs (one_more b e)))
    reach_in_during n bs b from d e k =
        reach_paying (paid t f (during o n bs b)) (fixed t.processing (during o n bs b)) (λ _ e _. paid t f (during o n bs (one_more b e))) b.day e
        (this (contra_shown g.service (payment_image t.multi o b.day e)) false _ _ (payment_shows g.service t.multi o b.day e k.code))
        (same_payer g.service o a) k (again_said t.processing _ _ _ b t.multi from d)

    -- the first payment of a later batch
    reach_opened : (n : List ℕ) (bs : List Batch) (day : ℕ) (e : Entry) → t.multi ≡ true → DayFits g t.multi t.processing (next_day t.processing bs) day → EntryFits g.service e → Reaches g (paid t f (closed o n bs)) (payment_image t.multi o day e ∷ []) (paid t f (during o n bs (opened day e)))
    reach_opened n bs day e multi d k =
        reach_paying (paid t f (closed o n bs)) (fixed t.processing (closed o n bs)) (λ _ e d. paid t f (during o n bs (opened d e))) day e
        (this (t.multi && not (is_eof1 (payment_image t.multi o day e))) true _ _ (and_from _ _ multi (not_from_false _ (payment_no_eof1 t.multi o day e))))
        (same_payer g.service o a) k (later_said t.processing o n bs t.multi day multi d)

    module _ (at : Batch → Said) (day : ℕ) (one : (es : List Entry) (e : Entry) → EntryFits g.service e → Reaches g (at (batch day es)) (payment_image t.multi o day e ∷ []) (at (batch day (es ++ e ∷ [])))) where
      reach_payments : (done es : List Entry) → AllByRecursion (EntryFits g.service) es → Reaches g (at (batch day done)) (map (payment_image t.multi o day) es) (at (batch day (done ++ es)))
      reach_payments done [] k = rw (append-nil done) (reach_none g _)
      reach_payments done (e ∷ es) k =
          let all : Reaches g (at (batch day done)) (map (payment_image t.multi o day) (e ∷ es)) (at (batch day ((done ++ e ∷ []) ++ es))) =
          reach_then g (one done e k.0) (reach_payments (done ++ e ∷ []) es k.1) in
          rw (append_assoc done (e ∷ []) es) at all

    -- the payments of the first batch
    pub reach_opening : (day : ℕ) (es : List Entry) → OpenFits g t t.processing (batch day es) → Reaches g (paid t f none) (map (payment_image t.multi o day) es) (paid t f (first o (batch day es)))
    reach_opening day [] c = absurd (false≢true c.some)
    reach_opening day (e ∷ es) c =
        reach_then g (reach_first day e c.day c.payments.0)
        (reach_payments (λ b. paid t f (first o b)) day (λ done e. reach_in_first (batch day done) t.processing c.day e) (e ∷ []) es c.payments.1)

    -- the payments of a later batch, which only a multi-day file has
    pub reach_later : (n : List ℕ) (bs : List Batch) (day : ℕ) (es : List Entry) → t.multi ≡ true → OpenFits g t (next_day t.processing bs) (batch day es) → Reaches g (paid t f (closed o n bs)) (map (payment_image t.multi o day) es) (paid t f (during o n bs (batch day es)))
    reach_later n bs day [] multi c = absurd (false≢true c.some)
    reach_later n bs day (e ∷ es) multi c =
        reach_then g (reach_opened n bs day e multi c.day c.payments.0)
        (reach_payments (λ b. paid t f (during o n bs b)) day (λ done e. reach_in_during n bs (batch day done) (next_day t.processing bs) c.day e) (e ∷ []) es c.payments.1)

    -- Contras.

    reach_contra_first : (n : List ℕ) (b : Batch) → Allowed (text g.service) n → batch_total b < 10 ^ 11 → Dated t.multi b.day → Reaches g (paid t f (first o b)) (contra_image g.service t.multi o n b ∷ []) (paid t f (closed o n (b ∷ [])))
    reach_contra_first n b k total d =
        let l = contra_image g.service t.multi o n b in
        let add : List ℕ → Said = λ n. paid t f (closed o n (b ∷ [])) in
        reach_line g (paid t f (first o b)) (closing g t.multi o (open_of b) None add) l (add n)
        (this (contra_shown g.service l) true _ _ (contra_shows g.service t.multi o n b)) (contra_line g o b None add t.multi n a total k d)

    reach_contra_during : (n : List ℕ) (bs : List Batch) (b : Batch) → Allowed (text g.service) n → batch_total b < 10 ^ 11 → Dated t.multi b.day → Reaches g (paid t f (during o n bs b)) (contra_image g.service t.multi o n b ∷ []) (paid t f (closed o n (bs ++ b ∷ [])))
    reach_contra_during n bs b k total d =
        let l = contra_image g.service t.multi o n b in
        let add : List ℕ → Said = λ _. paid t f (closed o n (bs ++ b ∷ [])) in
        reach_line g (paid t f (during o n bs b)) (closing g t.multi o (open_of b) (Some n) add) l (add n)
        (this (contra_shown g.service l) true _ _ (contra_shows g.service t.multi o n b))
        (contra_line g o b (Some n) add t.multi n a total (bytes_fit 18 (text_rules g.service) n k.0) d)

    -- Batches with their contras.

    module _ (n : List ℕ) (k : Allowed (text g.service) n) where
      pub reach_first_batch : (b : Batch) → BatchFits g t t.processing b → Reaches g (paid t f none) (batch_lines g.service t.multi o n b) (paid t f (closed o n (b ∷ [])))
      reach_first_batch b c =
          reach_then g (reach_opening b.day b.payments c.paid) (reach_contra_first n b k c.total (day_dated g t.multi t.processing t.processing b.day c.paid.day))

      pub reach_batch : (bs : List Batch) (b : Batch) → t.multi ≡ true → BatchFits g t (next_day t.processing bs) b → Reaches g (paid t f (closed o n bs)) (batch_lines g.service t.multi o n b) (paid t f (closed o n (bs ++ b ∷ [])))
      reach_batch bs b multi c =
          reach_then g (reach_later n bs b.day b.payments multi c.paid) (reach_contra_during n bs b k c.total (day_dated g t.multi t.processing _ b.day c.paid.day))
