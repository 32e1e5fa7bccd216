-- The walk over the lines of a fitting beginning of a file comes to what they say.
use Rattle.std.proofs.Common.{◌≡◌, ℕ, suc, ◌≤◌, Bool, true, false, List, [], ◌∷◌, ◌++◌, refl, ap, subst, append_assoc, append-nil, arith}
use Rattle.std.specs.List.{flat_map}
use Rattle.std.proofs.lemmas.Bool.{false≢true}
use Rattle.labels.specs.declared.header.Hdr1Free.{Hdr1Free}
use Rattle.grammar.specs.Files.{BatchesFit, ClosedFits, DayFits, DuringFits, Fits, HeadingFits, PaidFits, Spare, batch_lines, closed_lines, lines_of, paid_lines, payment_lines}
use Rattle.grammar.specs.Headings.{Batch, Heading, Setting, Top, next_day}
use Rattle.grammar.specs.Next.{Paid, Said, heading}
use Rattle.grammar.specs.Next.Paid.{none, first, closed, during}
use Rattle.grammar.specs.Next.Said.{start, volume, header, sized, paid, ended1, ended2, whole}
use Rattle.grammar.proofs.Reached.{Reaches, reach_eof1, reach_eof2, reach_hdr1, reach_labels, reach_none, reach_sized, reach_then, reach_utl1, reach_vol1}
use Rattle.grammar.proofs.ReachedRecords.{reach_batch, reach_first_batch, reach_later, reach_opening}
use Rattle.grammar.proofs.Steps.{batches_push}

module _ (g : Setting) where
  -- A second batch is one of a multi-day file: a single-day file has no day left after its first.

  one_day : (t : Top) → t.multi ≡ false → (from day : ℕ) → DayFits g t.multi t.processing from day → (day ≡ t.processing) × (from ≤ t.processing)
  one_day t e from day a = subst (λ (m : Bool). DayFits g m t.processing from day) e a

  after_day : (t : Top) → t.multi ≡ false → (d : ℕ) (b : Batch) (bs : List Batch) → BatchesFit g t d (b ∷ bs) → next_day d (b ∷ bs) ≡ suc t.processing
  after_day t e d b [] a = ap (λ (n : ℕ). suc n) (one_day t e d b.day a.0.paid.day).0
  after_day t e d b (c ∷ cs) a = after_day t e (suc b.day) c cs a.1

  several : (t : Top) (d : ℕ) (b : Batch) (bs : List Batch) → BatchesFit g t d (b ∷ bs) → (day : ℕ) → DayFits g t.multi t.processing (next_day d (b ∷ bs)) day → (m : Bool) → t.multi ≡ m → t.multi ≡ true
  several t d b bs a day k true e = e
  several t d b bs a day k false e = let z : ⊥ = omega (arith, after_day t e d b bs a, (one_day t e (next_day d (b ∷ bs)) day k).1) in absurd z

  next_push : (d : ℕ) (bs : List Batch) (b : Batch) → next_day d (bs ++ b ∷ []) ≡ suc b.day
  next_push d [] b = refl
  next_push d (c ∷ bs) b = next_push (suc c.day) bs b

  module _ (h : Heading) (f : Hdr1Free) (x : Spare) (k : HeadingFits g h f x) where
    abbrev after : List Batch → Said
    after bs = paid h.top f (closed h.originator h.narrative bs)

    abbrev lines : List Batch → List (List ℕ)
    lines bs = flat_map (batch_lines g.service h.top.multi h.originator h.narrative) bs

    reach_batches : (b : Batch) (bs cs : List Batch) → BatchesFit g h.top h.top.processing (b ∷ bs) → BatchesFit g h.top (next_day h.top.processing (b ∷ bs)) cs → Reaches g (after (b ∷ bs)) (lines cs) (after ((b ∷ bs) ++ cs))
    reach_batches b bs [] before a = rw (append-nil bs) (reach_none g _)
    reach_batches b bs (c ∷ cs) before a =
        let d = h.top.processing in
        let multi = several h.top d b bs before c.day a.0.paid.day h.top.multi refl in
        let later : BatchesFit g h.top (next_day d (b ∷ (bs ++ c ∷ []))) cs = rw (next_push (suc b.day) bs c) a.1 in
        let all : Reaches g (after (b ∷ bs)) (lines (c ∷ cs)) (after (b ∷ ((bs ++ c ∷ []) ++ cs))) =
        reach_then g (reach_batch g h.top f h.originator k.originator h.narrative k.narrative (b ∷ bs) c multi a.0)
        (reach_batches b (bs ++ c ∷ []) cs (batches_push g h.top d (b ∷ bs) c before a.0) later) in
        rw (append_assoc bs (c ∷ []) cs) at all

  reach_closed : (h : Heading) (f : Hdr1Free) (x : Spare) (bs : List Batch) → ClosedFits g h f x bs → Reaches g start (closed_lines g h.top f x h.originator h.narrative bs) (paid h.top f (closed h.originator h.narrative bs))
  reach_closed h f x [] a = absurd (false≢true a.some)
  reach_closed h f x (b ∷ bs) a =
      let k = a.heading in
      reach_then g (reach_labels g h.top f x k.labels)
      (reach_then g (reach_first_batch g h.top f h.originator k.originator h.narrative k.narrative b a.batches.0)
      (reach_batches h f x k b [] bs (a.batches.0, tt) a.batches.1))

  reach_during : (h : Heading) (f : Hdr1Free) (x : Spare) (bs : List Batch) (b : Batch) → DuringFits g h f x bs b → Reaches g start (closed_lines g h.top f x h.originator h.narrative bs ++ payment_lines h.top.multi h.originator b) (paid h.top f (during h.originator h.narrative bs b))
  reach_during h f x [] b a = absurd (false≢true a.closed.some)
  reach_during h f x (c ∷ bs) b a =
      let multi = several h.top h.top.processing c bs a.closed.batches b.day a.paid.day h.top.multi refl in
      reach_then g (reach_closed h f x (c ∷ bs) a.closed)
      (reach_later g h.top f h.originator a.closed.heading.originator h.narrative (c ∷ bs) b.day b.payments multi a.paid)

  reach_paid : (t : Top) (f : Hdr1Free) (x : Spare) (p : Paid) → PaidFits g t f x p → Reaches g start (paid_lines g t f x p) (paid t f p)
  reach_paid t f x none a = reach_labels g t f x a
  reach_paid t f x (first o b) a = reach_then g (reach_labels g t f x a.labels) (reach_opening g t f o a.originator b.day b.payments a.paid)
  reach_paid t f x (closed o n bs) a = reach_closed (heading t o n) f x bs a
  reach_paid t f x (during o n bs b) a = reach_during (heading t o n) f x bs b a

  pub reach : (x : Spare) (s : Said) → Fits g x s → Reaches g start (lines_of g x s) s
  unfolding lines_of
  reach x start a = reach_none g start
  reach x (volume o s) a = reach_vol1 g o s x.access a
  reach x (header o s h) a = reach_then g (reach_vol1 g o s x.access a.volume) (reach_hdr1 g o s h a.volume.serial a.header)
  reach x (sized o s h multi) a = reach_sized g o s x.access h multi a
  reach x (paid t f p) a = reach_paid t f x p a
  reach x (ended1 h f bs) a =
      let k = a.heading.labels.sized in
      reach_then g (reach_closed h f x bs a) (reach_eof1 g h f bs k.volume.serial k.header)
  reach x (ended2 h f bs) a =
      let k = a.heading.labels.sized in
      reach_then g (reach_closed h f x bs a) (reach_then g (reach_eof1 g h f bs k.volume.serial k.header) (reach_eof2 g h f bs))
  reach x (whole h f bs) a =
      let k = a.closed.heading.labels.sized in
      reach_then g (reach_closed h f x bs a.closed)
      (reach_then g (reach_eof1 g h f bs k.volume.serial k.header) (reach_then g (reach_eof2 g h f bs) (reach_utl1 g h f x bs a)))
