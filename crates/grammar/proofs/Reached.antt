-- The walk over lines comes to what they say: one line, lines after others, and the labels and trailers.
use Rattle.std.proofs.Common.{◌≡◌, ℕ, ◌+◌, Bool, true, false, cond, not, ◌&&◌, List, [], ◌∷◌, ◌++◌, length, Ok, Result, refl, ap, ◌∙◌, append_assoc, arith, length-append}
use Rattle.std.proofs.lemmas.Bool.{and_right, not_from_true}
use Rattle.tables.specs.Kinds.{Allowed}
use Rattle.tables.specs.Lines.{AllAllowed, By, Table, Values, at_values, line}
use Rattle.fields.specs.Words.{serial}
use Rattle.lines.specs.declared.fault.FileFault.{FileFault}
use Rattle.lines.specs.Places.{LineOf, Place, stands}
use Rattle.labels.specs.declared.header.Hdr1.{Hdr1}
use Rattle.labels.specs.declared.header.Hdr1Free.{Hdr1Free}
use Rattle.labels.specs.Headers.{hdr1_layout, hdr2, header as header_says, record_length_text}
use Rattle.labels.specs.Users.{processing_day, uhl1_layout, work}
use Rattle.labels.specs.Volumes.{OwnerSays, has_sun, vol1_marked, vol1_sun}
use Rattle.labels.specs.Volumes.OwnerSays.{numbered, marked}
use Rattle.trailers.specs.Closings.{eof2, utl1}
use Rattle.trailers.specs.Repeats.{eof1, eof1_values}
use Rattle.grammar.specs.Files.{FileFits, HeaderFits, LabelsFit, SizeFits, SizedFits, Spare, VolumeFits, eof1_image, eof2_image, hdr1_image, hdr2_image, label_lines, uhl1_image, utl1_image, vol1_image}
use Rattle.grammar.specs.Headings.{Batch, Heading, Setting, Top, closing_of, credit_count_of, debit_count_of, file_total, header_of, user_places}
use Rattle.grammar.specs.Next.{Next, Said, is_eof1, names_multi, next, top}
use Rattle.grammar.specs.Next.Next.{comes}
use Rattle.grammar.specs.Next.Paid.{none, closed}
use Rattle.grammar.specs.Next.Said.{start, volume, header, sized, paid, ended1, ended2, whole}
use Rattle.grammar.specs.Reading.{line_said, onward, step, walk}
use Rattle.grammar.proofs.Contents.{eof1_allowed, eof2_allowed, header_allowed, header_values, user_allowed, user_values, utl1_allowed}
use Rattle.grammar.proofs.Judged.{line_says}
use Rattle.grammar.proofs.Peeks.{eof1_shows, mark_shows, sun_shows}

-- one of two places
pub this : (b c : Bool) (p q : Place Said) → b ≡ c → comes (cond b p q) ≡ comes (cond c p q)
this b c p q e = ap (λ (k : Bool). comes (cond k p q)) e

-- the line of allowed values says what they are put together to
line_at : (t : Table) (make : By t Said) (v : Values t) → AllAllowed t v → LineOf (stands t make) (line t v) (at_values Said t make v)
line_at t make v a = record { values = v; is_line = record { allowed = a; is = refl }; says = refl }

module _ (g : Setting) where
  pub record Reaches (s : Said) (ls : List (List ℕ)) (to : Said) : Type 0 where
    pub on : (n : ℕ) (more : List (List ℕ)) (rest : List ℕ) → walk g n s (ls ++ more) rest ≡ walk g (n + length ls) to more rest

  pub reach_none : (s : Said) → Reaches s [] s
  reach_none s = record { on = λ n more rest. ap (λ (k : ℕ). walk g k s more rest) (omega arith) }

  reach_one : (s : Said) (l : List ℕ) (to : Said) → step g s l ≡ Ok to → Reaches s (l ∷ []) to
  unfolding walk
  reach_one s l to h = record {
    on = λ n more rest. ap (λ (r : Result Said FileFault). onward n r (λ x. walk g (n + 1) x more rest)) h ∙ ap (λ (k : ℕ). walk g k to more rest) (omega arith);
  }

  pub reach_then : {s via to : Said} {ls ms : List (List ℕ)} → Reaches s ls via → Reaches via ms to → Reaches s (ls ++ ms) to
  reach_then {s} {via} {to} {ls} {ms} a b = record {
    on = λ n more rest.
        ap (λ (x : List (List ℕ)). walk g n s x rest) (append_assoc ls ms more) ∙ a.on n (ms ++ more) rest ∙ b.on (n + length ls) more rest
        ∙ ap (λ (k : ℕ). walk g k to more rest) (omega (arith, length-append ls ms));
  }

  -- a line of the place that comes next
  pub reach_line : (s : Said) (p : Place Said) (l : List ℕ) (to : Said) → next g s l ≡ comes p → LineOf p l to → Reaches s (l ∷ []) to
  unfolding step
  reach_line s p l to e d = reach_one s l to (ap (λ (n : Next). line_said n l) e ∙ line_says p l to d)

  -- Labels.

  pub reach_vol1 : (o : OwnerSays) (s a : List ℕ) → VolumeFits o s a → Reaches start (vol1_image o s a ∷ []) (volume o s)
  reach_vol1 (numbered n) s a k =
      reach_line start (stands vol1_sun (λ s free n. volume (numbered n) s)) (vol1_image (numbered n) s a) (volume (numbered n) s)
      (this (has_sun (vol1_image (numbered n) s a)) true _ _ (sun_shows n s a k)) (line_at vol1_sun _ (s, (a, (n, tt))) (k.serial, (k.access, (k.owner, tt))))
  reach_vol1 (marked m) s a k =
      reach_line start (stands vol1_marked (λ s free m. volume (marked m) s)) (vol1_image (marked m) s a) (volume (marked m) s)
      (this (has_sun (vol1_image (marked m) s a)) false _ _ (mark_shows m s a k)) (line_at vol1_marked _ (s, (a, (m, tt))) (k.serial, (k.access, (k.owner, tt))))

  pub reach_hdr1 : (o : OwnerSays) (s : List ℕ) (h : Hdr1) → Allowed serial s → HeaderFits o h → Reaches (volume o s) (hdr1_image o s h ∷ []) (header o s h)
  reach_hdr1 o s h k a =
      reach_line (volume o s) (stands (hdr1_layout (user_places o) s) (λ u v w again y z c e a. header o s (header_says u v w again y z c e a))) (hdr1_image o s h) (header o s h)
      refl (line_at (hdr1_layout (user_places o) s) _ (header_values o s h) (header_allowed o s h k a))

  reach_hdr2 : (o : OwnerSays) (s : List ℕ) (h : Hdr1) (multi : Bool) → SizeFits g.service multi → Reaches (header o s h) (hdr2_image g.service multi ∷ []) (sized o s h multi)
  reach_hdr2 o s h true a =
      reach_line (header o s h) (stands (hdr2 g.service) (λ long. sized o s h (names_multi long))) (hdr2_image g.service true) (sized o s h true) refl
      (line_at (hdr2 g.service) _ (record_length_text true, tt) (a, tt))
  reach_hdr2 o s h false a =
      reach_line (header o s h) (stands (hdr2 g.service) (λ long. sized o s h (names_multi long))) (hdr2_image g.service false) (sized o s h false) refl
      (line_at (hdr2 g.service) _ (record_length_text false, tt) (a, tt))

  pub reach_sized : (o : OwnerSays) (s a : List ℕ) (h : Hdr1) (multi : Bool) → SizedFits g.service o s a h multi → Reaches start (vol1_image o s a ∷ hdr1_image o s h ∷ hdr2_image g.service multi ∷ []) (sized o s h multi)
  reach_sized o s a h multi k =
      reach_then (reach_vol1 o s a k.volume) (reach_then (reach_hdr1 o s h k.volume.serial k.header) (reach_hdr2 o s h multi k.size))

  reach_uhl1 : (t : Top) (f : Hdr1Free) (x : Spare) → LabelsFit g t f x → Reaches (sized t.owner t.serial (header_of t f) t.multi) (uhl1_image g t x ∷ []) (paid t f none)
  reach_uhl1 t f x a =
      let w = uhl1_layout (processing_day g.service g.opening t.creation t.expiry g.opens) (work g.service t.multi) in
      reach_line (sized t.owner t.serial (header_of t f) t.multi)
      (stands w (λ d code n audit spare. paid (top t.owner t.serial (header_of t f) t.multi d n) f none)) (uhl1_image g t x) (paid t f none) refl
      (line_at w _ (user_values g t x) (user_allowed g t x f a))

  pub reach_labels : (t : Top) (f : Hdr1Free) (x : Spare) → LabelsFit g t f x → Reaches start (label_lines g t f x) (paid t f none)
  reach_labels t f x a = reach_then (reach_sized t.owner t.serial x.access (header_of t f) t.multi a.sized) (reach_uhl1 t f x a)

  -- Trailers.

  pub reach_eof1 : (h : Heading) (f : Hdr1Free) (bs : List Batch) → Allowed serial h.top.serial → HeaderFits h.top.owner (header_of h.top f) → Reaches (paid h.top f (closed h.originator h.narrative bs)) (eof1_image h.top f ∷ []) (ended1 h f bs)
  reach_eof1 h f bs k a =
      let t = h.top in
      reach_line (paid t f (closed h.originator h.narrative bs))
      (stands (eof1 t.serial (header_of t f)) (λ u v w s y z c e a. ended1 h f bs)) (eof1_image t f) (ended1 h f bs)
      (this (t.multi && not (is_eof1 (eof1_image t f))) false _ _ (and_right t.multi _ (not_from_true _ (eof1_shows t f))))
      (line_at (eof1 t.serial (header_of t f)) _ (eof1_values (record { serial = t.serial; header = header_of t f })) (eof1_allowed t f k a))

  pub reach_eof2 : (h : Heading) (f : Hdr1Free) (bs : List Batch) → Reaches (ended1 h f bs) (eof2_image h.top ∷ []) (ended2 h f bs)
  reach_eof2 h f bs =
      reach_line (ended1 h f bs) (stands (eof2 h.top.multi) (λ long. ended2 h f bs)) (eof2_image h.top) (ended2 h f bs) refl
      (line_at (eof2 h.top.multi) _ (record_length_text h.top.multi, tt) (eof2_allowed h.top.multi))

  pub reach_utl1 : (h : Heading) (f : Hdr1Free) (x : Spare) (bs : List Batch) → FileFits g h f x bs → Reaches (ended2 h f bs) (utl1_image g.service bs ∷ []) (whole h f bs)
  reach_utl1 h f x bs a =
      let t = utl1 (closing_of g.service bs) in
      reach_line (ended2 h f bs) (stands t (λ dt ct dc cc. whole h f bs)) (utl1_image g.service bs) (whole h f bs) refl
      (line_at t _ (file_total bs, (file_total bs, (debit_count_of g.service bs, (credit_count_of g.service bs, tt)))) (utl1_allowed g.service bs a.total a.debits a.credits))
