-- A label or trailer more: what is said then fits, with that line more.
use Rattle.std.proofs.Common.{◌≡◌, ℕ, ◌^◌, ◌<◌, Bool, true, false, cond, List, [], ◌∷◌, ◌++◌, codes, sym, refl, ap, ◌∙◌, subst, inl, inr, append_assoc}
use Rattle.std.specs.Str.{bytes_eq}
use Rattle.std.proofs.lemmas.Slice.Eq.{bytes_eq-Decides}
use Rattle.std.proofs.lemmas.Bool.{eqb-true, false≢true, or_cases}
use Rattle.terms.specs.declared.service.Service.{Service}
use Rattle.terms.specs.declared.service.Service.TheVariants.{Credits, Debits, FasterPayments}
use Rattle.tables.specs.Kinds.{Allowed}
use Rattle.tables.specs.Lines.{line}
use Rattle.fields.specs.Characters.{one_of}
use Rattle.fields.specs.Words.{choice}
use Rattle.lines.specs.Places.{stands}
use Rattle.labels.specs.declared.header.Hdr1.{Hdr1}
use Rattle.labels.specs.declared.header.Hdr1Free.{Hdr1Free}
use Rattle.labels.specs.Headers.{hdr1_layout, hdr2, header as header_says, lengths, record_length_text}
use Rattle.labels.specs.Users.{processing_day, uhl1_layout, work}
use Rattle.labels.specs.Volumes.{OwnerSays, vol1_marked, vol1_sun}
use Rattle.labels.specs.Volumes.OwnerSays.{numbered, marked}
use Rattle.trailers.specs.Closings.{eof2, utl1}
use Rattle.trailers.specs.Repeats.{eof1}
use Rattle.grammar.specs.Files.{BegunFits, ClosedFits, Fits, SizedFits, Spare, VolumeFits, closed_lines, eof1_image, eof2_image, hdr1_image, hdr2_image, lines_of, utl1_image, vol1_image}
use Rattle.grammar.specs.Headings.{Batch, Heading, Setting, closing_of, credit_count_of, debit_count_of, file_total, header_of, user_places}
use Rattle.grammar.specs.Next.{Said, names_multi, top}
use Rattle.grammar.specs.Next.Paid.{none, closed}
use Rattle.grammar.specs.Next.Said.{start, volume, header, sized, paid, ended1, ended2, whole}
use Rattle.grammar.proofs.Records.{Each}

-- with the line l more, `to` is said and fits, the free places of VOL1 and UHL1 being those of the lines
pub record Grown (g : Setting) (x : Spare) (s : Said) (l : List ℕ) (to : Said) : Type 0 where
  pub spare : Spare
  pub fits : Fits g spare to
  pub is : lines_of g spare to ≡ lines_of g x s ++ l ∷ []

-- the length of a record says whether a file is multi-day
said_by : (v c : List ℕ) → record_length_text (names_multi c) ≡ c → bytes_eq v c ≡ true → record_length_text (names_multi v) ≡ v
said_by v c h e = subst (λ (z : List ℕ). record_length_text (names_multi z) ≡ z) (sym ((bytes_eq-Decides v c).0 e)) h

either_length : (v : List ℕ) → one_of (codes "00100" ∷ codes "00106" ∷ []) v ≡ true → record_length_text (names_multi v) ≡ v
either_length v h = elim (or_cases (bytes_eq v (codes "00100")) (one_of (codes "00106" ∷ []) v) h) [
  | inl e ↦ said_by v (codes "00100") refl e
  | inr k ↦ elim (or_cases (bytes_eq v (codes "00106")) (one_of [] v) k) [ inl e ↦ said_by v (codes "00106") refl e | inr e ↦ absurd (false≢true e) ]
]

length_said : (g : Service) (v : List ℕ) → one_of (lengths g) v ≡ true → record_length_text (names_multi v) ≡ v
length_said Credits v h = either_length v h
length_said Debits v h = either_length v h
length_said FasterPayments v h = elim (or_cases (bytes_eq v (codes "00100")) (one_of [] v) h) [
  | inl e ↦ said_by v (codes "00100") refl e
  | inr e ↦ absurd (false≢true e)
]

module _ (g : Setting) (x : Spare) where
  pub each_vol1 : (sun : Bool) → Each (cond sun (stands vol1_sun (λ s free n. volume (numbered n) s)) (stands vol1_marked (λ s free m. volume (marked m) s))) (Grown g x start)
  unfolding lines_of
  each_vol1 true (s, (a, (n, u))) (ks, (ka, (kn, w))) =
      record { spare = record { access = a; audit = x.audit; spare = x.spare }; fits = record { owner = kn; serial = ks; access = ka }; is = refl }
  each_vol1 false (s, (a, (m, u))) (ks, (ka, (km, w))) =
      record { spare = record { access = a; audit = x.audit; spare = x.spare }; fits = record { owner = km; serial = ks; access = ka }; is = refl }

  pub each_hdr1 : (o : OwnerSays) (s : List ℕ) → VolumeFits o s x.access → Each (stands (hdr1_layout (user_places o) s) (λ u v w again y z c e a. header o s (header_says u v w again y z c e a))) (Grown g x (volume o s))
  unfolding lines_of
  each_hdr1 o s fits (u, (v, (w, (again, (y, (z, (c, (e, (a, k))))))))) (ku, (kv, (kw, (kagain, (ky, (kz, (kc, (ke, (ka, kk))))))))) = record {
    spare = x;
    fits = record {
      volume = fits;
      header = record { user = ku; version = kv; user_again = kw; spare4 = ky; spare2 = kz; creation = kc; expiry = ke; access = ka };
    };
    is =
        ap (λ (bs : List ℕ). vol1_image o s x.access ∷ line (hdr1_layout (user_places o) s) (u, (v, (w, (bs, (y, (z, (c, (e, (a, tt))))))))) ∷ [])
        (sym ((bytes_eq-Decides again s).0 kagain.1.0));
  }

  pub each_hdr2 : (o : OwnerSays) (s : List ℕ) (h : Hdr1) → BegunFits o s x.access h → Each (stands (hdr2 g.service) (λ long. sized o s h (names_multi long))) (Grown g x (header o s h))
  unfolding lines_of
  each_hdr2 o s h fits (long, u) (k, w) =
      let same = length_said g.service long k.1.0 in
      record {
        spare = x;
        fits = record { volume = fits.volume; header = fits.header; size = subst (Allowed (choice 5 (lengths g.service))) (sym same) k };
        is = ap (λ (bs : List ℕ). vol1_image o s x.access ∷ hdr1_image o s h ∷ line (hdr2 g.service) (bs, tt) ∷ []) same;
      }

  pub each_uhl1 : (o : OwnerSays) (s : List ℕ) (h : Hdr1) (multi : Bool) → SizedFits g.service o s x.access h multi → Each (stands (uhl1_layout (processing_day g.service g.opening h.creation h.expiry g.opens) (work g.service multi)) (λ d code n audit spare. paid (top o s h multi d n) h.free none)) (Grown g x (sized o s h multi))
  unfolding lines_of
  each_uhl1 o s h multi fits (d, (code, (n, (audit, (spare, u))))) (kd, (kcode, (kn, (kaudit, (kspare, w))))) =
      let t = uhl1_layout (processing_day g.service g.opening h.creation h.expiry g.opens) (work g.service multi) in
      record {
        spare = record { access = x.access; audit = audit; spare = spare };
        fits = record { sized = fits; processing = kd; number = kn; audit = kaudit; spare = kspare };
        is =
            ap (λ (bs : List ℕ). vol1_image o s x.access ∷ hdr1_image o s h ∷ hdr2_image g.service multi ∷ line t (d, (bs, (n, (audit, (spare, tt))))) ∷ [])
            (sym ((bytes_eq-Decides code (work g.service multi)).0 kcode.1.0));
      }

  module _ (h : Heading) (f : Hdr1Free) (bs : List Batch) (fits : ClosedFits g h f x bs) where
    abbrev front : List (List ℕ)
    front = closed_lines g h.top f x h.originator h.narrative bs

    pub each_eof1 : Each (stands (eof1 h.top.serial (header_of h.top f)) (λ u v w s y z c e a. ended1 h f bs)) (Grown g x (paid h.top f (closed h.originator h.narrative bs)))
    unfolding lines_of
    each_eof1 (u, (v, (w, (s, (y, (z, (c, (e, (a, r))))))))) (ku, (kv, (kw, (ks, (ky, (kz, (kc, (ke, (ka, kr))))))))) =
        let t = h.top in
        let e1 : u ≡ f.user = (bytes_eq-Decides u f.user).0 ku.1.0 in
        let e2 : v ≡ f.version = (bytes_eq-Decides v f.version).0 kv.1.0 in
        let e3 : w ≡ f.user_again = (bytes_eq-Decides w f.user_again).0 kw.1.0 in
        let e4 : s ≡ t.serial = (bytes_eq-Decides s t.serial).0 ks.1.0 in
        let e5 : y ≡ f.spare4 = (bytes_eq-Decides y f.spare4).0 ky.1.0 in
        let e6 : z ≡ f.spare2 = (bytes_eq-Decides z f.spare2).0 kz.1.0 in
        let e7 : c ≡ t.creation = eqb-true c t.creation kc.1.0 in
        let e8 : e ≡ t.expiry = eqb-true e t.expiry ke.1.0 in
        let e9 : a ≡ f.access = (bytes_eq-Decides a f.access).0 ka.1.0 in
        let same : eof1_image t f ≡ line (eof1 t.serial (header_of t f)) (u, (v, (w, (s, (y, (z, (c, (e, (a, tt))))))))) = cc in
        record { spare = x; fits = fits; is = ap (λ (l : List ℕ). front ++ l ∷ []) same }

    pub each_eof2 : Each (stands (eof2 h.top.multi) (λ long. ended2 h f bs)) (Grown g x (ended1 h f bs))
    unfolding lines_of
    each_eof2 (long, u) (k, w) = record {
      spare = x;
      fits = fits;
      is =
          ap (λ (v : List ℕ). front ++ eof1_image h.top f ∷ line (eof2 h.top.multi) (v, tt) ∷ []) (sym ((bytes_eq-Decides long (record_length_text h.top.multi)).0 k.1.0))
          ∙ sym (append_assoc front (eof1_image h.top f ∷ []) (line (eof2 h.top.multi) (long, tt) ∷ []));
    }

    pub each_utl1 : Each (stands (utl1 (closing_of g.service bs)) (λ dt ct dc cc. whole h f bs)) (Grown g x (ended2 h f bs))
    unfolding lines_of
    each_utl1 (dt, (ct, (dc, (cn, u)))) (kdt, (kct, (kdc, (kcn, w)))) =
        let t = utl1 (closing_of g.service bs) in
        let e1 : dt ≡ file_total bs = eqb-true dt (file_total bs) kdt.1.0 in
        let e2 : ct ≡ file_total bs = eqb-true ct (file_total bs) kct.1.0 in
        let e3 : dc ≡ debit_count_of g.service bs = eqb-true dc (debit_count_of g.service bs) kdc.1.0 in
        let e4 : cn ≡ credit_count_of g.service bs = eqb-true cn (credit_count_of g.service bs) kcn.1.0 in
        let same : utl1_image g.service bs ≡ line t (dt, (ct, (dc, (cn, tt)))) = cc in
        record {
          spare = x;
          fits = record {
            closed = fits;
            total = subst (λ (n : ℕ). n < 10 ^ 13) e1 kdt.0;
            debits = subst (λ (n : ℕ). n < 10 ^ 7) e3 kdc.0;
            credits = subst (λ (n : ℕ). n < 10 ^ 7) e4 kcn.0;
          };
          is =
              ap (λ (l : List ℕ). front ++ eof1_image h.top f ∷ eof2_image h.top ∷ l ∷ []) same
              ∙ sym (append_assoc front (eof1_image h.top f ∷ eof2_image h.top ∷ []) (line t (dt, (ct, (dc, (cn, tt)))) ∷ []));
        }
