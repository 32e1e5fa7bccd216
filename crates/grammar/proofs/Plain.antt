-- No line of a label or trailer holds a line feed.
use Rattle.std.proofs.Common.{◌≡◌, ℕ, ◌^◌, ◌<◌, Bool, true, false, List, [], ◌∷◌, codes, sym, refl, subst}
use Rattle.std.proofs.lemmas.Slice.Eq.{bytes_eq-Decides}
use Rattle.terms.specs.declared.service.Service.{Service}
use Rattle.terms.specs.declared.service.Service.TheVariants.{Credits, Debits, FasterPayments}
use Rattle.tables.specs.Forms.Form.{decimals}
use Rattle.tables.specs.Kinds.{Allowed}
use Rattle.fields.specs.Words.{blank, choice, serial}
use Rattle.lines.specs.Feeds.{plain}
use Rattle.places.proofs.Unbroken.{PlainKind, PlainLines, choice_plain, given_plain, line_plain, serial_plain, shown_plain, spare_plain}
use Rattle.labels.specs.declared.header.Hdr1.{Hdr1}
use Rattle.labels.specs.declared.header.Hdr1Free.{Hdr1Free}
use Rattle.labels.specs.Headers.{hdr1_layout, hdr2, lengths, record_length_text, user_field}
use Rattle.labels.specs.Users.{only, processing_day, uhl1_layout, work}
use Rattle.labels.specs.Volumes.{OwnerSays, vol1_marked, vol1_sun}
use Rattle.labels.specs.Volumes.OwnerSays.{numbered, marked}
use Rattle.trailers.specs.Closings.{eof2, utl1}
use Rattle.trailers.specs.Repeats.{eof1, eof1_values}
use Rattle.grammar.specs.Files.{HeaderFits, LabelsFit, SizeFits, Spare, VolumeFits, eof1_image, eof2_image, hdr1_image, hdr2_image, label_lines, uhl1_image, utl1_image, vol1_image}
use Rattle.grammar.specs.Headings.{Batch, Setting, Top, closing_of, credit_count_of, debit_count_of, file_total, header_of, user_places}
use Rattle.grammar.proofs.Contents.{eof1_allowed, eof2_allowed, header_allowed, header_values, user_allowed, user_values, utl1_allowed}

-- one place that is blank or the given digit
free_plain : (bs : List ℕ) → plain bs ≡ true → PlainKind (choice 1 (blank 1 ∷ bs ∷ []))
free_plain bs p = choice_plain 1 (blank 1 ∷ bs ∷ []) (refl, (p, tt))

places_plain : (o : OwnerSays) → plain (user_places o) ≡ true
places_plain (numbered n) = shown_plain (decimals 6) n
places_plain (marked m) = refl

user_plain : (o : OwnerSays) → PlainKind (user_field (user_places o))
user_plain o = choice_plain 6 (blank 6 ∷ user_places o ∷ []) (refl, (places_plain o, tt))

pub vol1_plain : (o : OwnerSays) (s a : List ℕ) → VolumeFits o s a → plain (vol1_image o s a) ≡ true
vol1_plain (numbered n) s a k =
    line_plain vol1_sun (s, (a, (n, tt))) (refl, (serial_plain, (free_plain (codes "0") refl, (refl, (refl, (refl, (tt, (refl, (refl, tt))))))))) (k.serial, (k.access, (k.owner, tt)))
vol1_plain (marked m) s a k =
    let mark = choice_plain 6 (codes "HSBC  " ∷ codes "SAGE  " ∷ []) (refl, (refl, tt)) in
    line_plain vol1_marked (s, (a, (m, tt))) (refl, (serial_plain, (free_plain (codes "0") refl, (refl, (mark, (refl, (refl, (refl, (refl, tt))))))))) (k.serial, (k.access, (k.owner, tt)))

pub hdr1_plain : (o : OwnerSays) (s : List ℕ) (h : Hdr1) → Allowed serial s → HeaderFits o h → plain (hdr1_image o s h) ≡ true
hdr1_plain o s h k a =
    line_plain (hdr1_layout (user_places o) s) (header_values o s h)
    (refl, (user_plain o, (refl, (refl, (free_plain (codes "1") refl, (user_plain o, (given_plain 6 [] s (serial_plain s k.1), (refl, (spare_plain 4, (spare_plain 2, (tt, (tt, (free_plain (codes "0") refl, (refl, (refl, tt)))))))))))))))
    (header_allowed o s h k a)

lengths_plain : (g : Service) → PlainLines (lengths g)
lengths_plain Credits = (refl, (refl, tt))
lengths_plain Debits = (refl, (refl, tt))
lengths_plain FasterPayments = (refl, tt)

pub hdr2_plain : (g : Service) (multi : Bool) → SizeFits g multi → plain (hdr2_image g multi) ≡ true
hdr2_plain g multi a = line_plain (hdr2 g) (record_length_text multi, tt) (refl, (choice_plain 5 (lengths g) (lengths_plain g), (refl, (refl, (refl, tt))))) (a, tt)

work_plain : (g : Service) (multi : Bool) → plain (work g multi) ≡ true
work_plain Credits true = refl
work_plain Credits false = refl
work_plain Debits true = refl
work_plain Debits false = refl
work_plain FasterPayments multi = refl

only_plain : (w : ℕ) (bs : List ℕ) → plain bs ≡ true → PlainKind (only w bs)
only_plain w bs p v k = subst (λ (l : List ℕ). plain l ≡ true) (sym ((bytes_eq-Decides v bs).0 k.0)) p

uhl1_plain : (g : Setting) (t : Top) (f : Hdr1Free) (x : Spare) → LabelsFit g t f x → plain (uhl1_image g t x) ≡ true
uhl1_plain g t f x a =
    let code = work g.service t.multi in
    let audit = choice_plain 3 (blank 3 ∷ codes "AUD" ∷ []) (refl, (refl, tt)) in
    line_plain (uhl1_layout (processing_day g.service g.opening t.creation t.expiry g.opens) code) (user_values g t x)
    (refl, (tt, (refl, (refl, (refl, (only_plain 9 code (work_plain g.service t.multi), (tt, (refl, (audit, (spare_plain 4, (refl, tt))))))))))) (user_allowed g t x f a)

pub labels_plain : (g : Setting) (t : Top) (f : Hdr1Free) (x : Spare) → LabelsFit g t f x → PlainLines (label_lines g t f x)
labels_plain g t f x a =
    let s = a.sized in
    let vol1 = vol1_plain t.owner t.serial x.access s.volume in
    let hdr1 = hdr1_plain t.owner t.serial (header_of t f) s.volume.serial s.header in
    let hdr2 = hdr2_plain g.service t.multi s.size in
    (vol1, (hdr1, (hdr2, (uhl1_plain g t f x a, tt))))

-- EOF1 holds what HDR1 holds.
pub eof1_plain : (t : Top) (f : Hdr1Free) → Allowed serial t.serial → HeaderFits t.owner (header_of t f) → plain (eof1_image t f) ≡ true
eof1_plain t f k a =
    let user = given_plain 6 [] f.user (user_plain t.owner f.user a.user.1) in
    let version = given_plain 1 [] f.version (free_plain (codes "1") refl f.version a.version.1) in
    let again = given_plain 6 [] f.user_again (user_plain t.owner f.user_again a.user_again.1) in
    let serial = given_plain 6 [] t.serial (serial_plain t.serial k.1) in
    let spare4 = given_plain 4 [] f.spare4 (spare_plain 4 f.spare4 a.spare4.1) in
    let spare2 = given_plain 2 [] f.spare2 (spare_plain 2 f.spare2 a.spare2.1) in
    let access = given_plain 1 [] f.access (free_plain (codes "0") refl f.access a.access.1) in
    line_plain (eof1 t.serial (header_of t f)) (eof1_values (record { serial = t.serial; header = header_of t f }))
    (refl, (refl, (user, (refl, (refl, (version, (again, (serial, (refl, (spare4, (spare2, (tt, (tt, (access, (refl, (refl, tt))))))))))))))))
    (eof1_allowed t f k a)

length_plain : (multi : Bool) → plain (record_length_text multi) ≡ true
length_plain true = refl
length_plain false = refl

pub eof2_plain : (t : Top) → plain (eof2_image t) ≡ true
eof2_plain t =
    line_plain (eof2 t.multi) (record_length_text t.multi, tt)
    (refl, (refl, (given_plain 5 [] (record_length_text t.multi) (length_plain t.multi), (refl, (refl, (refl, tt)))))) (eof2_allowed t.multi)

pub utl1_plain : (g : Service) (bs : List Batch) → file_total bs < 10 ^ 13 → debit_count_of g bs < 10 ^ 7 → credit_count_of g bs < 10 ^ 7 → plain (utl1_image g bs) ≡ true
utl1_plain g bs t d c =
    line_plain (utl1 (closing_of g bs)) (file_total bs, (file_total bs, (debit_count_of g bs, (credit_count_of g bs, tt)))) (refl, (tt, (tt, (tt, (tt, (refl, tt)))))) (utl1_allowed g bs t d c)
