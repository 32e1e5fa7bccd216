-- What fits a line is allowed by the table that the line is laid out by.
use Rattle.std.proofs.Common.{◌≡◌, ℕ, ◌^◌, ◌<◌, Bool, true, false, eqb, List, [], length, Some, refl}
use Rattle.std.specs.Str.{bytes_eq}
use Rattle.std.proofs.lemmas.Slice.Eq.{bytes_eq-Decides}
use Rattle.std.proofs.lemmas.Bool.{eq-eqb}
use Rattle.terms.specs.declared.service.Service.{Service}
use Rattle.terms.specs.declared.service.Service.TheVariants.{Credits, Debits, FasterPayments}
use Rattle.tables.specs.Forms.{Within}
use Rattle.tables.specs.Forms.Form.{dates}
use Rattle.tables.specs.Kinds.{Allowed, Rule}
use Rattle.tables.specs.Lines.{AllAllowed, Values}
use Rattle.fields.specs.Words.{serial}
use Rattle.places.specs.Given.{day_given, letters_given}
use Rattle.labels.specs.declared.header.Hdr1.{Hdr1}
use Rattle.labels.specs.declared.header.Hdr1Free.{Hdr1Free}
use Rattle.labels.specs.Headers.{hdr1_layout, record_length_text}
use Rattle.labels.specs.Users.{processing_day, uhl1_layout, work}
use Rattle.labels.specs.Volumes.{OwnerSays}
use Rattle.trailers.specs.Closings.{eof2, utl1}
use Rattle.trailers.specs.Repeats.{eof1, eof1_values}
use Rattle.grammar.specs.Files.{HeaderFits, LabelsFit, Spare}
use Rattle.grammar.specs.Headings.{Batch, Setting, Top, closing_of, credit_count_of, debit_count_of, file_total, header_of, user_places}

-- What earlier lines fix is allowed where it is fixed.

pub same_bytes : (bs : List ℕ) → bytes_eq bs bs ≡ true
same_bytes bs = (bytes_eq-Decides bs bs).1 refl

pub bytes_fit : (w : ℕ) (rs : List (Rule (List ℕ))) (bs : List ℕ) → length bs ≡ w → Allowed (letters_given w rs (Some bs)) bs
bytes_fit w rs bs e = (e, (same_bytes bs, tt))

pub day_fits : (day : ℕ) → Within dates day → Allowed (day_given [] (Some day)) day
day_fits day a = (a, (eq-eqb day day refl, tt))

-- HDR1

abbrev pub header_values : (o : OwnerSays) (s : List ℕ) (h : Hdr1) → Values (hdr1_layout (user_places o) s)
header_values o s h =
    let f = h.free in
    (f.user, (f.version, (f.user_again, (s, (f.spare4, (f.spare2, (h.creation, (h.expiry, (f.access, tt)))))))))

pub header_allowed : (o : OwnerSays) (s : List ℕ) (h : Hdr1) → Allowed serial s → HeaderFits o h → AllAllowed (hdr1_layout (user_places o) s) (header_values o s h)
header_allowed o s h k a =
    (a.user, (a.version, (a.user_again, (bytes_fit 6 [] s k.0, (a.spare4, (a.spare2, (a.creation, (a.expiry, (a.access, tt)))))))))

-- UHL1

nine : (g : Service) (multi : Bool) → length (work g multi) ≡ 9
nine Credits true = refl
nine Credits false = refl
nine Debits true = refl
nine Debits false = refl
nine FasterPayments multi = refl

module _ (g : Setting) (t : Top) (x : Spare) where
  abbrev pub user_values : Values (uhl1_layout (processing_day g.service g.opening t.creation t.expiry g.opens) (work g.service t.multi))
  user_values = (t.processing, (work g.service t.multi, (t.number, (x.audit, (x.spare, tt)))))

  pub user_allowed : (f : Hdr1Free) → LabelsFit g t f x → AllAllowed (uhl1_layout (processing_day g.service g.opening t.creation t.expiry g.opens) (work g.service t.multi)) user_values
  user_allowed f a =
      let code = work g.service t.multi in
      (a.processing, ((nine g.service t.multi, (same_bytes code, tt)), (a.number, (a.audit, (a.spare, tt)))))

-- EOF1 repeats HDR1, and EOF2 the length of a record.

pub eof1_allowed : (t : Top) (f : Hdr1Free) → Allowed serial t.serial → HeaderFits t.owner (header_of t f) → AllAllowed (eof1 t.serial (header_of t f)) (eof1_values (record { serial = t.serial; header = header_of t f }))
eof1_allowed t f k a =
    let user = bytes_fit 6 [] f.user a.user.0 in
    let version = bytes_fit 1 [] f.version a.version.0 in
    let again = bytes_fit 6 [] f.user_again a.user_again.0 in
    let serial = bytes_fit 6 [] t.serial k.0 in
    let spare4 = bytes_fit 4 [] f.spare4 a.spare4.0 in
    let spare2 = bytes_fit 2 [] f.spare2 a.spare2.0 in
    let creation = day_fits t.creation a.creation.0 in
    let expiry = day_fits t.expiry a.expiry.0 in
    let access = bytes_fit 1 [] f.access a.access.0 in
    (user, (version, (again, (serial, (spare4, (spare2, (creation, (expiry, (access, tt)))))))))

pub eof2_allowed : (multi : Bool) → AllAllowed (eof2 multi) (record_length_text multi, tt)
eof2_allowed true = ((refl, (refl, tt)), tt)
eof2_allowed false = ((refl, (refl, tt)), tt)

-- UTL1

pub utl1_allowed : (g : Service) (bs : List Batch) → file_total bs < 10 ^ 13 → debit_count_of g bs < 10 ^ 7 → credit_count_of g bs < 10 ^ 7 → AllAllowed (utl1 (closing_of g bs)) (file_total bs, (file_total bs, (debit_count_of g bs, (credit_count_of g bs, tt))))
utl1_allowed g bs t d c =
    let total = file_total bs in
    let same : eqb total total ≡ true = eq-eqb total total refl in
    ((t, (same, tt)), ((t, (same, tt)), ((d, (eq-eqb (debit_count_of g bs) (debit_count_of g bs) refl, tt)), ((c, (eq-eqb (credit_count_of g bs) (credit_count_of g bs) refl, tt)), tt))))
