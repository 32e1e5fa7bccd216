-- The parts of each kind of line, and where they stand.
use Rattle.std.specs.Prelude.{◌≡◌, ℕ, ◌-◌, cond, List, length, Ok, Err, Result, ◌==◌}
use Rattle.terms.specs.declared.cause.InputCause.{InputCause}
use Rattle.terms.specs.declared.cause.InputCause.TheVariants.{WrongLength}
use Rattle.tables.specs.Walks.{part}
use Rattle.parts.specs.Kinds.{line_length}
use Rattle.parts.specs.declared.kind.LineKind.{LineKind}
use Rattle.parts.specs.declared.kind.LineKind.TheVariants as kind
use Rattle.parts.specs.declared.line.LineParts.{LineParts}
use Rattle.parts.specs.declared.line.LineParts.TheVariants.{Vol1, Hdr1, Hdr2, Uhl1, Payment, Contra, Eof1, Eof2, Utl1}

-- what the parts of a line say
pub data Says : Type 0 where
  vol1 : (serial mark sun : List ℕ) → Says
  hdr1 : (serial creation expiry : List ℕ) → Says
  hdr2 : (record_length : List ℕ) → Says
  uhl1 : (processing_day work_code file_number : List ℕ) → Says
  payment : (sort_code account code originator_sort_code originator_account free_format amount originator_name reference name day : List ℕ) → Says
  contra : (sort_code account code originator_sort_code originator_account amount narrative originator_name day : List ℕ) → Says
  eof1 : (serial creation expiry : List ℕ) → Says
  eof2 : (record_length : List ℕ) → Says
  utl1 : (debit_total credit_total debit_count credit_count : List ℕ) → Says

abbrev pub says : LineParts → Says
says (Vol1 s m u) = vol1 s.now m.now u.now
says (Hdr1 s c e) = hdr1 s.now c.now e.now
says (Hdr2 l) = hdr2 l.now
says (Uhl1 d w f) = uhl1 d.now w.now f.now
says (Payment s a c os oa f p o r n d) = payment s.now a.now c.now os.now oa.now f.now p.now o.now r.now n.now d.now
says (Contra s a c os oa p n o d) = contra s.now a.now c.now os.now oa.now p.now n.now o.now d.now
says (Eof1 s c e) = eof1 s.now c.now e.now
says (Eof2 l) = eof2 l.now
says (Utl1 dt ct dc cc) = utl1 dt.now ct.now dc.now cc.now

-- Where each part stands, in the order of the parts: `part from to` has the places from + 1 to `to`, which count from 1.

-- in a record that ends at a place: its day is what follows place 100
abbrev pub payment_parts : ℕ → List ℕ → Says
payment_parts end bs =
    payment (part 0 6 bs) (part 6 14 bs) (part 15 17 bs)
    (part 17 23 bs) (part 23 31 bs)
    (part 31 35 bs) (part 35 46 bs)
    (part 46 64 bs) (part 64 82 bs) (part 82 100 bs)
    (part 100 end bs)

abbrev pub contra_parts : ℕ → List ℕ → Says
contra_parts end bs =
    contra (part 0 6 bs) (part 6 14 bs) (part 15 17 bs)
    (part 17 23 bs) (part 23 31 bs)
    (part 35 46 bs)
    (part 46 64 bs) (part 82 100 bs)
    (part 100 end bs)

abbrev pub parts_of : LineKind → List ℕ → Says
parts_of kind.Vol1 bs = vol1 (part 4 10 bs) (part 31 37 bs) (part 41 47 bs)
parts_of kind.Hdr1 bs = hdr1 (part 21 27 bs) (part 41 47 bs) (part 47 53 bs)
parts_of kind.Hdr2 bs = hdr2 (part 10 15 bs)
parts_of kind.Uhl1 bs = uhl1 (part 4 10 bs) (part 28 37 bs) (part 37 40 bs)
parts_of kind.Payment bs = payment_parts 100 bs
parts_of kind.DatedPayment bs = payment_parts 106 bs
parts_of kind.Contra bs = contra_parts 100 bs
parts_of kind.DatedContra bs = contra_parts 106 bs
parts_of kind.Eof1 bs = eof1 (part 21 27 bs) (part 41 47 bs) (part 47 53 bs)
parts_of kind.Eof2 bs = eof2 (part 10 15 bs)
parts_of kind.Utl1 bs = utl1 (part 4 17 bs) (part 17 30 bs) (part 30 37 bs) (part 37 44 bs)

-- the parts of a line that is as long as its kind
abbrev pub parts_reading : LineKind → List ℕ → Result Says InputCause
parts_reading k bs = cond (length bs == line_length k) (Ok (parts_of k bs)) (Err WrongLength)

-- how long each part is in a line of n bytes
abbrev pub Sized : ℕ → LineParts → Type 0
Sized n (Vol1 s m u) = (length s.now ≡ 6) × (length m.now ≡ 6) × (length u.now ≡ 6)
Sized n (Hdr1 s c e) = (length s.now ≡ 6) × (length c.now ≡ 6) × (length e.now ≡ 6)
Sized n (Hdr2 l) = length l.now ≡ 5
Sized n (Uhl1 d w f) = (length d.now ≡ 6) × (length w.now ≡ 9) × (length f.now ≡ 3)
Sized n (Payment s a c os oa f p o r m d) =
    (length s.now ≡ 6) × (length a.now ≡ 8) × (length c.now ≡ 2)
    × (length os.now ≡ 6) × (length oa.now ≡ 8)
    × (length f.now ≡ 4) × (length p.now ≡ 11)
    × (length o.now ≡ 18) × (length r.now ≡ 18) × (length m.now ≡ 18)
    × (length d.now ≡ n - 100)
Sized n (Contra s a c os oa p m o d) =
    (length s.now ≡ 6) × (length a.now ≡ 8) × (length c.now ≡ 2)
    × (length os.now ≡ 6) × (length oa.now ≡ 8)
    × (length p.now ≡ 11)
    × (length m.now ≡ 18) × (length o.now ≡ 18)
    × (length d.now ≡ n - 100)
Sized n (Eof1 s c e) = (length s.now ≡ 6) × (length c.now ≡ 6) × (length e.now ≡ 6)
Sized n (Eof2 l) = length l.now ≡ 5
Sized n (Utl1 dt ct dc cc) = (length dt.now ≡ 13) × (length ct.now ≡ 13) × (length dc.now ≡ 7) × (length cc.now ≡ 7)
