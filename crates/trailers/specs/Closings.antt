-- EOF2 and UTL1: what the labels before the batches say, and the totals and counts of the file.
use Rattle.std.specs.Prelude.{ℕ, Bool, List, [], ◌∷◌, Some, codes}
use Rattle.tables.specs.Laying.{laid}
use Rattle.tables.specs.Lines.{Table, AllAllowed}
use Rattle.fields.specs.Words.{again, blank, head, spaces}
use Rattle.lines.specs.Places.{Place, stands}
use Rattle.places.specs.Given.{digits_given, letters_given}
use Rattle.trailers.specs.declared.closing.Utl1Context.{Utl1Context}
use Rattle.labels.specs.declared.header.Hdr2.{Hdr2}
use Rattle.labels.specs.Headers.{record_length_text}

-- 1-4 label, then the bytes of HDR2 from place 5 on
abbrev pub eof2 : Bool → Table
eof2 multi = head (codes "EOF2") ∷ again (codes "F02000") ∷ letters_given 5 [] (Some (record_length_text multi)) ∷ again (blank 35) ∷ again (codes "00") ∷ again (blank 28) ∷ []

abbrev pub eof2_place : Hdr2 → Place (Unit {0})
eof2_place h = stands (eof2 h.multi) (λ long. tt)

abbrev pub eof2_line : Hdr2 → List ℕ
eof2_line h = laid (eof2 h.multi) (record_length_text h.multi)

-- 1-4 label, 5-17 debit total, 18-30 credit total, 31-37 debit count, 38-44 credit count
abbrev pub utl1 : Utl1Context → Table
utl1 k = head (codes "UTL1") ∷ digits_given 13 (Some k.debit_total) ∷ digits_given 13 (Some k.credit_total) ∷ digits_given 7 (Some k.debit_count) ∷ digits_given 7 (Some k.credit_count) ∷ spaces 36 ∷ []

abbrev pub utl1_place : Utl1Context → Place (Unit {0})
utl1_place k = stands (utl1 k) (λ dt ct dc cc. tt)

abbrev pub utl1_line : Utl1Context → List ℕ
utl1_line k = laid (utl1 k) k.debit_total k.credit_total k.debit_count k.credit_count

-- the totals and counts fit their places
abbrev pub Utl1Fits : Utl1Context → Type 0
Utl1Fits k = AllAllowed (utl1 k) (k.debit_total, (k.credit_total, (k.debit_count, (k.credit_count, tt))))
