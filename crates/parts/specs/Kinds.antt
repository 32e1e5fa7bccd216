-- How long each kind of line is.
use Rattle.std.specs.Prelude.{ℕ}
use Rattle.parts.specs.declared.kind.LineKind.{LineKind}
use Rattle.parts.specs.declared.kind.LineKind.TheVariants.{Vol1, Hdr1, Hdr2, Uhl1, Payment, DatedPayment, Contra, DatedContra, Eof1, Eof2, Utl1}

-- in bytes, without the line feed
abbrev pub line_length : LineKind → ℕ
line_length Vol1 = 80
line_length Hdr1 = 80
line_length Hdr2 = 80
line_length Uhl1 = 80
line_length Payment = 100
line_length DatedPayment = 106
line_length Contra = 100
line_length DatedContra = 106
line_length Eof1 = 80
line_length Eof2 = 80
line_length Utl1 = 80
