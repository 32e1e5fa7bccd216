-- EOF2 and UTL1 that are written hold no line feed, and are read as what was written.
use Rattle.std.specs.Prelude.{◌≡◌, Bool, true, false, Ok, refl}
use Rattle.tables.specs.Lines.{AllAllowed}
use Rattle.tables.proofs.Written.{written_reads}
use Rattle.lines.specs.Faults.{fault_of}
use Rattle.lines.specs.Feeds.{plain}
use Rattle.lines.specs.Places.{place_reading}
use Rattle.places.proofs.Unbroken.{laid_plain}
use Rattle.trailers.specs.declared.closing.Utl1Context.{Utl1Context}
use Rattle.labels.specs.declared.header.Hdr2.{Hdr2}
use Rattle.trailers.specs.Closings.{eof2, eof2_line, eof2_place, utl1, Utl1Fits, utl1_line, utl1_place}
use Rattle.labels.specs.Headers.{record_length_text}

eof2_allowed : (multi : Bool) → AllAllowed (eof2 multi) (record_length_text multi, tt)
eof2_allowed true = ((refl, (refl, tt)), tt)
eof2_allowed false = ((refl, (refl, tt)), tt)

pub eof2_back : (h : Hdr2) → place_reading (eof2_place h) (eof2_line h) ≡ Ok (tt {0})
eof2_back h = written_reads fault_of (eof2 h.multi) (λ long. tt) (record_length_text h.multi, tt) (eof2_allowed h.multi)

pub utl1_unbroken : (k : Utl1Context) → Utl1Fits k → plain (utl1_line k) ≡ true
utl1_unbroken k a = laid_plain (utl1 k) (k.debit_total, (k.credit_total, (k.debit_count, (k.credit_count, tt)))) (refl, (tt, (tt, (tt, (tt, (refl, tt)))))) a

pub utl1_back : (k : Utl1Context) → Utl1Fits k → place_reading (utl1_place k) (utl1_line k) ≡ Ok (tt {0})
utl1_back k a = written_reads fault_of (utl1 k) (λ dt ct dc cn. tt) (k.debit_total, (k.credit_total, (k.debit_count, (k.credit_count, tt)))) a
