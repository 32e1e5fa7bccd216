-- A payment that is written holds no line feed, and is read as what was written.
use Rattle.std.specs.Prelude.{◌≡◌, true, [], ◌∷◌, None, Ok, Option, refl}
use Rattle.terms.specs.declared.service.Service.{Service}
use Rattle.tables.specs.Kinds.{Keeps}
use Rattle.tables.specs.Lines.{AllAllowed, Table, Values}
use Rattle.tables.proofs.Written.{written_reads}
use Rattle.fields.specs.Words.{filled_rules}
use Rattle.lines.specs.Faults.{fault_of}
use Rattle.lines.specs.Feeds.{plain}
use Rattle.lines.specs.Places.{place_reading}
use Rattle.places.proofs.Unbroken.{PlainTable, code_plain, filled_plain, format_plain, laid_plain, reference_plain}
use Rattle.records.specs.declared.payment.DayRule.{DayRule}
use Rattle.records.specs.declared.payment.Originator.{Originator}
use Rattle.records.specs.Payments.{DatedSays, PaymentSays, DatedFits, dated_line, dated_place, dated_table, payment_fields, PaymentFits, payment_line, payment_place, payment_table, payment_values, record_day}

-- where nothing is fixed, no field holds a line feed
first_plain : (g : Service) (t : Table) → PlainTable t → PlainTable (payment_fields g None t)
first_plain g t p = (tt, (tt, (refl, (code_plain g, (tt, (tt, (format_plain g, (tt, (filled_plain g, (reference_plain g, (filled_plain g, p)))))))))))

-- what is allowed where an originator is fixed is allowed where none is, if the name keeps its own rules
as_first : (g : Service) (o : Option Originator) (t : Table) (p : PaymentSays) (rest : Values t) → AllAllowed (payment_fields g o t) (payment_values g o t p rest) → Keeps (filled_rules g) p.originator.name → AllAllowed (payment_fields g None t) (payment_values g None t p rest)
as_first g o t p rest (s, (a, (c, (from_s, (from_a, (f, (n, (from_name, (r, (m, later)))))))))) k =
    (s, (a, (c, ((from_s.0, tt), ((from_a.0, tt), (f, (n, ((from_name.0, k), (r, (m, later))))))))))

pub payment_unbroken : (g : Service) (o : Option Originator) (p : PaymentSays) → PaymentFits g o p → plain (payment_line p) ≡ true
payment_unbroken g o p a = laid_plain (payment_table g None) (payment_values g None [] p tt) (first_plain g [] tt) (as_first g o [] p tt a.0 a.1)

pub payment_back : (g : Service) (o : Option Originator) (p : PaymentSays) → PaymentFits g o p → place_reading (payment_place g o) (payment_line p) ≡ Ok p
payment_back g o p a = written_reads fault_of (payment_table g o) (payment_place g o).make (payment_values g o [] p tt) a.0

pub dated_unbroken : (g : Service) (o : Option Originator) (d : DayRule) (p : DatedSays) → DatedFits g o d p → plain (dated_line p) ≡ true
dated_unbroken g o d p a =
    let t : Table = record_day d ∷ [] in
    laid_plain (dated_table g None d) (payment_values g None t p.payment (p.day, tt)) (first_plain g t (tt, tt)) (as_first g o t p.payment (p.day, tt) a.0 a.1)

pub dated_back : (g : Service) (o : Option Originator) (d : DayRule) (p : DatedSays) → DatedFits g o d p → place_reading (dated_place g o d) (dated_line p) ≡ Ok p
dated_back g o d p a =
    written_reads fault_of (dated_table g o d) (dated_place g o d).make (payment_values g o (record_day d ∷ []) p.payment (p.day, tt)) a.0
