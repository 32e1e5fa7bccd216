-- A contra that is written holds no line feed, and is read as what was written.
use Rattle.std.specs.Prelude.{◌≡◌, ℕ, true, List, [], Some, None, Ok, Option, refl}
use Rattle.std.proofs.Common.{sym, subst}
use Rattle.std.proofs.lemmas.Slice.Eq.{bytes_eq-Decides}
use Rattle.terms.specs.declared.service.Service.{Service}
use Rattle.tables.specs.Lines.{AllAllowed, Table, Values}
use Rattle.tables.proofs.Written.{written_reads}
use Rattle.lines.specs.Faults.{fault_of}
use Rattle.lines.specs.Feeds.{plain}
use Rattle.lines.specs.Places.{place_reading}
use Rattle.places.specs.Given.{letters_given}
use Rattle.places.proofs.Unbroken.{PlainKind, PlainTable, contra_code_plain, filled_plain, laid_plain, text_plain}
use Rattle.records.specs.declared.payment.Originator.{Originator}
use Rattle.records.specs.Contras.{ContraSays, TextsKeep, contra_fields, ContraFits, contra_line, contra_place, contra_table, contra_values, day_field, DatedContraFits, dated_contra_line, dated_contra_place, dated_contra_table}

given_plain : (w : ℕ) (text : List ℕ) → plain text ≡ true → PlainKind (letters_given w [] (Some text))
given_plain w text p v k = subst (λ (x : List ℕ). plain x ≡ true) (sym ((bytes_eq-Decides v text).0 k.0)) p

module _ (g : Service) (o : Originator) (total : ℕ) where
  -- where no narrative is fixed, no field holds a line feed
  first_plain : (t : Table) → PlainTable t → plain o.name ≡ true → PlainTable (contra_fields g o total None t)
  first_plain t p name = (tt, (tt, (refl, (contra_code_plain g, (tt, (tt, (refl, (tt, (text_plain g, (refl, (refl, (given_plain 18 o.name name, p))))))))))))

  -- what is allowed where a narrative is fixed is allowed where none is, if it keeps its own rules
  as_first : (n : Option (List ℕ)) (t : Table) (c : ContraSays) (rest : Values t) → AllAllowed (contra_fields g o total n t) (contra_values g o total n t c rest) → TextsKeep g o c → AllAllowed (contra_fields g o total None t) (contra_values g o total None t c rest)
  as_first n t c rest (s, (a, (s', (a', (sum, (said, later)))))) k = (s, (a, (s', (a', (sum, ((said.0, k.0), later))))))

  module _ (n : Option (List ℕ)) (c : ContraSays) where
    pub contra_unbroken : ContraFits g o total n c → plain (contra_line g o total c) ≡ true
    contra_unbroken a =
        laid_plain (contra_table g o total None) (contra_values g o total None [] c tt) (first_plain [] tt (filled_plain g o.name a.1.1)) (as_first n [] c tt a.0 a.1)

    pub contra_back : ContraFits g o total n c → place_reading (contra_place g o total n) (contra_line g o total c) ≡ Ok c
    contra_back a = written_reads fault_of (contra_table g o total n) (contra_place g o total n).make (contra_values g o total n [] c tt) a.0

    module _ (day : ℕ) where
      pub dated_contra_unbroken : DatedContraFits g o total n day c → plain (dated_contra_line g o total day c) ≡ true
      dated_contra_unbroken a =
          laid_plain (dated_contra_table g o total None day) (contra_values g o total None (day_field day) c (day, tt)) (first_plain (day_field day) (tt, tt) (filled_plain g o.name a.1.1)) (as_first n (day_field day) c (day, tt) a.0 a.1)

      pub dated_contra_back : DatedContraFits g o total n day c → place_reading (dated_contra_place g o total n day) (dated_contra_line g o total day c) ≡ Ok c
      dated_contra_back a = written_reads fault_of (dated_contra_table g o total n day) (dated_contra_place g o total n day).make (contra_values g o total n (day_field day) c (day, tt)) a.0
