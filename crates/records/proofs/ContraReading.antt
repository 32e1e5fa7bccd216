-- A contra's fields after its code stand at the same places by every service, since each code has two characters.
use Rattle.std.proofs.Common.{◌≡◌, ℕ, ◌+◌, List, [], length, Some, Ok, codes, Option, Result, refl, ap, ◌∙◌}
use Rattle.terms.specs.declared.service.Service.{Service}
use Rattle.terms.specs.declared.service.Service.TheVariants.{Credits, Debits, FasterPayments}
use Rattle.tables.specs.Walks.{after, field_reading, fields_reading}
use Rattle.tables.proofs.Fields.{past}
use Rattle.fields.specs.Words.{contra_code_text, head}
use Rattle.lines.specs.declared.fault.FileFault.{FileFault}
use Rattle.lines.specs.Faults.{fault_of}
use Rattle.lines.specs.Places.{place_reading}
use Rattle.places.specs.Given.{digits_given}
use Rattle.records.specs.declared.payment.Originator.{Originator}
use Rattle.records.specs.Contras.{ContraSays, body_fields, contra_of, contra_place}

two : (g : Service) → 2 ≡ length (contra_code_text g)
two Credits = refl
two Debits = refl
two FasterPayments = refl

module _ (g : Service) (o : Originator) (total : ℕ) (n : Option (List ℕ)) (l : List ℕ) where
  -- the reading with a code of so many characters
  abbrev walked : ℕ → Result ContraSays FileFault
  walked k =
      after (field_reading fault_of (digits_given 6 (Some o.sort_code.value)) 0 l) (λ _.
      after (field_reading fault_of (digits_given 8 (Some o.account.value)) 6 l) (λ _.
      after (field_reading fault_of (head (codes "0")) 14 l) (λ _.
      after (field_reading fault_of (head (contra_code_text g)) 15 l) (λ _.
      fields_reading fault_of ContraSays (body_fields g o total n []) contra_of (15 + k) l))))

  pub body_read : {a b : ℕ} (r : Result ContraSays FileFault) → Ok a ≡ field_reading fault_of (digits_given 6 (Some o.sort_code.value)) 0 l → Ok b ≡ field_reading fault_of (digits_given 8 (Some o.account.value)) 6 l → Ok tt ≡ field_reading fault_of (head (codes "0")) 14 l → Ok tt ≡ field_reading fault_of (head (contra_code_text g)) 15 l → r ≡ fields_reading fault_of ContraSays (body_fields g o total n []) contra_of 17 l → r ≡ place_reading (contra_place g o total n) l
  body_read r p q s t e = past _ p (past _ q (past _ s (past _ t e))) ∙ ap walked (two g)
