-- Contra records: what one says, and the tables by which it is read and written.
use Rattle.std.specs.Prelude.{ℕ, Bool, ◌&&◌, List, [], ◌∷◌, length, Some, None, codes, Option, nat_le}
use Rattle.std.specs.Str.{bytes_eq}
use Rattle.terms.specs.declared.service.Service.{Service}
use Rattle.tables.specs.Kinds.{Keeps}
use Rattle.tables.specs.Laying.{laid, laid_after}
use Rattle.tables.specs.Lines.{AllAllowed, Table, Values, at_values}
use Rattle.tables.specs.Walks.{part}
use Rattle.fields.specs.Words.{contra_code_text, filled_rules, head, spaces, text_rules}
use Rattle.lines.specs.Places.{Place, stands}
use Rattle.places.specs.Given.{day_given, digits_given, letters_given, text_given}
use Rattle.records.specs.declared.contra.Contra.{Contra}
use Rattle.records.specs.declared.payment.Originator.{Originator}
use Rattle.records.specs.Payments.{OriginatorSays, originator_says}

-- the service's code of a contra stands at 16-17
abbrev pub contra_shown : Service → List ℕ → Bool
contra_shown g l = nat_le 17 (length l) && bytes_eq (part 15 17 l) (contra_code_text g)

pub record ContraSays : Type 0 where
  pub narrative : List ℕ

abbrev pub contra_says : Contra → ContraSays
contra_says c = record { narrative = c.narrative }

-- the originator's account stands twice, before the code and after it
abbrev pub account_layout : OriginatorSays → Table → Table
account_layout o rest = digits_given 6 (Some o.sort_code) ∷ digits_given 8 (Some o.account) ∷ rest

-- 18-23 and 24-31 originator's sort code and account, 36-46 total, 47-64 narrative, 65-70 fixed, 83-100 originator's name
abbrev pub body_layout : Service → OriginatorSays → ℕ → Option (List ℕ) → Table → Table
body_layout g o total narrative rest =
    account_layout o (spaces 4 ∷ digits_given 11 (Some total) ∷ text_given g narrative ∷ head (codes "CONTRA") ∷ spaces 12 ∷ letters_given 18 [] (Some o.name) ∷ rest)

-- 1-6 and 7-14 originator's sort code and account, 15 fixed, 16-17 code
abbrev pub contra_layout : Service → OriginatorSays → ℕ → Option (List ℕ) → Table → Table
contra_layout g o total narrative rest = account_layout o (head (codes "0") ∷ head (contra_code_text g) ∷ body_layout g o total narrative rest)

abbrev pub body_fields : Service → Originator → ℕ → Option (List ℕ) → Table → Table
body_fields g o total narrative rest = body_layout g (originator_says o) total narrative rest

abbrev pub contra_fields : Service → Originator → ℕ → Option (List ℕ) → Table → Table
contra_fields g o total narrative rest = contra_layout g (originator_says o) total narrative rest

abbrev pub contra_table : Service → Originator → ℕ → Option (List ℕ) → Table
contra_table g o total narrative = contra_fields g o total narrative []

-- 101-106 day
abbrev pub day_field : ℕ → Table
day_field day = day_given [] (Some day) ∷ []

abbrev pub dated_contra_table : Service → Originator → ℕ → Option (List ℕ) → ℕ → Table
dated_contra_table g o total narrative day = contra_fields g o total narrative (day_field day)

-- what the values of places 18-100 are put together to
abbrev pub contra_of : ℕ → ℕ → ℕ → List ℕ → List ℕ → ContraSays
contra_of s a total narrative name = record { narrative = narrative }

abbrev pub contra_place : Service → Originator → ℕ → Option (List ℕ) → Place ContraSays
contra_place g o total narrative = stands (contra_table g o total narrative) (λ s a. contra_of)

abbrev pub dated_contra_place : Service → Originator → ℕ → Option (List ℕ) → ℕ → Place ContraSays
dated_contra_place g o total narrative day =
    stands (dated_contra_table g o total narrative day) (λ s a from_s from_a sum said name day. contra_of from_s from_a sum said name)

-- The values of the fields, and the line that is written of them.

abbrev pub body_values : (g : Service) (o : Originator) (total : ℕ) (narrative : Option (List ℕ)) (t : Table) → ContraSays → Values t → Values (body_fields g o total narrative t)
body_values g o total narrative t c rest = (o.sort_code.value, (o.account.value, (total, (c.narrative, (o.name, rest)))))

abbrev pub contra_values : (g : Service) (o : Originator) (total : ℕ) (narrative : Option (List ℕ)) (t : Table) → ContraSays → Values t → Values (contra_fields g o total narrative t)
contra_values g o total narrative t c rest = (o.sort_code.value, (o.account.value, body_values g o total narrative t c rest))

-- the line is the same whether a narrative is fixed or not; places 18-100 stand after the bytes of the first 17
abbrev pub body_after : List ℕ → Service → Originator → ℕ → ContraSays → List ℕ
body_after before g o total c = let t = body_fields g o total None [] in at_values (List ℕ) t (laid_after t before) (body_values g o total None [] c tt)

abbrev pub contra_line : Service → Originator → ℕ → ContraSays → List ℕ
contra_line g o total c = let t = contra_table g o total None in at_values (List ℕ) t (laid t) (contra_values g o total None [] c tt)

abbrev pub dated_contra_line : Service → Originator → ℕ → ℕ → ContraSays → List ℕ
dated_contra_line g o total day c =
    let t = dated_contra_table g o total None day in at_values (List ℕ) t (laid t) (contra_values g o total None (day_field day) c (day, tt))

-- What may be written: each field is allowed by the table, and the texts by their own rules too where they are fixed.

abbrev pub TextsKeep : Service → Originator → ContraSays → Type 0
TextsKeep g o c = Keeps (text_rules g) c.narrative × Keeps (filled_rules g) o.name

abbrev pub ContraFits : Service → Originator → ℕ → Option (List ℕ) → ContraSays → Type 0
ContraFits g o total narrative c = AllAllowed (contra_table g o total narrative) (contra_values g o total narrative [] c tt) × TextsKeep g o c

abbrev pub DatedContraFits : Service → Originator → ℕ → Option (List ℕ) → ℕ → ContraSays → Type 0
DatedContraFits g o total narrative day c =
    AllAllowed (dated_contra_table g o total narrative day) (contra_values g o total narrative (day_field day) c (day, tt)) × TextsKeep g o c
