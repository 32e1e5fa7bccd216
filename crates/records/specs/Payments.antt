-- Payment records: what one says, and the tables by which it is read and written.
use Rattle.std.specs.Prelude.{ℕ, Bool, ◌&&◌, List, [], ◌∷◌, Some, None, codes, Option, nat_le}
use Rattle.std.specs.Option.{option_map as if_some}
use Rattle.terms.specs.declared.service.Service.{Service}
use Rattle.terms.specs.declared.service.Service.TheVariants.{Credits}
use Rattle.tables.specs.Kinds.{Keeps, Kind, Rule}
use Rattle.tables.specs.Laying.{laid}
use Rattle.tables.specs.Lines.{AllAllowed, Table, Values, at_values}
use Rattle.fields.specs.Judging.{code_text}
use Rattle.fields.specs.Words.{amount, code, filled, filled_rules, free_format, head, number, reference}
use Rattle.lines.specs.Places.{Place, stands}
use Rattle.places.specs.Given.{day_given, digits_given, filled_given, open_day_rules, usable_rules}
use Rattle.records.specs.declared.dated.Dated.{Dated}
use Rattle.records.specs.declared.payment.DayRule.{DayRule}
use Rattle.records.specs.declared.payment.DayRule.TheVariants.{Fixed, Range}
use Rattle.records.specs.declared.payment.Originator.{Originator}
use Rattle.records.specs.declared.payment.Payment.{Payment}

-- What a payment says, by numbers and bytes.

pub record OriginatorSays : Type 0 where
  pub sort_code : ℕ
  pub account : ℕ
  pub name : List ℕ

pub record PaymentSays : Type 0 where
  pub sort_code : ℕ
  pub account : ℕ
  pub code : List ℕ
  pub free_format : List ℕ
  pub amount : ℕ
  pub reference : List ℕ
  pub name : List ℕ
  pub originator : OriginatorSays

pub record DatedSays : Type 0 where
  pub payment : PaymentSays
  pub day : ℕ

abbrev pub originator_says : Originator → OriginatorSays
originator_says o = record { sort_code = o.sort_code.value; account = o.account.value; name = o.name }

abbrev pub payment_says : Payment → PaymentSays
payment_says p =
    record {
      sort_code = p.sort_code.value;
      account = p.account.value;
      code = code_text p.code;
      free_format = p.free_format;
      amount = p.amount;
      reference = p.reference;
      name = p.name;
      originator = originator_says p.originator;
    }

abbrev pub dated_says : Dated Payment ℕ → DatedSays
dated_says d = record { payment = payment_says d.undated; day = d.day }

-- Fields that earlier payments fix.

abbrev pub fixed_sort_code : Option Originator → Kind
fixed_sort_code o = digits_given 6 (if_some (λ x. x.sort_code.value) o)

abbrev pub fixed_account : Option Originator → Kind
fixed_account o = digits_given 8 (if_some (λ x. x.account.value) o)

abbrev pub fixed_name : Service → Option Originator → Kind
fixed_name g o = filled_given g (if_some (λ x. x.name) o)

abbrev pub in_range : ℕ → ℕ → ℕ → Bool
in_range first last d = nat_le first d && nat_le d last

-- a day from first to last that is in the set of open days
abbrev pub day_in_range : ℕ → ℕ → (ℕ → Bool) → Kind
day_in_range first last opens = day_given (usable_rules (in_range first last) opens) None

abbrev pub range_rules : ℕ → ℕ → Bool → List (Rule ℕ)
range_rules first last usable = open_day_rules (in_range first last) usable

abbrev pub ranged_day : ℕ → ℕ → Bool → Kind
ranged_day first last usable = day_in_range first last (λ _. usable)

abbrev pub day_rules : DayRule → List (Rule ℕ)
day_rules (Fixed day) = []
day_rules (Range first last usable) = range_rules first last usable

abbrev pub fixed_day : DayRule → Option ℕ
fixed_day (Fixed day) = Some day
fixed_day (Range first last usable) = None

abbrev pub record_day : DayRule → Kind
record_day d = day_given (day_rules d) (fixed_day d)

-- By the kinds of field that earlier payments may fix.

-- 1-6 sort code, 7-14 account, 15 fixed, 16-17 code, 18-23 and 24-31 originator's sort code and account
abbrev pub account_layout : Service → Kind → Kind → Table → Table
account_layout g from_sort_code from_account rest = number 6 ∷ number 8 ∷ head (codes "0") ∷ code g ∷ from_sort_code ∷ from_account ∷ rest

-- 32-35 free format, 36-46 amount, 47-64 originator's name, 65-82 reference, 83-100 name
abbrev pub detail_layout : Service → Kind → Table → Table
detail_layout g from_name rest = free_format g ∷ amount g ∷ from_name ∷ reference g ∷ filled g ∷ rest

abbrev pub account_fields : Service → Option Originator → Table → Table
account_fields g o rest = account_layout g (fixed_sort_code o) (fixed_account o) rest

abbrev pub detail_fields : Service → Option Originator → Table → Table
detail_fields g o rest = detail_layout g (fixed_name g o) rest

-- by the originator that is fixed, in plain values
abbrev pub payment_layout : Service → Option OriginatorSays → Table → Table
payment_layout g o rest =
    account_layout g (digits_given 6 (if_some (λ x. x.sort_code) o)) (digits_given 8 (if_some (λ x. x.account) o))
    (detail_layout g (filled_given g (if_some (λ x. x.name) o)) rest)

abbrev pub payment_fields : Service → Option Originator → Table → Table
payment_fields g o rest = account_fields g o (detail_fields g o rest)

abbrev pub payment_table : Service → Option Originator → Table
payment_table g o = payment_fields g o []

-- 101-106 day
abbrev pub dated_table : Service → Option Originator → DayRule → Table
dated_table g o d = payment_fields g o (record_day d ∷ [])

-- What the values of the fields are put together to.

abbrev pub payment_of : ℕ → ℕ → List ℕ → ℕ → ℕ → List ℕ → ℕ → List ℕ → List ℕ → List ℕ → PaymentSays
payment_of s a c from_s from_a f n from_name r m =
    record {
      sort_code = s;
      account = a;
      code = c;
      free_format = f;
      amount = n;
      reference = r;
      name = m;
      originator = record { sort_code = from_s; account = from_a; name = from_name };
    }

abbrev pub payment_place : Service → Option Originator → Place PaymentSays
payment_place g o = stands (payment_table g o) payment_of

abbrev pub dated_place : Service → Option Originator → DayRule → Place DatedSays
dated_place g o d = stands (dated_table g o d) (λ s a c from_s from_a f n from_name r m day. record { payment = payment_of s a c from_s from_a f n from_name r m; day = day })

-- The values of the fields, and the line that is written of them.

abbrev pub payment_values : (g : Service) (o : Option Originator) (t : Table) → PaymentSays → Values t → Values (payment_fields g o t)
payment_values g o t p rest =
    let from = p.originator in
    (p.sort_code, (p.account, (p.code, (from.sort_code, (from.account, (p.free_format, (p.amount, (from.name, (p.reference, (p.name, rest))))))))))

-- the line is the same by whatever the fields are judged, so the table is any one
abbrev pub payment_line : PaymentSays → List ℕ
payment_line p = let t = payment_table Credits None in at_values (List ℕ) t (laid t) (payment_values Credits None [] p tt)

abbrev pub dated_line : DatedSays → List ℕ
dated_line p = let t = dated_table Credits None (Fixed 0) in at_values (List ℕ) t (laid t) (payment_values Credits None (record_day (Fixed 0) ∷ []) p.payment (p.day, tt))

-- What may be written: each field is allowed by the table, and the originator's name by its own rules too where one is fixed.

abbrev pub PaymentFits : Service → Option Originator → PaymentSays → Type 0
PaymentFits g o p = AllAllowed (payment_table g o) (payment_values g o [] p tt) × Keeps (filled_rules g) p.originator.name

abbrev pub DatedFits : Service → Option Originator → DayRule → DatedSays → Type 0
DatedFits g o d p =
    AllAllowed (dated_table g o d) (payment_values g o (record_day d ∷ []) p.payment (p.day, tt)) × Keeps (filled_rules g) p.payment.originator.name
