-- What a file says: its heading, and its payments in batches.
use Rattle.std.specs.Prelude.{ℕ, suc, Bool, List, [], ◌∷◌, ◌++◌, length, sum_by}
use Rattle.terms.specs.declared.service.Service.{Service}
use Rattle.terms.specs.declared.service.Service.TheVariants.{Credits, Debits, FasterPayments}
use Rattle.tables.specs.Forms.{shown}
use Rattle.tables.specs.Forms.Form.{decimals}
use Rattle.fields.specs.Words.{blank}
use Rattle.labels.specs.declared.header.Hdr1.{Hdr1}
use Rattle.labels.specs.declared.header.Hdr1Free.{Hdr1Free}
use Rattle.labels.specs.Volumes.{OwnerSays}
use Rattle.labels.specs.Volumes.OwnerSays.{numbered, marked}
use Rattle.trailers.specs.declared.closing.Utl1Context.{Utl1Context}
use Rattle.records.specs.Payments.{OriginatorSays}

-- what a file is read under
pub record Setting : Type 0 where
  pub service : Service
  -- the opening day, by its number
  pub opening : ℕ
  -- the calendar's set of open days
  pub opens : ℕ → Bool

-- what the labels before the batches say
pub record Top : Type 0 where
  pub owner : OwnerSays
  pub serial : List ℕ
  pub creation : ℕ
  pub expiry : ℕ
  pub multi : Bool
  pub processing : ℕ
  pub number : ℕ

pub record Heading : Type 0 where
  pub top : Top
  pub originator : OriginatorSays
  pub narrative : List ℕ

-- a payment: the originator is the heading's, and the day its batch's
pub record Entry : Type 0 where
  pub sort_code : ℕ
  pub account : ℕ
  pub code : List ℕ
  pub free_format : List ℕ
  pub amount : ℕ
  pub reference : List ℕ
  pub name : List ℕ

pub record Batch : Type 0 where
  pub day : ℕ
  pub payments : List Entry

-- VOL1 42-47, which HDR1 may repeat
abbrev pub user_places : OwnerSays → List ℕ
user_places (numbered n) = shown (decimals 6) n
user_places (marked m) = blank 6

abbrev pub header_of : Top → Hdr1Free → Hdr1
header_of t f = record { creation = t.creation; expiry = t.expiry; free = f }

-- Sums.

abbrev pub batch_total : Batch → ℕ
batch_total b = sum_by (λ p. p.amount) b.payments

abbrev pub file_total : List Batch → ℕ
file_total bs = sum_by batch_total bs

abbrev pub payment_count : List Batch → ℕ
payment_count bs = sum_by (λ b. length b.payments) bs

-- how many debits and credits there are: contras count
abbrev pub debit_count_of : Service → List Batch → ℕ
debit_count_of Credits bs = length bs
debit_count_of Debits bs = payment_count bs
debit_count_of FasterPayments bs = length bs

abbrev pub credit_count_of : Service → List Batch → ℕ
credit_count_of Credits bs = payment_count bs
credit_count_of Debits bs = length bs
credit_count_of FasterPayments bs = payment_count bs

-- what UTL1 adds up; a batch's contra makes debits and credits equal
abbrev pub closing_of : Service → List Batch → Utl1Context
closing_of g bs =
    record {
      debit_total = file_total bs;
      credit_total = file_total bs;
      debit_count = debit_count_of g bs;
      credit_count = credit_count_of g bs;
    }

-- the first day that one more batch may have: d or, after batches, the day after the last
abbrev pub next_day : ℕ → List Batch → ℕ
next_day d [] = d
next_day d (b ∷ bs) = next_day (suc b.day) bs

-- A batch that begins with a payment, and one more payment in a batch.

abbrev pub opened : ℕ → Entry → Batch
opened day p = record { day = day; payments = p ∷ [] }

abbrev pub one_more : Batch → Entry → Batch
one_more b p = record { day = b.day; payments = b.payments ++ p ∷ [] }
