-- Records taken off the bytes, by what the records before them fix.
use Rattle.std.specs.Prelude.{ℕ, min, Bool, cond, List, [], ◌∷◌, ◌++◌}
use Rattle.std.specs.Option.{option_map as if_some}
use Rattle.records.specs.Payments.{DatedSays, OriginatorSays, PaymentSays}
use Rattle.grammar.specs.Headings.{Entry, one_more, opened}
use Rattle.grammar.specs.Next.{Fixed, Open, Paid, entry}
use Rattle.grammar.specs.Next.Paid.{none, first, closed, during}

-- what a payment record says
pub record PaymentRead : Type 0 where
  pub originator : OriginatorSays
  pub entry : Entry
  pub day : ℕ

abbrev pub read : OriginatorSays → Entry → ℕ → PaymentRead
read o p d = record { originator = o; entry = p; day = d }

abbrev pub record_long : Bool → ℕ
record_long multi = cond multi 106 100

-- what the records say after one more payment, and after a contra
abbrev pub paid_on : Paid → PaymentRead → Paid
paid_on none r = first r.originator (opened r.day r.entry)
paid_on (first o b) r = first o (one_more b r.entry)
paid_on (closed o n bs) r = during o n bs (opened r.day r.entry)
paid_on (during o n bs b) r = during o n bs (one_more b r.entry)

abbrev pub closed_on : Paid → List ℕ → Paid
closed_on none n = none
closed_on (first o b) n = closed o n (b ∷ [])
closed_on (closed o m bs) n = closed o m bs
closed_on (during o m bs b) n = closed o m (bs ++ b ∷ [])

-- A sum is kept up to the largest number of 64 bits: no contra has a total of so many digits.

abbrev pub most : ℕ
most = 18446744073709551615

abbrev pub kept_open : Open → Open
kept_open b = record { day = b.day; total = min b.total most }

abbrev pub kept : Fixed → Fixed
kept x = record { originator = x.originator; narrative = x.narrative; batch = if_some kept_open x.batch; next = x.next }

-- What is kept of a payment record.

abbrev pub entry_of : PaymentSays → Entry
entry_of p = entry p.sort_code p.account p.code p.free_format p.amount p.reference p.name

abbrev pub read_on : ℕ → PaymentSays → PaymentRead
read_on day p = read p.originator (entry_of p) day

abbrev pub dated_read : DatedSays → PaymentRead
dated_read p = read_on p.day p.payment
