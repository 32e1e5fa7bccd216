-- What headings and payments stand for, in the words of the grammar.
use Rattle.std.specs.Prelude.{ℕ, List, map}
use Rattle.std.specs.List.{flat_map}
use Rattle.fields.specs.Judging.{code_text}
use Rattle.labels.specs.Volumes.{owner_says}
use Rattle.records.specs.Payments.{originator_says}
use Rattle.grammar.specs.Headings.{Batch, Entry, Top}
use Rattle.grammar.specs.Headings.{Heading as SaidHeading}
use Rattle.headings.specs.declared.heading.Heading.{Heading}
use Rattle.headings.specs.declared.row.Row.{Row}

abbrev pub top_of : Heading → Top
top_of h =
    record {
      owner = owner_says h.owner;
      serial = h.serial;
      creation = h.creation;
      expiry = h.expiry;
      multi = h.multi;
      processing = h.processing;
      number = h.number;
    }

abbrev pub heading_says : Heading → SaidHeading
heading_says h = record { top = top_of h; originator = originator_says h.originator; narrative = h.narrative }

-- a payment with its day
pub record RowSays : Type 0 where
  pub entry : Entry
  pub day : ℕ

abbrev pub row_says : Row → RowSays
row_says r =
    record {
      entry = record {
        sort_code = r.sort_code.value;
        account = r.account.value;
        code = code_text r.code;
        free_format = r.free_format;
        amount = r.amount;
        reference = r.reference;
        name = r.name;
      };
      day = r.day;
    }

-- the payments of batches in the order of the file
abbrev pub batch_rows : Batch → List RowSays
batch_rows b = map (λ p. record { entry = p; day = b.day }) b.payments

abbrev pub file_rows : List Batch → List RowSays
file_rows bs = flat_map batch_rows bs
