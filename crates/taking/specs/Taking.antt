-- One line read at the front of the bytes.
use Rattle.std.specs.Prelude.{ℕ, ◌+◌, Bool, false, cond, List, length, Some, None, Ok, Err, Option, Result, nat_le}
use Rattle.std.specs.Result.{result_map_both}
use Rattle.tables.specs.Forms.{read_form}
use Rattle.tables.specs.Forms.Form.{dates}
use Rattle.tables.specs.Walks.{part}
use Rattle.lines.specs.declared.fault.Fault.{Fault}
use Rattle.lines.specs.declared.fault.FileFault.{FileFault}
use Rattle.lines.specs.Faults.{numbered}
use Rattle.lines.specs.Feeds.{line_reading}
use Rattle.grammar.specs.Reading.{Outcome}
use Rattle.grammar.specs.Reading.Outcome.{refused}

-- what the line with number n says, which has `long` bytes and its line feed
abbrev pub taking : {X : Type 0} → ℕ → ℕ → (List ℕ → Result X FileFault) → List ℕ → Result X Fault
taking n long reading bs = result_map_both (λ x. x) (λ e. numbered e n) (line_reading long reading bs)

-- how the reading of a file goes on
abbrev pub carried : {X : Type 0} → Result X Fault → (X → Outcome) → Outcome
carried (Ok x) later = later x
carried (Err f) later = refused f

-- the day after the first `from` bytes, if one stands there, is open
abbrev pub if_open : (ℕ → Bool) → Option ℕ → Bool
if_open opens None = false
if_open opens (Some d) = opens d

unfoldable pub open_at : (ℕ → Bool) → ℕ → List ℕ → Bool
open_at opens from bs = cond (nat_le (from + 6) (length bs)) (if_open opens (read_form dates (part from (from + 6) bs))) false
