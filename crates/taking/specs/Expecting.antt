-- Which line comes after the records so far, by the bytes that follow.
use Rattle.std.specs.Prelude.{ℕ, Bool, cond, not, ◌&&◌, List, is_some}
use Rattle.terms.specs.declared.service.Service.{Service}
use Rattle.records.specs.Contras.{contra_shown}
use Rattle.grammar.specs.Next.{Fixed, is_eof1}
use Rattle.taking.specs.declared.expected.Expected.{Expected}
use Rattle.taking.specs.declared.expected.Expected.TheVariants.{Payment, Contra, Trailer}
use Rattle.taking.specs.declared.expected.Progress.{Progress}
use Rattle.taking.specs.declared.expected.Progress.TheVariants.{Start, InBatch, AfterContra}

abbrev pub expected_line : Service → Bool → Progress → List ℕ → Expected
expected_line g multi Start bytes = Payment
expected_line g multi InBatch bytes = cond (contra_shown g bytes) Contra Payment
expected_line g multi AfterContra bytes = cond (multi && not (is_eof1 bytes)) Payment Trailer

-- by what the records so far fix: an originator once there was a payment, a batch until it has its contra
abbrev pub progress_by : Fixed → Progress
progress_by x = cond (is_some x.batch) InBatch (cond (is_some x.originator) AfterContra Start)

abbrev pub expected_by : Service → Bool → Fixed → List ℕ → Expected
expected_by g multi x bytes = expected_line g multi (progress_by x) bytes
