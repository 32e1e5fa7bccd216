-- Why a call is refused.
use Rattle.terms.specs.declared.cause.Cause.{Cause}
use Rattle.terms.specs.declared.cause.Cause.TheVariants as cause
use Rattle.lines.specs.Faults.{cause_of}
use Rattle.headings.specs.declared.refusal.Refusal.{Refusal}
use Rattle.headings.specs.declared.refusal.Refusal.TheVariants.{Input, State}

abbrev pub refusal_cause : Refusal → Cause
refusal_cause (Input f) = cause.Input (cause_of f.fault)
refusal_cause (State c) = cause.State c
