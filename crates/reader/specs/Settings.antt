-- What a file is read under.
use Rattle.std.specs.Prelude.{ℕ, Bool}
use Rattle.terms.specs.declared.service.Service.{Service}
use Rattle.grammar.specs.Headings.{Setting}

abbrev pub setting : Service → ℕ → (ℕ → Bool) → Setting
setting g o opens = record { service = g; opening = o; opens = opens }
