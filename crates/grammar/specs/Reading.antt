-- The reading of a file, line by line.
use Rattle.std.specs.Prelude.{ℕ, ◌+◌, cond, List, [], ◌∷◌, length, Ok, Err, Result, ◌==◌}
use Rattle.tables.specs.Lines.{line_width}
use Rattle.lines.specs.declared.fault.Fault.{Fault}
use Rattle.lines.specs.declared.fault.FileFault.{FileFault}
use Rattle.lines.specs.declared.fault.FileFault.TheVariants.{Line}
use Rattle.lines.specs.declared.fault.LineFault.TheVariants.{NoLineFeed, WrongLength}
use Rattle.lines.specs.Faults.{numbered}
use Rattle.lines.specs.Places.{place_reading}
use Rattle.grammar.specs.Cuts.{cut}
use Rattle.grammar.specs.Headings.{Batch, Heading, Setting}
use Rattle.grammar.specs.Next.{Next, Said, next}
use Rattle.grammar.specs.Next.Next.{comes, over}
use Rattle.grammar.specs.Next.Said.{start, volume, header, sized, paid, ended1, ended2, whole}

pub data Outcome : Type 0 where
  accepted : Heading → List Batch → Outcome
  refused : Fault → Outcome

-- what is said after a line
abbrev pub line_said : Next → List ℕ → Result Said FileFault
line_said (comes p) l = cond (length l == line_width p.table) (place_reading p l) (Err (Line WrongLength))
line_said over l = Err (Line WrongLength)

unfoldable pub step : Setting → Said → List ℕ → Result Said FileFault
step g s l = line_said (next g s l) l

abbrev pub no_line : ℕ → List ℕ → Outcome
no_line n rest = refused (numbered (Line (NoLineFeed (length rest + 1))) n)

-- what is read where no line follows: n is the number of the line that is missing
abbrev pub finish : ℕ → Said → List ℕ → Outcome
finish n start rest = no_line n rest
finish n (volume o s) rest = no_line n rest
finish n (header o s h) rest = no_line n rest
finish n (sized o s h multi) rest = no_line n rest
finish n (paid t f p) rest = no_line n rest
finish n (ended1 h f bs) rest = no_line n rest
finish n (ended2 h f bs) rest = no_line n rest
finish n (whole h f bs) [] = accepted h bs
finish n (whole h f bs) (b ∷ rest) = refused (numbered (Line WrongLength) n)

-- after line n
abbrev pub onward : {X : Type 0} → ℕ → Result X FileFault → (X → Outcome) → Outcome
onward n (Ok x) later = later x
onward n (Err e) later = refused (numbered e n)

unfoldable pub walk : Setting → ℕ → Said → List (List ℕ) → List ℕ → Outcome
walk g n s [] rest = finish n s rest
walk g n s (l ∷ ls) rest = onward n (step g s l) (λ to. walk g (n + 1) to ls rest)

-- the bytes from line n on, after what is said
unfoldable pub reading_on : Setting → ℕ → Said → List ℕ → Outcome
reading_on g n s bytes = walk g n s (cut bytes).lines (cut bytes).rest

abbrev pub reading : Setting → List ℕ → Outcome
reading g bytes = reading_on g 1 start bytes
