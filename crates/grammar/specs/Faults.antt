-- The first fault of bytes that are no file, said without a reading.
use Rattle.std.specs.Prelude.{◌≡◌, ℕ, ◌+◌, true, ◌≢◌, ◌⊎◌, List, [], ◌∷◌, ◌++◌, length}
use Rattle.std.specs.List.{AllByRecursion}
use Rattle.tables.specs.Lines.{line_width}
use Rattle.lines.specs.declared.fault.Fault.{Fault}
use Rattle.lines.specs.declared.fault.FileFault.{FileFault}
use Rattle.lines.specs.declared.fault.FileFault.TheVariants.{Line}
use Rattle.lines.specs.declared.fault.LineFault.TheVariants.{NoLineFeed, WrongLength}
use Rattle.lines.specs.Faults.{numbered}
use Rattle.lines.specs.Feeds.{plain}
use Rattle.lines.specs.Places.{FirstFault}
use Rattle.grammar.specs.Cuts.{feeds}
use Rattle.grammar.specs.Files.{Fits, Spare, lines_of}
use Rattle.grammar.specs.Headings.{Setting}
use Rattle.grammar.specs.Next.{Next, Said, next}
use Rattle.grammar.specs.Next.Next.{comes, over}
use Rattle.grammar.specs.Next.Said.{start, volume, header, sized, paid, ended1, ended2, whole}

-- a line has the fault: its length is not its table's, or its first field from the left that is not allowed has the cause; bytes after UTL1 are no line
abbrev pub LineFaulty : Next → List ℕ → FileFault → Type 0
LineFaulty (comes p) l e = ((length l ≢ line_width p.table) × (e ≡ Line WrongLength)) ⊎ ((length l ≡ line_width p.table) × FirstFault p l e)
LineFaulty over l e = e ≡ Line WrongLength

abbrev pub PastEnd : List ℕ → FileFault → Type 0
PastEnd [] e = ⊥
PastEnd (b ∷ bs) e = e ≡ Line WrongLength

abbrev pub Missing : List ℕ → FileFault → Type 0
Missing rest e = e ≡ Line (NoLineFeed (length rest + 1))

-- the fault where bytes without a line feed follow what is said, and nothing after them
abbrev pub EndFaulty : Said → List ℕ → FileFault → Type 0
EndFaulty start rest e = Missing rest e
EndFaulty (volume o s) rest e = Missing rest e
EndFaulty (header o s h) rest e = Missing rest e
EndFaulty (sized o s h multi) rest e = Missing rest e
EndFaulty (paid t f p) rest e = Missing rest e
EndFaulty (ended1 h f bs) rest e = Missing rest e
EndFaulty (ended2 h f bs) rest e = Missing rest e
EndFaulty (whole h f bs) rest e = PastEnd rest e

abbrev pub NextFaulty : Setting → Said → List (List ℕ) → List ℕ → FileFault → Type 0
NextFaulty g s [] rest e = EndFaulty s rest e
NextFaulty g s (l ∷ ls) rest e = LineFaulty (next g s l) l e

-- The bytes begin with the lines of a fitting beginning of a file, and what follows these has the fault.
pub record FirstFileFault (g : Setting) (bytes : List ℕ) (f : Fault) : Type 0 where
  pub said : Said
  pub spare : Spare
  pub fits : Fits g spare said
  -- the lines that follow, and what is left after the last line feed
  pub lines : List (List ℕ)
  pub rest : List ℕ
  pub lines_plain : AllByRecursion (λ l. plain l ≡ true) lines
  pub rest_plain : plain rest ≡ true
  pub is : bytes ≡ feeds (lines_of g spare said ++ lines) ++ rest
  pub fault : FileFault
  pub first : NextFaulty g said lines rest fault
  -- in the line after those of the beginning
  pub located : f ≡ numbered fault (length (lines_of g spare said) + 1)
