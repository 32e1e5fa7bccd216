-- What is proved of files.
use Rattle.std.specs.Prelude.{◌≡◌, ℕ, ◌⊎◌, ◌↔◌, List}
use Rattle.fields.specs.Words.{blank}
use Rattle.lines.specs.declared.fault.Fault.{Fault}
use Rattle.labels.specs.Headers.{no_free}
use Rattle.labels.specs.declared.header.Hdr1Free.{Hdr1Free}
use Rattle.grammar.specs.Cuts.{feeds}
use Rattle.grammar.specs.Faults.{FirstFileFault}
use Rattle.grammar.specs.Files.{Belongs, FileFits, Spare, file_lines}
use Rattle.grammar.specs.Headings.{Batch, Heading, Setting}
use Rattle.grammar.specs.Reading.{reading}
use Rattle.grammar.specs.Reading.Outcome.{accepted, refused}

-- The reading accepts what belongs to the grammar and nothing else, with what it says, and refuses the rest by its first fault.
pub record ReadsFile (g : Setting) (bytes : List ℕ) : Type 0 where
  pub accepts : (h : Heading) (bs : List Batch) → (reading g bytes ≡ accepted h bs) ↔ Belongs g h bs bytes
  pub refuses : (f : Fault) → (reading g bytes ≡ refused f) ↔ FirstFileFault g bytes f

abbrev pub ReadingLaw : Type 0
ReadingLaw = (g : Setting) (bytes : List ℕ) → ReadsFile g bytes

-- The same of the grammar alone: all bytes have one meaning or one first fault, and not both.
abbrev pub SomeFile : Setting → List ℕ → Type 0
SomeFile g bytes = (h : Heading) × (bs : List Batch) × Belongs g h bs bytes

abbrev pub SomeFault : Setting → List ℕ → Type 0
SomeFault g bytes = (f : Fault) × FirstFileFault g bytes f

pub record OneMeaning (g : Setting) (bytes : List ℕ) : Type 0 where
  pub either : SomeFile g bytes ⊎ SomeFault g bytes
  pub never_both : SomeFile g bytes → SomeFault g bytes → ⊥
  pub one_file : (h k : Heading) (bs cs : List Batch) → Belongs g h bs bytes → Belongs g k cs bytes → (h ≡ k) × (bs ≡ cs)
  pub one_fault : (e f : Fault) → FirstFileFault g bytes e → FirstFileFault g bytes f → e ≡ f

abbrev pub MeaningLaw : Type 0
MeaningLaw = (g : Setting) (bytes : List ℕ) → OneMeaning g bytes

-- the file that is written: every free place is spaces
abbrev pub no_spare : Spare
no_spare = record { access = blank 1; audit = blank 3; spare = blank 4 }

unfoldable pub written : Setting → Heading → List Batch → List ℕ
written g h bs = feeds (file_lines g h no_free no_spare bs)

-- what fits with anything in the free places is written, and read as what was written
abbrev pub WritingLaw : Type 0
WritingLaw = (g : Setting) (h : Heading) (f : Hdr1Free) (x : Spare) (bs : List Batch) → FileFits g h f x bs → Belongs g h bs (written g h bs) × (reading g (written g h bs) ≡ accepted h bs)
