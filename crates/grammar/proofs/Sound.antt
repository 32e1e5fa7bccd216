-- What the walk answers holds by the grammar.
use Rattle.std.proofs.Common.{◌≡◌, ℕ, ◌+◌, List, [], ◌∷◌, ◌++◌, length, Ok, Err, Result, refl, ap, ◌∙◌, subst, append_assoc, append-nil, arith, length-append}
use Rattle.lines.specs.declared.fault.Fault.{Fault}
use Rattle.lines.specs.declared.fault.FileFault.{FileFault}
use Rattle.lines.specs.Faults.{numbered}
use Rattle.places.proofs.Unbroken.{PlainLines}
use Rattle.labels.specs.declared.header.Hdr1Free.{Hdr1Free}
use Rattle.grammar.specs.Faults.{NextFaulty}
use Rattle.grammar.specs.Files.{FileFits, Fits, Spare, lines_of}
use Rattle.grammar.specs.Headings.{Batch, Heading, Setting}
use Rattle.grammar.specs.Next.{Said, next}
use Rattle.grammar.specs.Next.Said.{start, volume, header, sized, paid, ended1, ended2, whole}
use Rattle.grammar.specs.Reading.{Outcome, finish, onward, step, walk}
use Rattle.grammar.specs.Reading.Outcome.{accepted, refused}
use Rattle.grammar.proofs.Judged.{said_fault}
use Rattle.grammar.proofs.Steps.{step_sound}

module _ (g : Setting) where
  -- the lines and what is left are a file
  pub record Read (h : Heading) (bs : List Batch) (ls : List (List ℕ)) (rest : List ℕ) : Type 0 where
    pub free : Hdr1Free
    pub spare : Spare
    pub fits : FileFits g h free spare bs
    pub no_rest : rest ≡ []
    pub is : ls ≡ lines_of g spare (whole h free bs)

  -- they begin as one, and have this fault
  pub record Faulty (f : Fault) (ls : List (List ℕ)) (rest : List ℕ) : Type 0 where
    pub said : Said
    pub spare : Spare
    pub fits : Fits g spare said
    pub more : List (List ℕ)
    pub more_plain : PlainLines more
    pub is : ls ≡ lines_of g spare said ++ more
    pub fault : FileFault
    pub first : NextFaulty g said more rest fault
    pub located : f ≡ numbered fault (length (lines_of g spare said) + 1)

  abbrev pub Explained : Outcome → List (List ℕ) → List ℕ → Type 0
  Explained (accepted h bs) ls rest = Read h bs ls rest
  Explained (refused f) ls rest = Faulty f ls rest

  -- n is the number of the line after those of what is said
  module _ (n : ℕ) (x : Spare) where
    -- a fault right here
    here : (s : Said) (more : List (List ℕ)) (rest : List ℕ) (e : FileFault) → Fits g x s → n ≡ length (lines_of g x s) + 1 → PlainLines more → NextFaulty g s more rest e → Explained (refused (numbered e n)) (lines_of g x s ++ more) rest
    here s more rest e fits at p h = record { said = s; spare = x; fits = fits; more = more; more_plain = p; is = refl; fault = e; first = h; located = ap (numbered e) at }

    finish_sound : (s : Said) (rest : List ℕ) → Fits g x s → n ≡ length (lines_of g x s) + 1 → Explained (finish n s rest) (lines_of g x s ++ []) rest
    finish_sound start rest fits at = here start [] rest _ fits at tt refl
    finish_sound (volume o s) rest fits at = here (volume o s) [] rest _ fits at tt refl
    finish_sound (header o s h) rest fits at = here (header o s h) [] rest _ fits at tt refl
    finish_sound (sized o s h multi) rest fits at = here (sized o s h multi) [] rest _ fits at tt refl
    finish_sound (paid t f p) rest fits at = here (paid t f p) [] rest _ fits at tt refl
    finish_sound (ended1 h f bs) rest fits at = here (ended1 h f bs) [] rest _ fits at tt refl
    finish_sound (ended2 h f bs) rest fits at = here (ended2 h f bs) [] rest _ fits at tt refl
    finish_sound (whole h f bs) [] fits at = record { free = f; spare = x; fits = fits; no_rest = refl; is = append-nil (lines_of g x (whole h f bs)) }
    finish_sound (whole h f bs) (b ∷ rest) fits at = here (whole h f bs) [] (b ∷ rest) _ fits at tt refl

    onward_sound : (s : Said) (l : List ℕ) (ls : List (List ℕ)) (rest : List ℕ) → Fits g x s → n ≡ length (lines_of g x s) + 1 → PlainLines (l ∷ ls) → (r : Result Said FileFault) → step g s l ≡ r → (later : Said → Outcome) → ((to : Said) (y : Spare) → Fits g y to → n + 1 ≡ length (lines_of g y to) + 1 → Explained (later to) (lines_of g y to ++ ls) rest) → Explained (onward n r later) (lines_of g x s ++ l ∷ ls) rest
    unfolding step
    onward_sound s l ls rest fits at p (Ok to) e later ih =
        let more = step_sound g x s l to fits e in
        let number : n + 1 ≡ length (lines_of g more.spare to) + 1 = omega (arith, ap length more.is, length-append (lines_of g x s) (l ∷ [])) in
        subst (λ (z : List (List ℕ)). Explained (later to) z rest) (ap (λ (z : List (List ℕ)). z ++ ls) more.is ∙ append_assoc (lines_of g x s) (l ∷ []) ls)
        (ih to more.spare more.fits number)
    onward_sound s l ls rest fits at p (Err d) e later ih = here s (l ∷ ls) rest d fits at p (said_fault (next g s l) l d e)

  pub walk_sound : (ls : List (List ℕ)) (n : ℕ) (x : Spare) (s : Said) (rest : List ℕ) → Fits g x s → n ≡ length (lines_of g x s) + 1 → PlainLines ls → Explained (walk g n s ls rest) (lines_of g x s ++ ls) rest
  unfolding walk
  walk_sound [] n x s rest fits at p = finish_sound n x s rest fits at
  walk_sound (l ∷ ls) n x s rest fits at p =
      onward_sound n x s l ls rest fits at p (step g s l) refl (λ to. walk g (n + 1) to ls rest) (λ to y k here. walk_sound ls (n + 1) y to rest k here p.1)
