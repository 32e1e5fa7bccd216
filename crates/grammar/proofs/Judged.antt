-- What is said after a line is what its table says of it: by the values of its fields, or by its first fault.
use Rattle.std.proofs.Common.{◌≡◌, ℕ, Bool, true, false, cond, eqb, List, length, Ok, Err, Result, sym, refl, ap, ◌∙◌, inl, inr, arith}
use Rattle.std.proofs.lemmas.Bool.{eq-eqb, eqb-false, eqb-true, ne_eqb}
use Rattle.tables.specs.Lines.{line_width}
use Rattle.tables.proofs.Tiling.{line_length}
use Rattle.lines.specs.declared.fault.FileFault.{FileFault}
use Rattle.lines.specs.declared.fault.FileFault.TheVariants.{Line}
use Rattle.lines.specs.declared.fault.LineFault.TheVariants.{WrongLength}
use Rattle.lines.specs.Places.{LineOf, Place, place_reading}
use Rattle.lines.proofs.Reading.{reads_place}
use Rattle.grammar.specs.Faults.{LineFaulty}
use Rattle.grammar.specs.Next.{Next, Said}
use Rattle.grammar.specs.Next.Next.{comes, over}
use Rattle.grammar.specs.Reading.{line_said}

pub no_result : {X : Type 0} {x : X} {e : FileFault} → ◌≡◌ {A = Result X FileFault} (Ok x) (Err e) → ⊥
no_result h = let z : ◌≡◌ {A = ℕ} 0 1 = cc in omega arith

told : {X : Type 0} {d e : FileFault} → ◌≡◌ {A = Result X FileFault} (Err d) (Err e) → d ≡ e
told h = cc

module _ (p : Place Said) (l : List ℕ) where
  abbrev by_width : Bool → Result Said FileFault
  by_width b = cond b (place_reading p l) (Err (Line WrongLength))

  of_width : (to : Said) (b : Bool) → eqb (length l) (line_width p.table) ≡ b → by_width b ≡ Ok to → LineOf p l to
  of_width to true q h = ((reads_place p l (eqb-true (length l) (line_width p.table) q)).accepted to).0 h
  of_width to false q h = absurd (no_result (sym h))

  -- the line is one of the table, with this said
  pub said_line : (to : Said) → line_said (comes p) l ≡ Ok to → LineOf p l to
  said_line to h = of_width to (eqb (length l) (line_width p.table)) refl h

  pub line_says : (to : Said) → LineOf p l to → line_said (comes p) l ≡ Ok to
  line_says to s =
      let wide : length l ≡ line_width p.table = ap length s.is_line.is ∙ line_length p.table s.values s.is_line.allowed in
      ap by_width (eq-eqb (length l) (line_width p.table) wide) ∙ ((reads_place p l wide).accepted to).1 s

  fault_of_width : (e : FileFault) (b : Bool) → eqb (length l) (line_width p.table) ≡ b → by_width b ≡ Err e → LineFaulty (comes p) l e
  fault_of_width e true q h = let wide = eqb-true (length l) (line_width p.table) q in inr (wide, ((reads_place p l wide).refused e).0 h)
  fault_of_width e false q h = inl (eqb-false (length l) (line_width p.table) q, sym (told h))

  width_fault : (e : FileFault) → LineFaulty (comes p) l e → line_said (comes p) l ≡ Err e
  width_fault e f = elim f [
    | inl x ↦ ap by_width (ne_eqb (length l) (line_width p.table) x.0) ∙ ap (λ (d : FileFault). Err d) (sym x.1)
    | inr x ↦ ap by_width (eq-eqb (length l) (line_width p.table) x.0) ∙ ((reads_place p l x.0).refused e).1 x.1
  ]

-- the line has this fault
pub said_fault : (n : Next) (l : List ℕ) (e : FileFault) → line_said n l ≡ Err e → LineFaulty n l e
said_fault (comes p) l e h = fault_of_width p l e (eqb (length l) (line_width p.table)) refl h
said_fault over l e h = sym (told h)

pub fault_says : (n : Next) (l : List ℕ) (e : FileFault) → LineFaulty n l e → line_said n l ≡ Err e
fault_says (comes p) l e f = width_fault p l e f
fault_says over l e f = ap (λ (d : FileFault). Err d) (sym f)
