-- What is read at a place is what the laws of its table say of the line.
use Rattle.std.proofs.Common.{◌≡◌, ℕ, cond, List, length, Some, None, Ok, Err, Option, sym, refl, ap, ◌∙◌, inl, inr}
use Rattle.std.proofs.lemmas.Bool.{eq-eqb}
use Rattle.tables.specs.Lines.{at_values, fields_fault, line_fault, line_width, values, wrong_width, TableFieldFault, FirstIn, TableFault}
use Rattle.tables.specs.Walks.{outcome}
use Rattle.tables.proofs.Tiling.{fault_law, line_law}
use Rattle.tables.proofs.Walking.{walk_law}
use Rattle.lines.specs.declared.fault.FileFault.{FileFault}
use Rattle.lines.specs.Faults.{fault_of}
use Rattle.lines.specs.Places.{FirstFault, LineOf, Place, ReadsPlace, place_reading}

module _ {X : Type 0} where
  module _ (p : Place X) (l : List ℕ) (wide : length l ≡ line_width p.table) where
    abbrev fault : Option TableFault
    fault = fields_fault p.table 1 l

    whole : line_fault p.table l ≡ fault
    unfolding line_fault
    whole = ap (λ b. cond b (fields_fault p.table 1 l) (Some wrong_width)) (eq-eqb _ _ wide)

    abbrev all : X
    all = at_values X p.table p.make (values p.table l)

    walked : place_reading p l ≡ outcome fault_of fault all
    walked = walk_law FileFault X fault_of p.table p.make l

    is_of : (x : X) (o : Option TableFault) → fault ≡ o → outcome fault_of o all ≡ Ok x → LineOf p l x
    is_of x None q h = record { values = values p.table l; is_line = (line_law p.table l).sound (whole ∙ q); says = cc }
    is_of x (Some f) q h = cc

    of_is : (x : X) → LineOf p l x → place_reading p l ≡ Ok x
    of_is x s =
        let law = line_law p.table l in
        walked ∙ ap (λ o. outcome fault_of o all) (sym whole ∙ law.complete s.values s.is_line)
        ∙ ap (λ v. Ok (at_values X p.table p.make v)) (law.one s.values s.is_line) ∙ ap Ok s.says

    in_field : (f : TableFault) → FirstIn p.table l f → TableFieldFault p.table 1 l f
    in_field f h = elim h [
      | inl x ↦ absurd (x.0 wide)
      | inr x ↦ x.1
    ]

    is_first : (e : FileFault) (o : Option TableFault) → fault ≡ o → outcome fault_of o all ≡ Err e → FirstFault p l e
    is_first e None q h = cc
    is_first e (Some f) q h = record { fault = f; first = in_field f ((fault_law p.table l f).0 (whole ∙ q)); is = cc }

    first_is : (e : FileFault) → FirstFault p l e → place_reading p l ≡ Err e
    first_is e s =
        walked ∙ ap (λ o. outcome fault_of o all) (sym whole ∙ (fault_law p.table l s.fault).1 (inr (wide, s.first)))
        ∙ ap Err s.is

    pub reads_place : ReadsPlace p l
    reads_place = record {
      accepted = λ x. (λ h. is_of x fault refl (sym walked ∙ h), of_is x);
      refused = λ e. (λ h. is_first e fault refl (sym walked ∙ h), first_is e);
    }
