-- A line that is laid out from the left is the line of its values, and is read as them.
use Rattle.std.proofs.Common.{◌≡◌, ℕ, List, [], ◌∷◌, ◌++◌, Ok, Option, sym, ap, ◌∙◌, append_assoc, append-nil}
use Rattle.terms.specs.declared.cause.InputCause.{InputCause}
use Rattle.tables.specs.Forms.{shown}
use Rattle.tables.specs.Kinds.Kind.{fixed, letters, number}
use Rattle.tables.specs.Laying.{laid_after, laid}
use Rattle.tables.specs.Lines.{Table, By, Values, AllAllowed, at_values, values, line}
use Rattle.tables.specs.Walks.{fields_reading, outcome}
use Rattle.tables.proofs.Tiling.{fields_none, values_line}
use Rattle.tables.proofs.Walking.{walk_law}

laid_line : (t : Table) (bs : List ℕ) (v : Values t) → at_values (List ℕ) t (laid_after t bs) v ≡ bs ++ line t v
laid_line [] bs v = sym (append-nil bs)
laid_line (fixed c cs ∷ ks) bs v = laid_line ks (bs ++ cs) v ∙ append_assoc bs cs (line ks v)
laid_line (letters w rs ∷ ks) bs v = laid_line ks (bs ++ v.0) v.1 ∙ append_assoc bs v.0 (line ks v.1)
laid_line (number m c rs ∷ ks) bs v = laid_line ks (bs ++ shown m v.0) v.1 ∙ append_assoc bs (shown m v.0) (line ks v.1)

pub laid_is_line : (t : Table) (v : Values t) → at_values (List ℕ) t (laid t) v ≡ line t v
laid_is_line t v = laid_line t [] v

-- what is written of allowed values is read as them
pub written_reads : {E X : Type 0} (fault : InputCause → ℕ → E) (t : Table) (f : By t X) (v : Values t) → AllAllowed t v → fields_reading fault X t f 0 (at_values (List ℕ) t (laid t) v) ≡ Ok (at_values X t f v)
written_reads {E} {X} fault t f v a =
    ap (fields_reading fault X t f 0) (laid_is_line t v)
    ∙ walk_law E X fault t f (line t v)
    ∙ ap (λ (o : Option _). outcome fault o (at_values X t f (values t (line t v)))) (fields_none t 1 v a)
    ∙ ap (λ (w : Values t). Ok (at_values X t f w)) (values_line t v a)
