-- What is laid out of an allowed value reads as it, and what is read is allowed and is what is laid out of it.
use Rattle.std.proofs.Common.{◌≡◌, Some, None, Ok, Option, refl, subst}
use Rattle.terms.specs.declared.cause.InputCause.{InputCause}
use Rattle.tables.specs.Kinds.{Kind, Value, Allowed, field, judge, says}
use Rattle.tables.specs.Walks.{judged, reading}
use Rattle.tables.proofs.Judging.{field_length, judge-field, says-field, judged_allowed, judged_field}
use Rattle.fields.specs.Laws.{ReadsBack}

no_cause : {V : Type 0} (o : Option InputCause) (x v : V) → judged o x ≡ Ok v → (o ≡ None) × (x ≡ v)
no_cause None x v h = (refl, (cc))
no_cause (Some c) x v h = cc

pub reads_back : (k : Kind) → ReadsBack k
unfolding reading
reads_back k =
    record {
      fills = field_length k;
      reads = λ v a. rw (judge-field k v a, says-field k v a) refl;
      writes =
          λ bs v l h.
          let p = no_cause (judge k bs) (says k bs) v h in
          subst (λ (w : Value k). Allowed k w × (field k w ≡ bs)) p.1 (judged_allowed k bs l p.0, judged_field k bs l p.0);
    }
