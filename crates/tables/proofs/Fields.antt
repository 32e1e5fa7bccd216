-- The fields of a line, one after the other: one that is read leads on to those behind it, and one that is not ends the line with its fault.
use Rattle.std.proofs.Common.{◌≡◌, Ok, Err, Result, ap, ◌∙◌}
use Rattle.tables.specs.Walks.{after}

pub past : {A B E : Type 0} {r : Result A E} {x : A} (f : A → Result B E) {y : Result B E} → Ok x ≡ r → y ≡ f x → y ≡ after r f
past f e h = h ∙ ap (λ q. after q f) e

pub stops : {A B E : Type 0} {r : Result A E} {c : E} (f : A → Result B E) → Err c ≡ r → Err c ≡ after r f
stops f e = ap (λ q. after q f) e
