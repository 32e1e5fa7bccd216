-- What is read of a field's bytes, put at the field's place in its line.
use Rattle.std.proofs.Common.{◌≡◌, ℕ, MatchResult, IsErrAnd, IfOk, List, length, Some, None, Ok, Err, Option, Result, refl, ap, subst, sym, ◌∙◌}
use Rattle.std.specs.Result.{result_map_both}
use Rattle.terms.specs.declared.cause.InputCause.{InputCause}
use Rattle.tables.specs.Kinds.{Allowed, Kind, Rule, Value, broken, says, width}
use Rattle.tables.specs.Kinds.Kind.{fixed, letters}
use Rattle.tables.specs.Walks.{after, judged, placed, reading}
use Rattle.fields.proofs.ReadingBack.{reads_back}
use Rattle.fields.specs.Judging.{verdict}

-- a cause that gets its position, in whatever a fault is
pub placed_by : {A V E : Type 0} (says : A → V) (fault : InputCause → ℕ → E) (p : ℕ) (P : InputCause → E → Type 0) → ((c : InputCause) (e : E) → P c e → e ≡ fault c p) →
    (r : Result A InputCause) (q : Result A E) → MatchResult r (λ x. q ≡ Ok x) (λ c. IsErrAnd q (P c)) → result_map_both says (λ e. e) q ≡ placed fault p (result_map_both says (λ e. e) r)
placed_by says fault p P h (Ok x) q m = ap (result_map_both says (λ e. e)) m
placed_by says fault p P h (Err c) (Ok x) m = absurd m
placed_by says fault p P h (Err c) (Err e) m = ap Err (h c e m)

-- what a field says that stands as it is in the tables
pub as_said : {A E : Type 0} (r : Result A E) → result_map_both (λ v. v) (λ e. e) r ≡ r
as_said (Ok x) = refl
as_said (Err e) = refl

-- fixed contents say nothing
pub fixed_says : (c : InputCause) (bs xs : List ℕ) {r : Result (Unit {0}) InputCause} → r ≡ verdict (fixed c bs) xs → result_map_both (λ v. v) (λ e. e) r ≡ reading (fixed c bs) xs
unfolding reading
fixed_says c bs xs {r} h = as_said r ∙ h

-- bytes that are judged, and then taken
pub letters_say : (w : ℕ) (rs : List (Rule (List ℕ))) (xs : List ℕ) {v : Result (Unit {0}) InputCause} {r : Result (List ℕ) InputCause} → v ≡ verdict (letters w rs) xs → r ≡ after v (λ _. Ok xs) → result_map_both (λ x. x) (λ e. e) r ≡ reading (letters w rs) xs
unfolding reading
letters_say w rs xs {r = r} h e = as_said r ∙ e ∙ ap (λ (v : Result (Unit {0}) InputCause). after v (λ _. Ok xs)) h ∙ by_verdict (broken rs xs)
  where
    by_verdict : (o : Option InputCause) → after (judged o (tt {0})) (λ _. Ok xs) ≡ judged o xs
    by_verdict None = refl
    by_verdict (Some c) = refl

-- what is read is allowed by its kind, at its place in the line too
pub placed_allowed : {A E : Type 0} (k : Kind) (says : A → Value k) (bs : List ℕ) (P : InputCause → E → Type 0) (r : Result A InputCause) (q : Result A E) → length bs ≡ width k → result_map_both says (λ e. e) r ≡ reading k bs →
    MatchResult r (λ x. q ≡ Ok x) (λ c. IsErrAnd q (P c)) → IfOk q (λ v. Allowed k (says v))
placed_allowed k says bs P (Ok x) q wide h m = subst (λ o. IfOk o (λ v. Allowed k (says v))) (sym m) ((reads_back k).writes bs (says x) wide (sym h)).0
placed_allowed k says bs P (Err c) (Ok x) wide h m = absurd m
placed_allowed k says bs P (Err c) (Err e) wide h m = tt
