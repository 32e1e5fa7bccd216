-- Bytes that are one of some listed contents, blank, digits, or after a slash.
use Rattle.std.proofs.Common.{◌≡◌, ℕ, ◌-◌, Bool, true, false, cond, is_ok, ◌&&◌, eqb, List, [], ◌∷◌, length, get_or, take, drop, map, Some, None, Ok, Err, Option, Result, sym, refl, ap, ◌∙◌, inl, inr, arith}
use Rattle.std.specs.Char.{is_ascii_digit}
use Rattle.std.specs.Option.{ok_or}
use Rattle.std.specs.Result.{result_map_both}
use Rattle.std.specs.List.{find}
use Rattle.std.specs.Str.{bytes_eq}
use Rattle.std.proofs.lemmas.Slice.Eq.{bytes_eq-Decides}
use Rattle.std.proofs.lemmas.List.{length-replicate, take_rest}
use Rattle.std.proofs.lemmas.Bool.{cases_Bool, eq-eqb}
use Rattle.terms.specs.declared.cause.InputCause.{InputCause}
use Rattle.digits.specs.Decimal.{all_digits}
use Rattle.tables.specs.Kinds.{Kind, Value, judge}
use Rattle.tables.specs.Kinds.Kind.{letters}
use Rattle.tables.specs.Walks.{judged, reading}
use Rattle.fields.specs.Characters.{each, is_after_slash, is_space, one_of}
use Rattle.fields.specs.Judging.{verdict}
use Rattle.fields.specs.Words.{blank, rule, slashed}

-- a field with listed contents: one of these, else the cause
abbrev listed : ℕ → InputCause → List (List ℕ) → Kind
listed w c cs = letters w (rule c (one_of cs) ∷ [])

-- what is found among values by their texts says its text, or else the cause
pub found : {X : Type 0} (says : X → List ℕ) (w : ℕ) (c : InputCause) (xs : List X) (bs : List ℕ) → result_map_both says (λ e. e) (ok_or (find (λ x. bytes_eq bs (says x)) xs) c) ≡ reading (listed w c (map says xs)) bs
unfolding reading
found says w c [] bs = refl
found says w c (x ∷ xs) bs =
    elim (cases_Bool (bytes_eq bs (says x))) [
      | inl e ↦ let same : bs ≡ says x = (bytes_eq-Decides bs (says x)).0 e in rw e (ap Ok (sym same))
      | inr e ↦ rw e (found says w c xs bs)
    ]

-- only whether something is wrong, and what
abbrev cause_of : {X : Type 0} → Result X InputCause → Result (Unit {0}) InputCause
cause_of (Ok x) = Ok tt
cause_of (Err e) = Err e

judged_same : {V X : Type 0} (says : X → V) (o : Option InputCause) (v : V) (r : Result X InputCause) → result_map_both says (λ e. e) r ≡ judged o v → cause_of r ≡ judged {V = Unit {0}} o tt
judged_same says None v (Ok x) h = refl
judged_same says None v (Err e) h = cc
judged_same says (Some d) v (Ok x) h = cc
judged_same says (Some d) v (Err e) h = cc

-- what is read without a fault has none
pub read_verdict : {X : Type 0} (k : Kind) (says : X → Value k) (bs : List ℕ) (r : Result X InputCause) → result_map_both says (λ e. e) r ≡ reading k bs → cause_of r ≡ verdict k bs
unfolding reading
read_verdict k says bs r h = judged_same says (judge k bs) _ r h

-- whether one of the listed contents is read, as what is wrong with the bytes
pub read_listed : {X : Type 0} (says : X → List ℕ) (w : ℕ) (c : InputCause) (cs : List (List ℕ)) (bs : List ℕ) (r : Result X InputCause) → result_map_both says (λ e. e) r ≡ reading (listed w c cs) bs → cond (is_ok r) (Ok (tt {0})) (Err c) ≡ verdict (listed w c cs) bs
unfolding reading
read_listed {X} says w c cs bs r h = by_listed (one_of cs bs) r h
  where
    by_listed : (b : Bool) (r : Result X InputCause) → result_map_both says (λ e. e) r ≡ judged (cond b None (Some c)) bs → cond (is_ok r) (Ok (tt {0})) (Err c) ≡ judged (cond b None (Some c)) (tt {0})
    by_listed true (Ok x) h = refl
    by_listed true (Err e) h = cc
    by_listed false (Ok x) h = cc
    by_listed false (Err e) h = refl

pub all_digits_each : (bs : List ℕ) → all_digits bs ≡ each is_ascii_digit bs
all_digits_each [] = refl
all_digits_each (b ∷ bs) = ap (λ x. is_ascii_digit b && x) (all_digits_each bs)

pub blank_spaces : (bs : List ℕ) → each is_space bs ≡ bytes_eq bs (blank (length bs))
blank_spaces [] = refl
blank_spaces (b ∷ bs) = ap (λ x. eqb b 32 && x) (blank_spaces bs)

pub other_width : (bs : List ℕ) (n : ℕ) → (length bs ≡ n → ⊥) → bytes_eq bs (blank n) ≡ false
other_width bs n h =
    elim (cases_Bool (bytes_eq bs (blank n))) [ inl e ↦ absurd (h (ap length ((bytes_eq-Decides bs (blank n)).0 e) ∙ length-replicate n 32)) | inr e ↦ e ]

-- what follows a slash
pub slashed_after : (bs : List ℕ) → get_or bs 0 0 ≡ 47 → each is_after_slash (take (length bs - 1) (drop 1 bs)) ≡ slashed bs
slashed_after [] h = absurd (omega arith)
slashed_after (b ∷ bs) h = rw (take_rest (b ∷ bs) 1, eq-eqb b 47 h)
