-- The capitals and digits of a text, compared with the first of them, and those of a serial.
use Rattle.std.proofs.Common.{◌≡◌, ℕ, ◌+◌, ◌<◌, ◌≤◌, Bool, true, false, not, cond, eqb, ltb, List, [], ◌∷◌, filter, Some, None, Option, refl, sym, ap, subst, ◌∙◌, inl, inr, add_comm, add-one, arith, drop, get_or, length}
use Rattle.std.specs.List.{find, position_or_len, prefix_len}
use Rattle.std.proofs.lemmas.List.{drop_all}
use Rattle.std.proofs.lemmas.Bool.{cases_Bool, eq-eqb, ltb-false, ltb-true}
use Rattle.fields.specs.Characters.{at_right, each, is_sign_byte, is_space}
use Rattle.fields.specs.Words.{all_same, same_signs}

pub same_none : (bs : List ℕ) → find is_sign_byte bs ≡ None → same_signs bs ≡ true
same_none [] h = refl
same_none (b ∷ bs) h =
    elim (cases_Bool (is_sign_byte b)) [ inl e ↦ let k = rw e at h in cc | inr e ↦ rw e (same_none bs (rw e at h)) ]

pub same_first : (f : ℕ) (bs : List ℕ) → find is_sign_byte bs ≡ Some f → same_signs bs ≡ each (λ b. eqb b f) (filter is_sign_byte bs)
same_first f [] h = cc
same_first f (b ∷ bs) h =
    elim (cases_Bool (is_sign_byte b)) [
      | inl e ↦ let here : b ≡ f = let k : Some b ≡ Some f = rw e at h in cc in rw (e, here, eq-eqb f f refl) refl
      | inr e ↦ rw e (same_first f bs (rw e at h))
    ]

-- where the first byte stands that passes a test, as `position` answers it
abbrev pub place_of : (ℕ → Bool) → List ℕ → Option ℕ
place_of test bs = cond (ltb (position_or_len test bs) (length bs)) (Some (position_or_len test bs)) None

placed : (b : Bool) (p i : ℕ) → cond b (Some p) None ≡ Some i → (b ≡ true) × (p ≡ i)
placed true p i h = (refl, cc)
placed false p i h = cc

unplaced : (b : Bool) (p : ℕ) → cond b (Some p) None ≡ None → b ≡ false
unplaced true p h = cc
unplaced false p h = refl

first_sign : (bs : List ℕ) → position_or_len is_sign_byte bs < length bs → filter is_sign_byte bs ≡ get_or bs (position_or_len is_sign_byte bs) 0 ∷ filter is_sign_byte (drop (position_or_len is_sign_byte bs + 1) bs)
first_sign [] h = absurd (omega (arith, h))
first_sign (b ∷ bs) h =
    elim (cases_Bool (is_sign_byte b)) [
      | inl e ↦ rw e refl
      | inr e ↦
          let k = rw e at h in
          let more = first_sign bs (omega (arith, k)) in
          rw (e, add_comm, add-one, add-one) (rw add-one at more)
    ]

no_sign : (bs : List ℕ) → length bs ≤ position_or_len is_sign_byte bs → filter is_sign_byte bs ≡ []
no_sign [] h = refl
no_sign (b ∷ bs) h =
    elim (cases_Bool (is_sign_byte b)) [
      | inl e ↦ absurd (let k = rw e at h in omega (arith, k))
      | inr e ↦ let k = rw e at h in rw e (no_sign bs (omega (arith, k)))
    ]

-- those after the first are compared with it
pub same_after : (bs : List ℕ) (i : ℕ) → place_of is_sign_byte bs ≡ Some i → same_signs bs ≡ each (λ b. eqb b (get_or bs i 0)) (filter is_sign_byte (drop (i + 1) bs))
same_after bs i h =
    let p = placed (ltb (position_or_len is_sign_byte bs) (length bs)) (position_or_len is_sign_byte bs) i h in
    subst (λ j. same_signs bs ≡ each (λ b. eqb b (get_or bs j 0)) (filter is_sign_byte (drop (j + 1) bs))) p.1 (ap all_same (first_sign bs (ltb-true _ _ p.0)))

-- by any names of the first sign and of what is behind it
pub same_behind : (bs : List ℕ) (i : ℕ) (sign : ℕ) (behind : List ℕ) → place_of is_sign_byte bs ≡ Some i → sign ≡ get_or bs i 0 → behind ≡ drop (i + 1) bs → each (λ b. eqb b sign) (filter is_sign_byte behind) ≡ same_signs bs
same_behind bs i sign behind h s d = rw (s, d) (sym (same_after bs i h))

pub same_without : (bs : List ℕ) → place_of is_sign_byte bs ≡ None → same_signs bs ≡ true
same_without bs h =
    let none = unplaced (ltb (position_or_len is_sign_byte bs) (length bs)) (position_or_len is_sign_byte bs) h in
    ap all_same (no_sign bs (ltb-false _ _ none))

-- what is left of a serial after its spaces
pub right_signs : (bs : List ℕ) → at_right bs ≡ each is_sign_byte (drop (prefix_len is_space bs) bs)
right_signs [] = refl
right_signs (b ∷ bs) =
    elim (cases_Bool (is_space b)) [
      | inl e ↦ rw (e, add_comm, add-one) (right_signs bs)
      | inr e ↦ rw e refl
    ]

-- the signs of a serial begin where its spaces end
right_at : (bs : List ℕ) → at_right bs ≡ each is_sign_byte (drop (position_or_len (λ b. not (is_space b)) bs) bs)
right_at [] = refl
right_at (b ∷ bs) =
    elim (cases_Bool (is_space b)) [
      | inl e ↦ rw (e, add_comm, add-one) (right_at bs)
      | inr e ↦ rw e refl
    ]

pub right_behind : (bs : List ℕ) (i : ℕ) (behind : List ℕ) → place_of (λ b. not (is_space b)) bs ≡ Some i → behind ≡ drop i bs → each is_sign_byte behind ≡ at_right bs
right_behind bs i behind h d =
    let n = position_or_len (λ b. not (is_space b)) bs in
    let p = placed (ltb n (length bs)) n i h in
    rw d (sym (right_at bs ∙ ap (λ j. each is_sign_byte (drop j bs)) p.1))

pub right_without : (bs : List ℕ) → place_of (λ b. not (is_space b)) bs ≡ None → at_right bs ≡ true
right_without bs h =
    let n = position_or_len (λ b. not (is_space b)) bs in
    let none = unplaced (ltb n (length bs)) n h in
    right_at bs ∙ ap (each is_sign_byte) (drop_all n bs (ltb-false _ _ none))
