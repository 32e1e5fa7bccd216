-- A table tiles its line: the laws of fields hold of lines.
use Rattle.std.proofs.Common.{◌≡◌, ℕ, ◌+◌, ◌≤◌, Bool, true, false, cond, eqb, List, [], ◌∷◌, ◌++◌, length, take, drop, Some, None, Option, sym, refl, ap, ◌∙◌, inl, inr, append_assoc, arith, length-append, length-drop}
use Rattle.std.proofs.lemmas.List.{take_at, drop_at, length-take-le, take-append-drop}
use Rattle.std.proofs.lemmas.Bool.{eq-eqb, eqb-true, eqb-false, ne_eqb}
use Rattle.tables.specs.Forms.{form_width, shown, read_form}
use Rattle.terms.specs.declared.cause.InputCause.{InputCause}
use Rattle.tables.specs.Kinds.{Kind, width, Value, Allowed, field, judge, says, value_of}
use Rattle.tables.specs.Kinds.Kind.{fixed, letters, number}
use Rattle.tables.specs.Lines.{Table, line_width, Values, AllAllowed, line, TableFault, or_later, fields_fault, wrong_width, line_fault, values, LineLaw, TableFieldFault, FirstIn, FaultLaw}
use Rattle.tables.proofs.Judging.{some_none, no_fault, field_length, judge-field, says-field, judged_allowed, judged_field}

-- A field in front.

module _ (k : Kind) (x : Value k) (a : Allowed k x) (r : List ℕ) where
  front_taken : take (width k) (field k x ++ r) ≡ field k x
  front_taken = take_at (field k x) r (width k) (field_length k x a)

  front_dropped : drop (width k) (field k x ++ r) ≡ r
  front_dropped = drop_at (field k x) r (width k) (field_length k x a)

  front_says : says k (take (width k) (field k x ++ r)) ≡ x
  front_says = ap (says k) front_taken ∙ says-field k x a

  -- it has no fault
  front_on : (ks : Table) (place : ℕ) → fields_fault (k ∷ ks) place (field k x ++ r) ≡ fields_fault ks (width k + place) r
  unfolding fields_fault
  front_on ks place = rw (front_taken, front_dropped, judge-field k x a)

  front_length : (n : ℕ) → length r ≡ n → length (field k x ++ r) ≡ width k + n
  front_length n e = length-append (field k x) r ∙ omega (arith, field_length k x a)

-- A line of the language.

pub line_length : (t : Table) (v : Values t) → AllAllowed t v → length (line t v) ≡ line_width t
line_length [] v a = refl
line_length (fixed c bs ∷ ks) v a = front_length (fixed c bs) tt tt (line ks v) _ (line_length ks v a)
line_length (letters w rs ∷ ks) v a = front_length (letters w rs) v.0 a.0 (line ks v.1) _ (line_length ks v.1 a.1)
line_length (number m c rs ∷ ks) v a = front_length (number m c rs) v.0 a.0 (line ks v.1) _ (line_length ks v.1 a.1)

-- the fields in front have no fault, and what follows them is judged
fields_on : (t ks : Table) (place : ℕ) (v : Values t) → AllAllowed t v → (r : List ℕ) → fields_fault (t ++ ks) place (line t v ++ r) ≡ fields_fault ks (line_width t + place) r
fields_on [] ks place v a r = ap (λ n. fields_fault ks n r) (omega arith)
fields_on (fixed c bs ∷ t) ks place v a r =
    ap (fields_fault (fixed c bs ∷ (t ++ ks)) place) (append_assoc bs (line t v) r)
    ∙ front_on (fixed c bs) tt tt (line t v ++ r) (t ++ ks) place ∙ fields_on t ks (length bs + place) v a r ∙ ap (λ n. fields_fault ks n r) (omega arith)
fields_on (letters w rs ∷ t) ks place v a r =
    ap (fields_fault (letters w rs ∷ (t ++ ks)) place) (append_assoc v.0 (line t v.1) r)
    ∙ front_on (letters w rs) v.0 a.0 (line t v.1 ++ r) (t ++ ks) place ∙ fields_on t ks (w + place) v.1 a.1 r ∙ ap (λ n. fields_fault ks n r) (omega arith)
fields_on (number m c rs ∷ t) ks place v a r =
    ap (fields_fault (number m c rs ∷ (t ++ ks)) place) (append_assoc (shown m v.0) (line t v.1) r)
    ∙ front_on (number m c rs) v.0 a.0 (line t v.1 ++ r) (t ++ ks) place ∙ fields_on t ks (form_width m + place) v.1 a.1 r ∙ ap (λ n. fields_fault ks n r) (omega arith)

pub fields_none : (t : Table) (place : ℕ) (v : Values t) → AllAllowed t v → fields_fault t place (line t v) ≡ None
unfolding fields_fault
fields_none [] place v a = refl
fields_none (fixed c bs ∷ ks) place v a = front_on (fixed c bs) tt tt (line ks v) ks place ∙ fields_none ks (length bs + place) v a
fields_none (letters w rs ∷ ks) place v a = front_on (letters w rs) v.0 a.0 (line ks v.1) ks place ∙ fields_none ks (w + place) v.1 a.1
fields_none (number m c rs ∷ ks) place v a = front_on (number m c rs) v.0 a.0 (line ks v.1) ks place ∙ fields_none ks (form_width m + place) v.1 a.1

pub line_none : (t : Table) (v : Values t) → AllAllowed t v → line_fault t (line t v) ≡ None
unfolding line_fault
line_none t v a = rw (eq-eqb (length (line t v)) (line_width t) (line_length t v a)) (fields_none t 1 v a)

pub values_line : (t : Table) (v : Values t) → AllAllowed t v → values t (line t v) ≡ v
unfolding values
values_line [] v a = refl
values_line (fixed c bs ∷ ks) v a = rw (front_dropped (fixed c bs) tt tt (line ks v)) (values_line ks v a)
values_line (letters w rs ∷ ks) v a = rw (front_dropped (letters w rs) v.0 a.0 (line ks v.1), front_says (letters w rs) v.0 a.0 (line ks v.1), values_line ks v.1 a.1)
values_line (number m c rs ∷ ks) v a = rw (front_dropped (number m c rs) v.0 a.0 (line ks v.1), front_says (number m c rs) v.0 a.0 (line ks v.1), values_line ks v.1 a.1)

-- A line with no fault.

inside : {X : Type 0} {x y : X} → ◌≡◌ {A = Option X} (Some x) (Some y) → x ≡ y
inside h = cc

split_later : (place : ℕ) (o : Option InputCause) (later : Option TableFault) → or_later place o later ≡ None → (o ≡ None) × (later ≡ None)
split_later place None later e = (refl, e)
split_later place (Some c) later e = absurd (some_none _ e)

module _ (k : Kind) (ks : Table) (l : List ℕ) (long : length l ≡ width k + line_width ks) where
  front_wide : length (take (width k) l) ≡ width k
  front_wide = let fits : width k ≤ length l = omega arith in length-take-le (width k) l fits

  back_wide : length (drop (width k) l) ≡ line_width ks
  back_wide = length-drop (width k) l ∙ omega arith

  -- the first field, if it has no fault
  pub record Split (place : ℕ) : Type 0 where
    pub allowed : Allowed k (says k (take (width k) l))
    pub is : field k (says k (take (width k) l)) ≡ take (width k) l
    pub later : fields_fault ks (width k + place) (drop (width k) l) ≡ None

  split : (place : ℕ) → fields_fault (k ∷ ks) place l ≡ None → Split place
  unfolding fields_fault
  split place h =
      let parts = split_later place (judge k (take (width k) l)) (fields_fault ks (width k + place) (drop (width k) l)) h in
      record { allowed = judged_allowed k (take (width k) l) front_wide parts.0; is = judged_field k (take (width k) l) front_wide parts.0; later = parts.1 }

  rejoined : (xs ys : List ℕ) → xs ≡ take (width k) l → ys ≡ drop (width k) l → xs ++ ys ≡ l
  rejoined xs ys e f = ap (λ x. x ++ ys) e ∙ ap (λ y. take (width k) l ++ y) f ∙ take-append-drop (width k) l

sound_fields : (t : Table) (place : ℕ) (l : List ℕ) → length l ≡ line_width t → fields_fault t place l ≡ None → AllAllowed t (values t l) × (line t (values t l) ≡ l)
unfolding values
sound_fields [] place [] long h = (tt, refl)
sound_fields [] place (b ∷ l) long h = let z : ⊥ = omega arith in absurd z
sound_fields (fixed c bs ∷ ks) place l long h =
    let s = split (fixed c bs) ks l long place h in
    let later = sound_fields ks (length bs + place) (drop (length bs) l) (back_wide (fixed c bs) ks l long) s.later in
    (later.0, rejoined (fixed c bs) ks l long bs (line ks (values ks (drop (length bs) l))) s.is later.1)
sound_fields (letters w rs ∷ ks) place l long h =
    let s = split (letters w rs) ks l long place h in
    let later = sound_fields ks (w + place) (drop w l) (back_wide (letters w rs) ks l long) s.later in
    ((s.allowed, later.0), rejoined (letters w rs) ks l long (take w l) (line ks (values ks (drop w l))) s.is later.1)
sound_fields (number m c rs ∷ ks) place l long h =
    let s = split (number m c rs) ks l long place h in
    let n = form_width m in
    let later = sound_fields ks (n + place) (drop n l) (back_wide (number m c rs) ks l long) s.later in
    ((s.allowed, later.0), rejoined (number m c rs) ks l long (shown m (value_of (read_form m (take n l)))) (line ks (values ks (drop n l))) s.is later.1)

pub line_sound : (t : Table) (l : List ℕ) → line_fault t l ≡ None → AllAllowed t (values t l) × (line t (values t l) ≡ l)
unfolding line_fault
line_sound t l h =
    let parts = no_fault (eqb (length l) (line_width t)) (fields_fault t 1 l) wrong_width h in
    sound_fields t 1 l (eqb-true (length l) (line_width t) parts.0) parts.1

pub line_law : LineLaw
line_law t l = record {
  sound = λ h. let s = line_sound t l h in record { allowed = s.0; is = sym s.1 };
  complete = λ v i. rw i.is (line_none t v i.allowed);
  one = λ v i. rw i.is (values_line t v i.allowed);
}

-- A line with a fault.

module _ (place : ℕ) (l : List ℕ) (e : TableFault) where
  -- a fault behind a field
  behind : (k : Kind) (ks : Table) → Allowed k (says k (take (width k) l)) → field k (says k (take (width k) l)) ≡ take (width k) l → TableFieldFault ks (width k + place) (drop (width k) l) e → TableFieldFault (k ∷ ks) place l e
  behind (fixed c bs) ks a i f = record {
    front = fixed c bs ∷ f.front;
    kind = f.kind;
    back = f.back;
    tiles = ap (λ x. fixed c bs ∷ x) f.tiles;
    before = f.before;
    allowed = f.allowed;
    bytes = f.bytes;
    after = f.after;
    is = sym (take-append-drop (length bs) l) ∙ ap (λ x. x ++ drop (length bs) l) (sym i) ∙ ap (λ x. bs ++ x) f.is ∙ sym (append_assoc bs (line f.front f.before) (f.bytes ++ f.after));
    wide = f.wide;
    faulty = f.faulty;
    at = omega (arith, f.at);
  }
  behind (letters w rs) ks a i f = record {
    front = letters w rs ∷ f.front;
    kind = f.kind;
    back = f.back;
    tiles = ap (λ x. letters w rs ∷ x) f.tiles;
    before = (take w l, f.before);
    allowed = (a, f.allowed);
    bytes = f.bytes;
    after = f.after;
    is = sym (take-append-drop w l) ∙ ap (λ x. take w l ++ x) f.is ∙ sym (append_assoc (take w l) (line f.front f.before) (f.bytes ++ f.after));
    wide = f.wide;
    faulty = f.faulty;
    at = omega (arith, f.at);
  }
  behind (number m c rs) ks a i f =
      let n = form_width m in
      let x = value_of (read_form m (take n l)) in
      record {
        front = number m c rs ∷ f.front;
        kind = f.kind;
        back = f.back;
        tiles = ap (λ x. number m c rs ∷ x) f.tiles;
        before = (x, f.before);
        allowed = (a, f.allowed);
        bytes = f.bytes;
        after = f.after;
        is = sym (take-append-drop n l) ∙ ap (λ y. y ++ drop n l) (sym i) ∙ ap (λ y. shown m x ++ y) f.is ∙ sym (append_assoc (shown m x) (line f.front f.before) (f.bytes ++ f.after));
        wide = f.wide;
        faulty = f.faulty;
        at = omega (arith, f.at);
      }

  judged : (k : Kind) (ks : Table) → length l ≡ width k + line_width ks → (o : Option InputCause) → judge k (take (width k) l) ≡ o → or_later place o (fields_fault ks (width k + place) (drop (width k) l)) ≡ Some e →
      (fields_fault ks (width k + place) (drop (width k) l) ≡ Some e → TableFieldFault ks (width k + place) (drop (width k) l) e) → TableFieldFault (k ∷ ks) place l e
  judged k ks long None j h later =
      let wide = front_wide k ks l long in
      behind k ks (judged_allowed k (take (width k) l) wide j) (judged_field k (take (width k) l) wide j) (later h)
  judged k ks long (Some c) j h later = record {
    front = [];
    kind = k;
    back = ks;
    tiles = refl;
    before = tt;
    allowed = tt;
    bytes = take (width k) l;
    after = drop (width k) l;
    is = sym (take-append-drop (width k) l);
    wide = front_wide k ks l long;
    faulty = j ∙ ap Some (ap (λ x. x.cause) (inside h));
    at = omega (arith, ap (λ x. x.place) (inside h));
  }

to_first : (t : Table) (place : ℕ) (l : List ℕ) (e : TableFault) → length l ≡ line_width t → fields_fault t place l ≡ Some e → TableFieldFault t place l e
unfolding fields_fault
to_first [] place l e long h = absurd (some_none e (sym h))
to_first (k ∷ ks) place l e long h =
    judged place l e k ks long (judge k (take (width k) l)) refl h (to_first ks (width k + place) (drop (width k) l) e (back_wide k ks l long))

from_first : (t : Table) (place : ℕ) (l : List ℕ) (e : TableFault) → TableFieldFault t place l e → fields_fault t place l ≡ Some e
unfolding fields_fault
from_first t place l e f =
    ap (λ x. fields_fault x place l) f.tiles ∙ ap (fields_fault (f.front ++ f.kind ∷ f.back) place) f.is
    ∙ fields_on f.front (f.kind ∷ f.back) place f.before f.allowed (f.bytes ++ f.after)
    ∙ ap (λ x. or_later (line_width f.front + place) (judge f.kind x) (fields_fault f.back (width f.kind + (line_width f.front + place)) (drop (width f.kind) (f.bytes ++ f.after)))) (take_at f.bytes f.after (width f.kind) f.wide)
    ∙ ap (λ o. or_later (line_width f.front + place) o (fields_fault f.back (width f.kind + (line_width f.front + place)) (drop (width f.kind) (f.bytes ++ f.after)))) f.faulty
    ∙ ap (λ n. Some (record { cause = e.cause; place = n })) (sym f.at)

by_width : (t : Table) (l : List ℕ) (e : TableFault) (b : Bool) → eqb (length l) (line_width t) ≡ b → cond b (fields_fault t 1 l) (Some wrong_width) ≡ Some e → FirstIn t l e
by_width t l e true q h = let long = eqb-true (length l) (line_width t) q in inr (long, to_first t 1 l e long h)
by_width t l e false q h = inl (eqb-false (length l) (line_width t) q, sym (inside h))

pub fault_law : FaultLaw
unfolding line_fault
fault_law t l e = (
  by_width t l e (eqb (length l) (line_width t)) refl,
  λ f. elim f [
    | inl x ↦ ap (λ b. cond b (fields_fault t 1 l) (Some wrong_width)) (ne_eqb (length l) (line_width t) x.0) ∙ ap Some (sym x.1)
    | inr x ↦ ap (λ b. cond b (fields_fault t 1 l) (Some wrong_width)) (eq-eqb (length l) (line_width t) x.0) ∙ from_first t 1 l e x.1
  ],
)
