-- No field of an allowed value holds a line feed, so no line that is written does.
use Rattle.std.proofs.Common.{◌≡◌, ℕ, Bool, true, false, cond, not, ◌&&◌, eqb, leb, List, [], ◌∷◌, ◌++◌, Some, sym, refl, subst, inl, inr, arith}
use Rattle.std.specs.Char.{is_ascii_digit}
use Rattle.std.specs.List.{AllByRecursion}
use Rattle.std.specs.Str.{bytes_eq}
use Rattle.std.proofs.lemmas.Slice.Eq.{bytes_eq-Decides}
use Rattle.std.proofs.lemmas.Bool.{and_from, and_parts, or_cases, false≢true, both_ways, eqb-true, leb-true, ne_eqb, not_from_false}
use Rattle.terms.specs.declared.service.Service.{Service}
use Rattle.terms.specs.declared.service.Service.TheVariants.{Credits, Debits, FasterPayments}
use Rattle.digits.specs.Decimal.{all_digits, decimal}
use Rattle.digits.proofs.Numbers.{all_decimal}
use Rattle.days.specs.Dates.{year_day}
use Rattle.tables.specs.Forms.{Form, shown}
use Rattle.tables.specs.Forms.Form.{decimals, dates}
use Rattle.tables.specs.Kinds.{Rule, Keeps, Kind}
use Rattle.tables.specs.Kinds.Kind.{fixed, letters, number}
use Rattle.tables.specs.Lines.{Table, Values, AllAllowed, line, at_values}
use Rattle.tables.specs.Laying.{laid}
use Rattle.tables.proofs.Written.{laid_is_line}
use Rattle.fields.specs.Characters.{each, one_of, is_space, is_sign_byte, is_letter, is_after_slash, at_right}
use Rattle.fields.specs.Words.{slashed, choice, digits_or_spaces, is_spare_text, serial, text, filled, reference, codes_of, contra_code_text, code, free_format}
use Rattle.lines.specs.Feeds.{plain}
use Rattle.places.specs.Given.{letters_given}

abbrev pub PlainLines : List (List ℕ) → Type 0
PlainLines ls = AllByRecursion (λ l. plain l ≡ true) ls

plain_append : (xs ys : List ℕ) → plain xs ≡ true → plain ys ≡ true → plain (xs ++ ys) ≡ true
plain_append [] ys h k = k
plain_append (x ∷ xs) ys h k = let p = and_parts (not (eqb x 10)) (plain xs) h in and_from _ _ p.0 (plain_append xs ys p.1 k)

digits_plain : (xs : List ℕ) → all_digits xs ≡ true → plain xs ≡ true
digits_plain [] h = refl
digits_plain (x ∷ xs) h =
    let p = and_parts (is_ascii_digit x) (all_digits xs) h in
    let low = leb-true 48 x (and_parts (leb 48 x) (leb x 57) p.0).0 in
    and_from _ _ (not_from_false _ (ne_eqb x 10 (λ e. omega arith))) (digits_plain xs p.1)

pub shown_plain : (m : Form) (n : ℕ) → plain (shown m n) ≡ true
unfolding shown
shown_plain (decimals w) n = digits_plain (decimal w n) (all_decimal w n)
shown_plain dates d = digits_plain (decimal 5 (year_day d)) (all_decimal 5 (year_day d))

-- a kind whose fields hold no line feed
abbrev pub PlainKind : Kind → Type 0
PlainKind (fixed c bs) = plain bs ≡ true
PlainKind (letters w rs) = (v : List ℕ) → Keeps rs v → plain v ≡ true
PlainKind (number m c rs) = Unit {0}

abbrev pub PlainTable : Table → Type 0
PlainTable [] = Unit {0}
PlainTable (k ∷ ks) = PlainKind k × PlainTable ks

pub line_plain : (t : Table) (v : Values t) → PlainTable t → AllAllowed t v → plain (line t v) ≡ true
line_plain [] v p a = refl
line_plain (fixed c bs ∷ ks) v p a = plain_append bs (line ks v) p.0 (line_plain ks v p.1 a)
line_plain (letters w rs ∷ ks) v p a = plain_append v.0 (line ks v.1) (p.0 v.0 a.0.1) (line_plain ks v.1 p.1 a.1)
line_plain (number m c rs ∷ ks) v p a = plain_append (shown m v.0) (line ks v.1) (shown_plain m v.0) (line_plain ks v.1 p.1 a.1)

-- a test that a line feed fails
pub passed : (test : ℕ → Bool) → test 10 ≡ false → (b : ℕ) → test b ≡ true → not (eqb b 10) ≡ true
passed test fails b h = go (eqb b 10) refl
  where
    go : (t : Bool) → eqb b 10 ≡ t → not t ≡ true
    go false e = refl
    go true e = absurd (both_ways (test 10) fails (subst (λ x. test x ≡ true) (eqb-true b 10 e) h))

pub each_plain : (test : ℕ → Bool) → test 10 ≡ false → (v : List ℕ) → each test v ≡ true → plain v ≡ true
each_plain test fails [] h = refl
each_plain test fails (b ∷ v) h = let p = and_parts (test b) (each test v) h in and_from _ _ (passed test fails b p.0) (each_plain test fails v p.1)

pub one_of_plain : (cs : List (List ℕ)) (v : List ℕ) → PlainLines cs → one_of cs v ≡ true → plain v ≡ true
one_of_plain [] v p h = absurd (false≢true h)
one_of_plain (c ∷ cs) v p h = elim (or_cases (bytes_eq v c) (one_of cs v) h) [
  | inl e ↦ subst (λ x. plain x ≡ true) (sym ((bytes_eq-Decides v c).0 e)) p.0
  | inr e ↦ one_of_plain cs v p.1 e
]

pub at_right_plain : (v : List ℕ) → at_right v ≡ true → plain v ≡ true
at_right_plain [] h = refl
at_right_plain (b ∷ v) h = go (at_right_plain v) (is_space b) refl h
  where
    go : (at_right v ≡ true → plain v ≡ true) → (t : Bool) → is_space b ≡ t → cond t (at_right v) (is_sign_byte b && each is_sign_byte v) ≡ true → plain (b ∷ v) ≡ true
    go later true e k = and_from _ _ (passed is_space refl b e) (later k)
    go later false e k = let p = and_parts (is_sign_byte b) (each is_sign_byte v) k in and_from _ _ (passed is_sign_byte refl b p.0) (each_plain is_sign_byte refl v p.1)

pub serial_plain : PlainKind serial
serial_plain v k = at_right_plain v k.0

pub choice_plain : (w : ℕ) (cs : List (List ℕ)) → PlainLines cs → PlainKind (choice w cs)
choice_plain w cs p v k = one_of_plain cs v p k.0

pub spare_plain : (w : ℕ) → PlainKind (digits_or_spaces w)
unfolding is_spare_text
spare_plain w v k = elim (or_cases (all_digits v) (each is_space v) k.0) [ inl e ↦ digits_plain v e | inr e ↦ each_plain is_space refl v e ]

pub no_feed_letter : (g : Service) → is_letter g 10 ≡ false
no_feed_letter Credits = refl
no_feed_letter Debits = refl
no_feed_letter FasterPayments = refl

pub text_plain : (g : Service) → PlainKind (text g)
text_plain g v k = each_plain (is_letter g) (no_feed_letter g) v k.0

pub filled_plain : (g : Service) → PlainKind (filled g)
filled_plain g v k = each_plain (is_letter g) (no_feed_letter g) v k.0

pub reference_plain : (g : Service) → PlainKind (reference g)
reference_plain g v k = each_plain (is_letter g) (no_feed_letter g) v k.0

pub codes_plain : (g : Service) → PlainLines (codes_of g)
codes_plain Credits = (refl, (refl, (refl, tt)))
codes_plain Debits = (refl, (refl, (refl, (refl, tt))))
codes_plain FasterPayments = (refl, (refl, (refl, tt)))

pub code_plain : (g : Service) → PlainKind (code g)
code_plain g v k = one_of_plain (codes_of g) v (codes_plain g) k.0

pub slashed_plain : (v : List ℕ) → slashed v ≡ true → plain v ≡ true
slashed_plain [] h = refl
slashed_plain (b ∷ v) h =
    let p = and_parts (eqb b 47) (each is_after_slash v) h in
    and_from _ _ (passed (λ x. eqb x 47) refl b p.0) (each_plain is_after_slash refl v p.1)

pub format_plain : (g : Service) → PlainKind (free_format g)
format_plain Credits v k = elim (or_cases (each is_space v) (slashed v) k.0) [ inl e ↦ each_plain is_space refl v e | inr e ↦ slashed_plain v e ]
format_plain Debits v k = each_plain is_space refl v k.0
format_plain FasterPayments v k = each_plain is_space refl v k.0

pub contra_code_plain : (g : Service) → plain (contra_code_text g) ≡ true
contra_code_plain Credits = refl
contra_code_plain Debits = refl
contra_code_plain FasterPayments = refl

-- a line that is laid out from the left
pub laid_plain : (t : Table) (v : Values t) → PlainTable t → AllAllowed t v → plain (at_values (List ℕ) t (laid t) v) ≡ true
laid_plain t v p a = subst (λ (l : List ℕ). plain l ≡ true) (sym (laid_is_line t v)) (line_plain t v p a)

-- bytes that earlier lines fix
pub given_plain : (w : ℕ) (rs : List (Rule (List ℕ))) (text : List ℕ) → plain text ≡ true → PlainKind (letters_given w rs (Some text))
given_plain w rs text p v k = subst (λ (l : List ℕ). plain l ≡ true) (sym ((bytes_eq-Decides v text).0 k.0)) p
