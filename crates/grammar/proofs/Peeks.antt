-- A line shows which line it is: VOL1 whether it names a number or a mark, a record whether it is a contra, and EOF1 that it is no payment.
use Rattle.std.proofs.Common.{◌≡◌, ℕ, ◌+◌, ◌≤◌, Bool, true, false, not, ◌&&◌, eqb, leb, List, [], ◌∷◌, ◌++◌, length, take, drop, codes, sym, refl, ap, ◌∙◌, inl, inr, arith, length-append}
use Rattle.std.specs.Char.{is_ascii_digit}
use Rattle.std.specs.Str.{bytes_eq}
use Rattle.std.proofs.lemmas.Slice.Eq.{bytes_eq-Decides}
use Rattle.std.proofs.lemmas.List.{drop_at, drop-drop, take_at}
use Rattle.std.proofs.lemmas.Bool.{and_from, and_left, and_parts, and_right, false≢true, le-leb, leb-true, ne_eqb, not-true, or_cases}
use Rattle.terms.specs.declared.service.Service.{Service}
use Rattle.terms.specs.declared.service.Service.TheVariants.{Credits, Debits, FasterPayments}
use Rattle.digits.specs.Decimal.{all_digits}
use Rattle.digits.proofs.Numbers.{all_decimal}
use Rattle.tables.specs.Forms.{shown}
use Rattle.tables.specs.Forms.Form.{decimals}
use Rattle.tables.specs.Kinds.{Allowed}
use Rattle.tables.specs.Walks.{part}
use Rattle.tables.proofs.Showing.{shown_length}
use Rattle.fields.specs.Characters.{one_of}
use Rattle.fields.specs.Words.{blank, code, codes_of, contra_code_text}
use Rattle.labels.specs.declared.header.Hdr1Free.{Hdr1Free}
use Rattle.labels.specs.Volumes.{has_sun}
use Rattle.labels.specs.Volumes.OwnerSays.{numbered, marked}
use Rattle.records.specs.Contras.{contra_shown}
use Rattle.records.specs.Payments.{OriginatorSays}
use Rattle.grammar.specs.Files.{VolumeFits, contra_image, eof1_image, payment_image, vol1_image}
use Rattle.grammar.specs.Headings.{Batch, Entry, Top}
use Rattle.grammar.specs.Next.{is_eof1}

-- past a field
skip : (xs rest : List ℕ) (n k : ℕ) → length xs ≡ k → drop (k + n) (xs ++ rest) ≡ drop n rest
skip xs rest n k e = sym (drop-drop n k (xs ++ rest)) ∙ ap (drop n) (drop_at xs rest k e)

-- what is one of some choices is none of the others
abbrev apart : List (List ℕ) → List ℕ → Bool
apart [] c = true
apart (x ∷ xs) c = not (bytes_eq x c) && apart xs c

other : (cs : List (List ℕ)) (c v : List ℕ) → apart cs c ≡ true → one_of cs v ≡ true → bytes_eq v c ≡ false
other [] c v a h = absurd (false≢true h)
other (x ∷ xs) c v a h =
    let p = and_parts (not (bytes_eq x c)) (apart xs c) a in
    elim (or_cases (bytes_eq v x) (one_of xs v) h) [
      | inl e ↦ ap (λ y. bytes_eq y c) ((bytes_eq-Decides v x).0 e) ∙ not-true (bytes_eq x c) p.0
      | inr e ↦ other xs c v p.1 e
    ]

-- VOL1

pub sun_shows : (n : ℕ) (s a : List ℕ) → VolumeFits (numbered n) s a → has_sun (vol1_image (numbered n) s a) ≡ true
unfolding has_sun part
sun_shows n s a k = ap (λ (l : List ℕ). bytes_eq (take 6 l) (blank 6)) (skip s _ 21 6 k.serial.0 ∙ skip a _ 20 1 k.access.0)

pub mark_shows : (m s a : List ℕ) → VolumeFits (marked m) s a → has_sun (vol1_image (marked m) s a) ≡ false
unfolding has_sun part
mark_shows m s a k =
    ap (λ (l : List ℕ). bytes_eq (take 6 l) (blank 6)) (skip s _ 21 6 k.serial.0 ∙ skip a _ 20 1 k.access.0)
    ∙ ap (λ (l : List ℕ). bytes_eq l (blank 6)) (take_at m _ 6 k.owner.0)
    ∙ other (codes "HSBC  " ∷ codes "SAGE  " ∷ []) (blank 6) m refl k.owner.1.0

-- Records.

codes_apart : (g : Service) → apart (codes_of g) (contra_code_text g) ≡ true
codes_apart Credits = refl
codes_apart Debits = refl
codes_apart FasterPayments = refl

two : (g : Service) → length (contra_code_text g) ≡ 2
two Credits = refl
two Debits = refl
two FasterPayments = refl

-- a record begins with two numbers and a zero, and then has its code
abbrev begins : ℕ → ℕ → List ℕ → List ℕ → List ℕ
begins s a c rest = shown (decimals 6) s ++ (shown (decimals 8) a ++ (codes "0" ++ (c ++ rest)))

code_stands : (s a : ℕ) (c rest : List ℕ) → length c ≡ 2 → part 15 17 (begins s a c rest) ≡ c
unfolding part
code_stands s a c rest e =
    ap (take 2) (skip (shown (decimals 6) s) _ 9 6 (shown_length (decimals 6) s) ∙ skip (shown (decimals 8) a) _ 1 8 (shown_length (decimals 8) a))
    ∙ take_at c rest 2 e

no_contra : (g : Service) (s a : ℕ) (c rest : List ℕ) → Allowed (code g) c → contra_shown g (begins s a c rest) ≡ false
no_contra g s a c rest k =
    and_right (leb 17 (length (begins s a c rest))) _
    (ap (λ (l : List ℕ). bytes_eq l (contra_code_text g)) (code_stands s a c rest k.0) ∙ other (codes_of g) (contra_code_text g) c (codes_apart g) k.1.0)

pub payment_shows : (g : Service) (multi : Bool) (o : OriginatorSays) (day : ℕ) (e : Entry) → Allowed (code g) e.code → contra_shown g (payment_image multi o day e) ≡ false
payment_shows g true o day e k = no_contra g e.sort_code e.account e.code _ k
payment_shows g false o day e k = no_contra g e.sort_code e.account e.code _ k

long : (s a : ℕ) (c rest : List ℕ) → length c ≡ 2 → 17 ≤ length (begins s a c rest)
long s a c rest e =
    simp length-append (omega (arith, shown_length (decimals 6) s, shown_length (decimals 8) a))

has_contra : (g : Service) (s a : ℕ) (rest : List ℕ) → contra_shown g (begins s a (contra_code_text g) rest) ≡ true
has_contra g s a rest =
    and_from _ _ (le-leb 17 _ (long s a (contra_code_text g) rest (two g)))
    (ap (λ (l : List ℕ). bytes_eq l (contra_code_text g)) (code_stands s a (contra_code_text g) rest (two g)) ∙ (bytes_eq-Decides (contra_code_text g) (contra_code_text g)).1 refl)

pub contra_shows : (g : Service) (multi : Bool) (o : OriginatorSays) (n : List ℕ) (b : Batch) → contra_shown g (contra_image g multi o n b) ≡ true
contra_shows g true o n b = has_contra g o.sort_code o.account _
contra_shows g false o n b = has_contra g o.sort_code o.account _

-- EOF1

pub eof1_shows : (t : Top) (f : Hdr1Free) → is_eof1 (eof1_image t f) ≡ true
eof1_shows t f = refl

digits_show : (xs rest : List ℕ) → length xs ≡ 6 → all_digits xs ≡ true → is_eof1 (xs ++ rest) ≡ false
digits_show [] rest l h = let z : ⊥ = omega arith in absurd z
digits_show (x ∷ xs) rest l h =
    let d = and_parts (leb 48 x) (leb x 57) (and_parts (is_ascii_digit x) (all_digits xs) h).0 in
    and_left (eqb x 69) _ (ne_eqb x 69 (λ e. omega (arith, leb-true x 57 d.1)))

number_shows : (n : ℕ) (rest : List ℕ) → is_eof1 (shown (decimals 6) n ++ rest) ≡ false
unfolding shown
number_shows n rest = digits_show (shown (decimals 6) n) rest (shown_length (decimals 6) n) (all_decimal 6 n)

pub payment_no_eof1 : (multi : Bool) (o : OriginatorSays) (day : ℕ) (e : Entry) → is_eof1 (payment_image multi o day e) ≡ false
payment_no_eof1 true o day e = number_shows e.sort_code _
payment_no_eof1 false o day e = number_shows e.sort_code _
