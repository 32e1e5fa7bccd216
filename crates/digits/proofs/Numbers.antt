-- A number in digits is read again, and digits are those of the number that they write.
use Rattle.std.proofs.Common.{◌≡◌, ℕ, zero, suc, ◌+◌, ◌-◌, ◌*◌, ◌/◌, ◌%◌, ◌^◌, ◌<◌, ◌≤◌, Bool, true, false, cond, ◌&&◌, leb, List, [], ◌∷◌, ◌++◌, length, Ok, Err, sym, refl, ap, ◌∙◌, subst, append_assoc, append-nil, reverse, add-zero, mod-lt, div-lt_iff_lt-mul, pow-suc, div-add-mod', zero-add, add-one, arith, length-append}
use native.Mathlib.Nat.{pow-le-pow_right}
use Rattle.std.specs.Char.{is_ascii_digit}
use Rattle.std.proofs.lemmas.List.{reverse-append}
use Rattle.std.proofs.lemmas.Nat.{div-mul-add, mod-mul-add}
use Rattle.std.proofs.lemmas.Bool.{and_from, and_parts, le-leb, leb-true}
use Rattle.terms.specs.declared.cause.InputCause.{InputCause}
use Rattle.digits.specs.Decimal.{all_digits, read_on, number_in, decimal, DigitLaws}

-- The step of the reader: one more digit, and one more power of ten.
pub grown : (n d i : ℕ) → n < 10 ^ i → d < 10 → n * 10 + d < 10 ^ (i + 1)
grown n d i h s = rw (add-one, pow-suc) (omega arith)

pub fits19 : (n i : ℕ) → n < 10 ^ i → i ≤ 19 → n < 10 ^ 19
fits19 n i h le = let m : 10 ^ i ≤ 10 ^ 19 = pow-le-pow_right {n = 10} (omega arith) le in omega arith

-- What is written.

pub length-decimal : (w n : ℕ) → length (decimal w n) ≡ w
unfolding decimal
length-decimal zero n = refl
length-decimal (suc w) n = length-append (decimal w (n / 10)) _ ∙ omega (arith, length-decimal w (n / 10))

-- one digit more is written, of those that stand last first in xs
pub decimal_more : (w k n : ℕ) (xs : List ℕ) → k ≡ w + 1 → decimal k n ++ reverse xs ≡ decimal w (n / 10) ++ reverse (xs ++ (48 + n % 10) ∷ [])
unfolding decimal
decimal_more w k n xs e = rw (e, add-one, reverse-append xs ((48 + n % 10) ∷ [])) (append_assoc (decimal w (n / 10)) _ (reverse xs))

all_push : (xs : List ℕ) (b : ℕ) → all_digits xs ≡ true → is_ascii_digit b ≡ true → all_digits (xs ++ b ∷ []) ≡ true
all_push [] b h t = and_from _ _ t refl
all_push (x ∷ xs) b h t = let p = and_parts (is_ascii_digit x) (all_digits xs) h in and_from _ _ p.0 (all_push xs b p.1 t)

last_digit : (n : ℕ) → is_ascii_digit (48 + n % 10) ≡ true
last_digit n = let s : n % 10 < 10 = mod-lt n (omega arith) in and_from _ _ (le-leb 48 (48 + n % 10) (omega arith)) (le-leb (48 + n % 10) 57 (omega arith))

pub all_decimal : (w n : ℕ) → all_digits (decimal w n) ≡ true
unfolding decimal
all_decimal zero n = refl
all_decimal (suc w) n = all_push (decimal w (n / 10)) _ (all_decimal w (n / 10)) (last_digit n)

read_push : (n : ℕ) (xs : List ℕ) (b : ℕ) → read_on n (xs ++ b ∷ []) ≡ read_on n xs * 10 + (b - 48)
read_push n [] b = refl
read_push n (x ∷ xs) b = read_push (n * 10 + (x - 48)) xs b

pub number_decimal : (w n : ℕ) → n < 10 ^ w → number_in (decimal w n) ≡ n
unfolding decimal
number_decimal zero n h = omega arith
number_decimal (suc w) n h =
    let lt : n < 10 ^ w * 10 = rw pow-suc at h in
    let front : n / 10 < 10 ^ w = (div-lt_iff_lt-mul {k = 10} {x = n} {y = 10 ^ w} (omega arith)).1 lt in
    read_push 0 (decimal w (n / 10)) (48 + n % 10) ∙ omega (arith, number_decimal w (n / 10) front, div-add-mod' n 10)

-- What is read.

-- of a digit, its value
digit_value : (b : ℕ) → is_ascii_digit b ≡ true → (48 ≤ b) × (b - 48 < 10)
digit_value b h = let p = and_parts (leb 48 b) (leb b 57) h in (leb-true 48 b p.0, omega (arith, leb-true 48 b p.0, leb-true b 57 p.1))

read_back : (k n : ℕ) (xs : List ℕ) → all_digits xs ≡ true → decimal (k + length xs) (read_on n xs) ≡ decimal k n ++ xs
unfolding decimal
read_back k n [] h = rw (append-nil (decimal k n), add-zero)
read_back k n (x ∷ xs) h =
    let p = and_parts (is_ascii_digit x) (all_digits xs) h in
    let d = digit_value x p.0 in
    let q : (n * 10 + (x - 48)) / 10 ≡ n = div-mul-add n 10 (x - 48) d.1 in
    let r : 48 + (n * 10 + (x - 48)) % 10 ≡ x = omega (arith, mod-mul-add n 10 (x - 48) d.1, d.0) in
    let shift : k + suc (length xs) ≡ suc k + length xs = omega arith in
    ap (λ m. decimal m (read_on (n * 10 + (x - 48)) xs)) shift
    ∙ read_back (suc k) (n * 10 + (x - 48)) xs p.1
    ∙ append_assoc (decimal k ((n * 10 + (x - 48)) / 10)) _ xs
    ∙ ap (λ m. decimal k m ++ ((48 + (n * 10 + (x - 48)) % 10) ∷ xs)) q
    ∙ ap (λ b. decimal k n ++ (b ∷ xs)) r

pub decimal_number : (xs : List ℕ) → all_digits xs ≡ true → decimal (length xs) (number_in xs) ≡ xs
unfolding decimal
decimal_number xs h = ap (λ m. decimal m (number_in xs)) (sym (zero-add (length xs))) ∙ read_back 0 0 xs h

read_below : (k n : ℕ) (xs : List ℕ) → n < 10 ^ k → all_digits xs ≡ true → read_on n xs < 10 ^ (k + length xs)
read_below k n [] l h = rw add-zero l
read_below k n (x ∷ xs) l h =
    let p = and_parts (is_ascii_digit x) (all_digits xs) h in
    let d = digit_value x p.0 in
    let more : n * 10 + (x - 48) < 10 ^ suc k = rw pow-suc (omega (arith, d.1)) in
    let shift : suc k + length xs ≡ k + suc (length xs) = omega arith in
    subst (λ m. read_on (n * 10 + (x - 48)) xs < 10 ^ m) shift (read_below (suc k) (n * 10 + (x - 48)) xs more p.1)

pub number_below : (xs : List ℕ) → all_digits xs ≡ true → number_in xs < 10 ^ length xs
number_below xs h = subst (λ m. number_in xs < 10 ^ m) (zero-add (length xs)) (read_below 0 0 xs (omega arith) h)

-- The laws.

-- a test that lets a value through was passed
pub passing : {X : Type 0} (b : Bool) (m n : X) (e : InputCause) → cond b (Ok m) (Err e) ≡ Ok n → (b ≡ true) × (m ≡ n)
passing true m n e h = (refl, cc)
passing false m n e h = let z : ◌≡◌ {A = ℕ} 0 1 = cc in absurd (omega arith)

pub digit_laws : DigitLaws
digit_laws =
    record {
      written_reads = λ w n few h. let t : leb (length (decimal w n)) 19 ≡ true = le-leb (length (decimal w n)) 19 (omega (arith, length-decimal w n)) in rw (t, all_decimal w n, number_decimal w n h);
      one_writing = λ bs n h.
          let p = passing (leb (length bs) 19 && all_digits bs) (number_in bs) n _ h in
          let q = and_parts (leb (length bs) 19) (all_digits bs) p.0 in
          (subst (λ m. m < 10 ^ length bs) p.1 (number_below bs q.1), ap (decimal (length bs)) (sym p.1) ∙ decimal_number bs q.1);
    }
