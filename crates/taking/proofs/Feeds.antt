-- The first line feed parts the bytes into a line and what follows; where there is none, they hold no line feed.
use Rattle.std.proofs.Common.{◌≡◌, ℕ, ◌+◌, ◌<◌, Bool, true, false, cond, eqb, List, [], ◌∷◌, ◌++◌, length, take, Some, None, Ok, Err, Option, Result, refl, ap, ◌∙◌, arith, length-append}
use Rattle.std.proofs.lemmas.Bool.{and_from, eqb-true, not_from_false}
use Rattle.std.proofs.lemmas.List.{take_at}
use Rattle.lines.specs.declared.fault.FileFault.{FileFault}
use Rattle.lines.specs.declared.fault.FileFault.TheVariants.{Line}
use Rattle.lines.specs.declared.fault.LineFault.TheVariants.{WrongLength}
use Rattle.lines.specs.Feeds.{cut_reading, feed_from, line_reading, plain}

pub record Fed (k : ℕ) (bs : List ℕ) (m : ℕ) : Type 0 where
  pub front : List ℕ
  pub tail : List ℕ
  pub unbroken : plain front ≡ true
  pub is : bs ≡ front ++ 10 ∷ tail
  pub at : m ≡ k + length front

pub feed_none : (bs : List ℕ) (k : ℕ) → feed_from k bs ≡ None → plain bs ≡ true
feed_none [] k h = refl
feed_none (b ∷ bs) k h = go (eqb b 10) refl h (feed_none bs (k + 1))
  where
    go : (t : Bool) → eqb b 10 ≡ t → cond t (Some k) (feed_from (k + 1) bs) ≡ None → (feed_from (k + 1) bs ≡ None → plain bs ≡ true) → plain (b ∷ bs) ≡ true
    go true e q later = cc
    go false e q later = and_from _ _ (not_from_false _ e) (later q)

pub feed_some : (bs : List ℕ) (k m : ℕ) → feed_from k bs ≡ Some m → Fed k bs m
feed_some [] k m h = cc
feed_some (b ∷ bs) k m h = go (eqb b 10) refl h (feed_some bs (k + 1) m)
  where
    here : {i j : ℕ} → ◌≡◌ {A = Option ℕ} (Some i) (Some j) → j ≡ i
    here q = cc

    go : (t : Bool) → eqb b 10 ≡ t → cond t (Some k) (feed_from (k + 1) bs) ≡ Some m → (feed_from (k + 1) bs ≡ Some m → Fed (k + 1) bs m) → Fed k (b ∷ bs) m
    go true e q later =
        let i : m ≡ k = here q in
        record { front = []; tail = bs; unbroken = refl; is = ap (λ (x : ℕ). x ∷ bs) (eqb-true b 10 e); at = omega arith }
    go false e q later =
        let f = later q in
        let i : m ≡ k + 1 + length f.front = f.at in
        record {
          front = b ∷ f.front;
          tail = f.tail;
          unbroken = and_from _ _ (not_from_false _ e) f.unbroken;
          is = ap (λ (x : List ℕ). b ∷ x) f.is;
          at = omega arith;
        }

-- where the line feed stands after `long` bytes, these are the line
pub wide_line : {bs : List ℕ} {m : ℕ} (long : ℕ) (f : Fed 0 bs m) → eqb m long ≡ true → (length f.front ≡ long) × (take long bs ≡ f.front)
wide_line {bs} {m} long f e =
    let wide : length f.front ≡ long = omega (arith, eqb-true m long e, f.at) in
    (wide, ap (take long) f.is ∙ take_at f.front (10 ∷ f.tail) long wide)

-- x is read of a line of `long` bytes at the front
pub record ReadOf {X : Type 0} (long : ℕ) (reading : List ℕ → Result X FileFault) (bs : List ℕ) (x : X) : Type 0 where
  pub line : List ℕ
  pub tail : List ℕ
  pub is : bs ≡ line ++ 10 ∷ tail
  pub wide : length line ≡ long
  pub read : Ok x ≡ reading line

pub read_of : {X : Type 0} (long : ℕ) (reading : List ℕ → Result X FileFault) (bs : List ℕ) (x : X) → Ok x ≡ line_reading long reading bs → ReadOf long reading bs x
read_of {X} long reading bs x h = go (feed_from 0 bs) refl h
  where
    sized : (m : ℕ) → feed_from 0 bs ≡ Some m → (t : Bool) → eqb m long ≡ t → Ok x ≡ cond t (reading (take long bs)) (Err (Line WrongLength)) → ReadOf long reading bs x
    sized m e true s q =
        let f = feed_some bs 0 m e in
        let w = wide_line long f s in
        record { line = f.front; tail = f.tail; is = f.is; wide = w.0; read = q ∙ ap reading w.1 }
    sized m e false s q = cc

    go : (o : Option ℕ) → feed_from 0 bs ≡ o → Ok x ≡ cut_reading long reading bs o → ReadOf long reading bs x
    go None e q = cc
    go (Some m) e q = sized m e (eqb m long) refl q

-- a line that is read has its line feed within the bytes
pub read_within : {X : Type 0} (long : ℕ) (reading : List ℕ → Result X FileFault) (bs : List ℕ) (x : X) → Ok x ≡ line_reading long reading bs → long < length bs
read_within long reading bs x h =
    let r = read_of long reading bs x h in
    omega (arith, r.wide, ap length r.is ∙ length-append r.line (10 ∷ r.tail))
