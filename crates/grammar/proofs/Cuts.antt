-- Bytes fall into lines in one way.
use Rattle.std.proofs.Common.{◌≡◌, ℕ, Bool, true, false, cond, not, eqb, List, [], ◌∷◌, ◌++◌, sym, refl, ap, ◌∙◌, append_assoc}
use Rattle.std.proofs.lemmas.Bool.{and_from, and_parts, not-true, eqb-true, not_from_false}
use Rattle.lines.specs.Feeds.{plain}
use Rattle.places.proofs.Unbroken.{PlainLines}
use Rattle.grammar.specs.Cuts.{Cut, cut, feeds, in_front}

pub cut_line : (l xs : List ℕ) → plain l ≡ true → cut (l ++ 10 ∷ xs) ≡ record { lines = l ∷ (cut xs).lines; rest = (cut xs).rest }
unfolding cut
cut_line [] xs h = refl
cut_line (b ∷ l) xs h =
    let p = and_parts (not (eqb b 10)) (plain l) h in
    rw (not-true (eqb b 10) p.0, cut_line l xs p.1)

pub cut_rest : (rest : List ℕ) → plain rest ≡ true → cut rest ≡ record { lines = []; rest = rest }
unfolding cut
cut_rest [] h = refl
cut_rest (b ∷ rest) h =
    let p = and_parts (not (eqb b 10)) (plain rest) h in
    rw (not-true (eqb b 10) p.0, cut_rest rest p.1)

pub cut_feeds : (ls : List (List ℕ)) (rest : List ℕ) → PlainLines ls → plain rest ≡ true → cut (feeds ls ++ rest) ≡ record { lines = ls; rest = rest }
cut_feeds [] rest h k = cut_rest rest k
cut_feeds (l ∷ ls) rest h k =
    ap cut (append_assoc l (10 ∷ feeds ls) rest)
    ∙ cut_line l (feeds ls ++ rest) h.0
    ∙ ap (λ c. record { lines = l ∷ c.lines; rest = c.rest }) (cut_feeds ls rest h.1 k)

-- the bytes of a cut
abbrev whole : Cut → List ℕ
whole c = feeds c.lines ++ c.rest

pub record IsPlain (c : Cut) : Type 0 where
  pub lines : PlainLines c.lines
  pub rest : plain c.rest ≡ true

front_whole : (b : ℕ) (ls : List (List ℕ)) (rest : List ℕ) → whole (in_front b ls rest) ≡ b ∷ (feeds ls ++ rest)
front_whole b [] rest = refl
front_whole b (l ∷ ls) rest = refl

front_plain : (b : ℕ) (ls : List (List ℕ)) (rest : List ℕ) → eqb b 10 ≡ false → PlainLines ls → plain rest ≡ true → IsPlain (in_front b ls rest)
front_plain b [] rest n h k = record { lines = tt; rest = and_from _ _ (not_from_false _ n) k }
front_plain b (l ∷ ls) rest n h k = record { lines = (and_from _ _ (not_from_false _ n) h.0, h.1); rest = k }

byte_whole : (b : ℕ) (c : Cut) (t : Bool) → eqb b 10 ≡ t → whole (cond t (record { lines = [] ∷ c.lines; rest = c.rest }) (in_front b c.lines c.rest)) ≡ b ∷ whole c
byte_whole b c true e = ap (λ x. x ∷ whole c) (sym (eqb-true b 10 e))
byte_whole b c false e = front_whole b c.lines c.rest

pub cut_whole : (bs : List ℕ) → feeds (cut bs).lines ++ (cut bs).rest ≡ bs
unfolding cut
cut_whole [] = refl
cut_whole (b ∷ bs) = byte_whole b (cut bs) (eqb b 10) refl ∙ ap (λ x. b ∷ x) (cut_whole bs)

byte_plain : (b : ℕ) (c : Cut) (t : Bool) → eqb b 10 ≡ t → IsPlain c → IsPlain (cond t (record { lines = [] ∷ c.lines; rest = c.rest }) (in_front b c.lines c.rest))
byte_plain b c true e p = record { lines = (refl, p.lines); rest = p.rest }
byte_plain b c false e p = front_plain b c.lines c.rest e p.lines p.rest

pub cut_plain : (bs : List ℕ) → IsPlain (cut bs)
unfolding cut
cut_plain [] = record { lines = tt; rest = refl }
cut_plain (b ∷ bs) = byte_plain b (cut bs) (eqb b 10) refl (cut_plain bs)
