-- Which line comes is told by the bytes as by the line itself.
use Rattle.std.proofs.Common.{◌≡◌, ℕ, ◌≤◌, Bool, true, false, ◌&&◌, leb, List, [], ◌∷◌, ◌++◌, length, sym, refl, ap, ◌∙◌, arith, length-append}
use Rattle.std.specs.Str.{bytes_eq}
use Rattle.std.proofs.lemmas.Bool.{and_left, le-leb, leb-true}
use Rattle.terms.specs.declared.service.Service.{Service}
use Rattle.tables.specs.Walks.{part}
use Rattle.fields.specs.Words.{contra_code_text}
use Rattle.records.specs.Contras.{contra_shown}
use Rattle.grammar.specs.Next.{is_eof1}
use Rattle.taking.proofs.LookedUp.{part_front}

-- a line feed is no part of EOF1
pub eof1_peek : (l tail : List ℕ) → is_eof1 (l ++ 10 ∷ tail) ≡ is_eof1 l
eof1_peek [] tail = refl
eof1_peek (a ∷ []) tail = refl
eof1_peek (a ∷ (b ∷ [])) tail = refl
eof1_peek (a ∷ (b ∷ (c ∷ []))) tail = refl
eof1_peek (a ∷ (b ∷ (c ∷ (d ∷ l)))) tail = refl

pub contra_peek : (g : Service) (l tail : List ℕ) → 17 ≤ length l → contra_shown g (l ++ 10 ∷ tail) ≡ contra_shown g l
contra_peek g l tail h =
    let more : 17 ≤ length (l ++ 10 ∷ tail) = omega (arith, length-append l (10 ∷ tail)) in
    ap (λ (b : Bool). b && bytes_eq (part 15 17 (l ++ 10 ∷ tail)) (contra_code_text g)) (le-leb 17 (length (l ++ 10 ∷ tail)) more ∙ sym (le-leb 17 (length l) h))
    ∙ ap (λ (x : List ℕ). leb 17 (length l) && bytes_eq x (contra_code_text g)) (part_front 15 17 l (10 ∷ tail) (omega arith) h)

pub no_contra : (g : Service) (l tail : List ℕ) → contra_shown g (l ++ 10 ∷ tail) ≡ false → contra_shown g l ≡ false
no_contra g l tail h = go (leb 17 (length l)) refl
  where
    go : (t : Bool) → leb 17 (length l) ≡ t → contra_shown g l ≡ false
    go true e = sym (contra_peek g l tail (leb-true 17 (length l) e)) ∙ h
    go false e = and_left (leb 17 (length l)) _ e
