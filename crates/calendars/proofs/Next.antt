-- `next_member` is the least member, and the only one; and what it is in a part of a set.
use Rattle.std.proofs.Common.{◌≡◌, ℕ, zero, suc, ◌+◌, ◌-◌, ◌<◌, ◌≤◌, Bool, true, false, cond, Some, None, Option, sym, refl, ap, ◌∙◌, ⊎_elim, le_antisymm, eq-or-lt_of_le, arith}
use mathlib.Core.Path.{subst⁻¹}
use borrow.Author.Tests.{both_ways}
use Rattle.std.specs.Option.{MatchOption}
use Rattle.std.proofs.lemmas.Bool.{cases_lt}
use Rattle.calendars.specs.Sets.{first_member, next_member, Within, Least}

-- the least member, of the days from d to before `end` alone
abbrev Among : (ℕ → Bool) → ℕ → ℕ → Option ℕ → Type 0
Among f d end None = (k : ℕ) → d ≤ k → k < end → f k ≡ true → ⊥
Among f d end (Some e) = (d ≤ e) × (f e ≡ true) × ((k : ℕ) → d ≤ k → f k ≡ true → e ≤ k)

at_or_past : {P : Type 0} (d k : ℕ) → d ≤ k → (k ≡ d → P) → (suc d ≤ k → P) → P
at_or_past d k h p q = ⊎_elim (λ e. p (sym e)) q (eq-or-lt_of_le h)

clash : (f : ℕ → Bool) (d k : ℕ) → f d ≡ false → f k ≡ true → k ≡ d → ⊥
clash f d k n y e = both_ways (f d) n (ap f (sym e) ∙ y)

step : (f : ℕ → Bool) (d end : ℕ) (b : Bool) (o : Option ℕ) → f d ≡ b → Among f (suc d) end o → Among f d end (cond b (Some d) o)
step f d end true o t a = (omega arith, t, λ k h _. h)
step f d end false None t a = λ k h l y. at_or_past d k h (clash f d k t y) (λ m. a k m l y)
step f d end false (Some e) t a = (omega (arith, a.0), a.1, λ k h y. at_or_past d k h (λ q. absurd (clash f d k t y q)) (λ m. a.2 k m y))

first_among : (f : ℕ → Bool) (n d : ℕ) → Among f d (d + n) (first_member f n d)
unfolding first_member
first_among f zero d = λ k h l y. omega arith
first_among f (suc n) d =
    let e : suc d + n ≡ d + suc n = omega arith in
    step f d (d + suc n) (f d) (first_member f n (suc d)) refl (rw e at (first_among f n (suc d)))

least_among : (f : ℕ → Bool) → Within f → (d end : ℕ) → 36524 < end → (o : Option ℕ) → Among f d end o → Least f d o
least_among f w d end h None a = λ k l y. a k l (omega (arith, w k y)) y
least_among f w d end h (Some e) a = a

pub next_is_least : (f : ℕ → Bool) → Within f → (d : ℕ) → Least f d (next_member f d)
unfolding next_member
next_is_least f w d = least_among f w d (d + (36525 - d)) (omega arith) (next_member f d) (first_among f (36525 - d) d)

-- an answer that is `next_member` is the least member
pub least_from : (f : ℕ → Bool) → Within f → (d : ℕ) (o : Option ℕ) → o ≡ next_member f d → Least f d o
least_from f w d o e = subst⁻¹ (λ (x : Option ℕ). Least f d x) e (next_is_least f w d)

-- there is one least member
one_least : (f : ℕ → Bool) (d : ℕ) (o p : Option ℕ) → Least f d o → Least f d p → o ≡ p
one_least f d None None a b = refl
one_least f d None (Some e) a b = absurd (a e b.0 b.1)
one_least f d (Some e) None a b = absurd (b e a.0 a.1)
one_least f d (Some e) (Some k) a b = ap Some (le_antisymm (a.2 k b.0 b.1) (b.2 e a.0 a.1))

-- an answer that is the least member is `next_member`
pub named_from : (f : ℕ → Bool) → Within f → (d : ℕ) (o : Option ℕ) → Least f d o → o ≡ next_member f d
named_from f w d o l = one_least f d o (next_member f d) l (next_is_least f w d)

-- a member that is found first, of the days from a to before b, is the least not below d, where no other days from d on are members
pub least_found : (f : ℕ → Bool) (d a b : ℕ) → d ≤ a → ((k : ℕ) → d ≤ k → f k ≡ true → (a ≤ k) × (k < b)) → (o : Option ℕ) → MatchOption o ((k : ℕ) → a ≤ k → k < b → f k ≡ false) (λ e. (a ≤ e) × (e < b) × (f e ≡ true) × ((k : ℕ) → a ≤ k → k < e → f k ≡ false)) → Least f d o
least_found f d a b low in' None m = λ k h y. let p = in' k h y in both_ways (f k) (m k p.0 p.1) y
least_found f d a b low in' (Some e) m =
    (omega (arith, m.0), m.2, λ k h y. ⊎_elim (λ (l : k < e). absurd (both_ways (f k) (m.3 k (in' k h y).0 l) y)) (λ (l : e ≤ k). l) (cases_lt k e))

-- h is a part of f: where f has no member, h has none, and the least member of f is passed over if h lacks it
module _ (f h : ℕ → Bool) (w : Within f) (part : (k : ℕ) → h k ≡ true → f k ≡ true) where
  part_within : Within h
  part_within k y = w k (part k y)

  pub part_least : (d : ℕ) (o : Option ℕ) → o ≡ next_member h d → Least h d o
  part_least = least_from h part_within

  pub part_none : (d : ℕ) → Least f d None → None ≡ next_member h d
  part_none d l = named_from h part_within d None (λ k b y. l k b (part k y))

  pub part_here : (d e : ℕ) → Least f d (Some e) → h e ≡ true → Some e ≡ next_member h d
  part_here d e l y = named_from h part_within d (Some e) (l.0, y, λ k b z. l.2 k b (part k z))

  part_past : (d e : ℕ) → Least f d (Some e) → h e ≡ false → (o : Option ℕ) → Least h (e + 1) o → Least h d o
  part_past d e l n None a = λ k b y. at_or_past e k (l.2 k b (part k y)) (clash h e k n y) (λ m. a k (omega arith) y)
  part_past d e l n (Some x) a =
      (omega (arith, l.0, a.0), a.1, λ k b y. at_or_past e k (l.2 k b (part k y)) (λ q. absurd (clash h e k n y q)) (λ m. a.2 k (omega arith) y))

  pub part_skip : (d e : ℕ) → Least f d (Some e) → h e ≡ false → next_member h d ≡ next_member h (e + 1)
  part_skip d e l n = sym (named_from h part_within d (next_member h (e + 1)) (part_past d e l n (next_member h (e + 1)) (next_is_least h part_within (e + 1))))
