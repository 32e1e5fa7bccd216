-- VOL1 that is written holds no line feed, and is read as what was written.
use Rattle.std.specs.Prelude.{◌≡◌, ℕ, ◌+◌, Bool, true, false, cond, not, ◌&&◌, List, [], ◌∷◌, ◌++◌, length, take, drop, Ok, codes, refl}
use Rattle.std.proofs.Common.{sym, ap, ◌∙◌, inl, inr}
use Rattle.std.specs.Str.{bytes_eq}
use Rattle.std.proofs.lemmas.Slice.Eq.{bytes_eq-Decides}
use Rattle.std.proofs.lemmas.List.{drop_at, drop-drop, take_at}
use Rattle.std.proofs.lemmas.Bool.{and_parts, false≢true, not-true, or_cases}
use Rattle.tables.specs.Walks.{part}
use Rattle.tables.proofs.Written.{laid_is_line, written_reads}
use Rattle.fields.specs.Characters.{one_of}
use Rattle.fields.specs.Words.{blank, choice}
use Rattle.lines.specs.Faults.{fault_of}
use Rattle.lines.specs.Feeds.{plain}
use Rattle.lines.specs.Places.{place_reading, stands}
use Rattle.places.proofs.Unbroken.{PlainKind, PlainTable, laid_plain, serial_plain, choice_plain}
use Rattle.labels.specs.Volumes.{OwnerSays, Vol1Says, has_sun, OwnerFits, owner_line, vol1_marked, vol1_place, vol1_sun, volume}
use Rattle.labels.specs.Volumes.OwnerSays.{marked, numbered}

free_plain : PlainKind (choice 1 (blank 1 ∷ codes "0" ∷ []))
free_plain = choice_plain 1 (blank 1 ∷ codes "0" ∷ []) (refl, (refl, tt))

sun_plain : PlainTable vol1_sun
sun_plain = (refl, (serial_plain, (free_plain, (refl, (refl, (refl, (tt, (refl, (refl, tt)))))))))

marked_plain : PlainTable vol1_marked
marked_plain = (refl, (serial_plain, (free_plain, (refl, (choice_plain 6 (codes "HSBC  " ∷ codes "SAGE  " ∷ []) (refl, (refl, tt)), (refl, (refl, (refl, (refl, tt)))))))))

pub owner_unbroken : (o : OwnerSays) (s : List ℕ) → OwnerFits o s → plain (owner_line o s) ≡ true
owner_unbroken (numbered n) s a = laid_plain vol1_sun (s, (blank 1, (n, tt))) sun_plain a
owner_unbroken (marked m) s a = laid_plain vol1_marked (s, (blank 1, (m, tt))) marked_plain a

-- which owner it is

skip : (xs rest : List ℕ) (n k : ℕ) → length xs ≡ k → drop (k + n) (xs ++ rest) ≡ drop n rest
skip xs rest n k e = sym (drop-drop n k (xs ++ rest)) ∙ ap (drop n) (drop_at xs rest k e)

abbrev apart : List (List ℕ) → List ℕ → Bool
apart [] c = true
apart (x ∷ xs) c = not (bytes_eq x c) && apart xs c

other : (cs : List (List ℕ)) (c v : List ℕ) → apart cs c ≡ true → one_of cs v ≡ true → bytes_eq v c ≡ false
other [] c v a h = absurd (false≢true h)
other (x ∷ xs) c v a h =
    let p = and_parts (not (bytes_eq x c)) (apart xs c) a in
    elim (or_cases (bytes_eq v x) (one_of xs v) h) [
      | inl e ↦ ap (λ y. bytes_eq y c) ((bytes_eq-Decides v x).0 e) ∙ not-true (bytes_eq x c) p.0
      | inr e ↦ other xs c v p.1 e
    ]

sun_shows : (n : ℕ) (s : List ℕ) → OwnerFits (numbered n) s → has_sun (owner_line (numbered n) s) ≡ true
unfolding has_sun part
sun_shows n s a =
    ap (λ l. bytes_eq (take 6 (drop 31 l)) (blank 6)) (laid_is_line vol1_sun (s, (blank 1, (n, tt))))
    ∙ ap (λ l. bytes_eq (take 6 l) (blank 6)) (skip s _ 21 6 a.0.0)

mark_shows : (m s : List ℕ) → OwnerFits (marked m) s → has_sun (owner_line (marked m) s) ≡ false
unfolding has_sun part
mark_shows m s a =
    ap (λ l. bytes_eq (take 6 (drop 31 l)) (blank 6)) (laid_is_line vol1_marked (s, (blank 1, (m, tt))))
    ∙ ap (λ l. bytes_eq (take 6 l) (blank 6)) (skip s _ 21 6 a.0.0)
    ∙ ap (λ l. bytes_eq l (blank 6)) (take_at m _ 6 a.1.1.0.0)
    ∙ other (codes "HSBC  " ∷ codes "SAGE  " ∷ []) (blank 6) m refl a.1.1.0.1.0

at_owner : (b : Bool) (l : List ℕ) → has_sun l ≡ b → place_reading (vol1_place l) l ≡ place_reading (cond b (stands {X = Vol1Says} vol1_sun (λ s free n. volume (numbered n) s)) (stands vol1_marked (λ s free m. volume (marked m) s))) l
at_owner b l e = ap (λ (x : Bool). place_reading (cond x (stands {X = Vol1Says} vol1_sun (λ s free n. volume (numbered n) s)) (stands vol1_marked (λ s free m. volume (marked m) s))) l) e

pub owner_back : (o : OwnerSays) (s : List ℕ) → OwnerFits o s → place_reading (vol1_place (owner_line o s)) (owner_line o s) ≡ Ok (volume o s)
owner_back (numbered n) s a =
    at_owner true (owner_line (numbered n) s) (sun_shows n s a)
    ∙ written_reads fault_of vol1_sun (λ s free n. volume (numbered n) s) (s, (blank 1, (n, tt))) a
owner_back (marked m) s a =
    at_owner false (owner_line (marked m) s) (mark_shows m s a)
    ∙ written_reads fault_of vol1_marked (λ s free m. volume (marked m) s) (s, (blank 1, (m, tt))) a
