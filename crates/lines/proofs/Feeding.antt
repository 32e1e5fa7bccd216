-- A line that is written with its line feed is found and read again.
use Rattle.std.proofs.Common.{◌≡◌, ℕ, ◌+◌, ◌<◌, true, not, eqb, List, [], ◌∷◌, ◌++◌, length, get_or, drop, set, Some, Ok, Result, refl, ap, ◌∙◌, add-zero, arith}
use Rattle.std.proofs.lemmas.List.{drop_more, set_at, take_at}
use Rattle.std.proofs.lemmas.Bool.{lt-ltb, and_parts, cond-false, cond-true, eq-eqb, not-true}
use Rattle.lines.specs.declared.fault.FileFault.{FileFault}
use Rattle.lines.specs.Feeds.{feed_from, cut_reading, line_reading, plain, put_after}

-- the first line feed stands past bytes that are none
pub feed_past : (xs zs : List ℕ) (n : ℕ) → plain xs ≡ true → feed_from n (xs ++ 10 ∷ zs) ≡ Some (n + length xs)
feed_past [] zs n h = rw add-zero refl
feed_past (x ∷ xs) zs n h =
    let p = and_parts (not (eqb x 10)) (plain xs) h in
    cond-false (eqb x 10) (Some n) (feed_from (n + 1) (xs ++ 10 ∷ zs)) (not-true (eqb x 10) p.0) ∙ feed_past xs zs (n + 1) p.1 ∙ ap Some (omega arith)

-- a line that was put at the front of an area says what was written
pub line_back : {X : Type 0} (long : ℕ) (reading : List ℕ → Result X FileFault) (xs out : List ℕ) (x : X) → long < length out → plain xs ≡ true → length xs ≡ long → reading xs ≡ Ok x → line_reading long reading (put_after long xs out) ≡ Ok x
line_back long reading xs out x room unbroken sized back =
    let zs = drop (long + 1) out in
    rw (lt-ltb long (length out) room)
    (ap (cut_reading long reading (xs ++ 10 ∷ zs)) (feed_past xs zs 0 unbroken)
    ∙ cond-true (eqb (0 + length xs) long) _ _ (eq-eqb (0 + length xs) long (omega arith))
    ∙ ap reading (take_at xs (10 ∷ zs) long sized)
    ∙ back)

-- a line, and its line feed after it, put at the front of an area
pub put_line : (xs out : List ℕ) (n : ℕ) → length xs ≡ n → n < length out → set (xs ++ drop n out) n 10 ≡ put_after n xs out
put_line xs out n e h = rw (lt-ltb n (length out) h) (ap (λ (l : List ℕ). set (xs ++ l) n 10) (drop_more out n 0 h) ∙ set_at xs (get_or out n 0) (drop (n + 1) out) 10 n e)
