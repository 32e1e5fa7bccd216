-- A line and the line feed that ends it.
use Rattle.std.specs.Prelude.{ℕ, ◌+◌, Bool, true, cond, not, ◌&&◌, List, [], ◌∷◌, ◌++◌, length, take, drop, Some, None, Ok, Err, Option, Result, ◌==◌, nat_lt}
use Rattle.std.specs.List.{position_from}
use Rattle.terms.specs.declared.cause.StateCause.{StateCause}
use Rattle.terms.specs.declared.cause.StateCause.TheVariants.{AreaTooSmall}
use Rattle.lines.specs.declared.fault.FileFault.{FileFault}
use Rattle.lines.specs.declared.fault.FileFault.TheVariants.{Line}
use Rattle.lines.specs.declared.fault.LineFault.TheVariants.{NoLineFeed, WrongLength}

-- how many bytes stand before the first line feed, after n others
abbrev pub feed_from : ℕ → List ℕ → Option ℕ
feed_from n bs = position_from (λ b. b == 10) n bs

-- a line of `long` bytes and its line feed at the front of the bytes, read by `reading`
abbrev pub cut_reading : {X : Type 0} → ℕ → (List ℕ → Result X FileFault) → List ℕ → Option ℕ → Result X FileFault
cut_reading long reading bs None = Err (Line (NoLineFeed (length bs + 1)))
cut_reading long reading bs (Some n) = cond (n == long) (reading (take long bs)) (Err (Line WrongLength))

abbrev pub line_reading : {X : Type 0} → ℕ → (List ℕ → Result X FileFault) → List ℕ → Result X FileFault
line_reading long reading bs = cut_reading long reading bs (feed_from 0 bs)

-- no byte is a line feed
abbrev pub plain : List ℕ → Bool
plain [] = true
plain (b ∷ bs) = not (b == 10) && plain bs

-- a line of `long` bytes and its line feed are put at the front of an area, if they fit in
abbrev pub put_answer : ℕ → List ℕ → Result ℕ StateCause
put_answer long out = cond (nat_lt long (length out)) (Ok (long + 1)) (Err AreaTooSmall)

abbrev pub put_after : ℕ → List ℕ → List ℕ → List ℕ
put_after long line out = cond (nat_lt long (length out)) (line ++ 10 ∷ drop (long + 1) out) out
