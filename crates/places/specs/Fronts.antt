-- The front of a line that is written from the left, field by field.
use Rattle.std.specs.Prelude.{ℕ, List, take}

-- the first n bytes
unfoldable pub front : ℕ → List ℕ → List ℕ
front n bs = take n bs
