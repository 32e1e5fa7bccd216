-- What is written in a field is read again, and nothing else is.
use Rattle.std.specs.Prelude.{◌≡◌, ℕ, List, length, Ok}
use Rattle.tables.specs.Kinds.{Kind, width, Value, Allowed, field}
use Rattle.tables.specs.Walks.{reading}

pub record ReadsBack (k : Kind) : Type 0 where
  -- an allowed value fills the places, and reads as itself
  pub fills : (v : Value k) → Allowed k v → length (field k v) ≡ width k
  pub reads : (v : Value k) → Allowed k v → reading k (field k v) ≡ Ok v
  -- what is read is allowed, and is written so
  pub writes : (bs : List ℕ) (v : Value k) → length bs ≡ width k → reading k bs ≡ Ok v → Allowed k v × (field k v ≡ bs)

abbrev pub FieldsReadBack : Type 0
FieldsReadBack = (k : Kind) → ReadsBack k
