-- The table that stands at a place, and what its values are put together to.
use Rattle.std.specs.Prelude.{◌≡◌, ℕ, ◌↔◌, List, Ok, Err, Result}
use Rattle.tables.specs.Lines.{Table, By, Values, at_values, IsLine, TableFault, TableFieldFault}
use Rattle.tables.specs.Walks.{fields_reading}
use Rattle.lines.specs.declared.fault.FileFault.{FileFault}
use Rattle.lines.specs.Faults.{fault_of}

pub record Place (X : Type 0) : Type 0 where
  pub table : Table
  pub make : By table X

abbrev pub stands : {X : Type 0} → (t : Table) → By t X → Place X
stands t f = record { table = t; make = f }

-- what a line says at a place, or its first fault from the left
abbrev pub place_reading : {X : Type 0} → Place X → List ℕ → Result X FileFault
place_reading {X} p l = fields_reading fault_of X p.table p.make 0 l

-- What the reading at a place comes to, said without reading.

-- l is the line of allowed values, free places among them, that are put together to x
pub record LineOf {X : Type 0} (p : Place X) (l : List ℕ) (x : X) : Type 0 where
  pub values : Values p.table
  pub is_line : IsLine p.table values l
  pub says : at_values X p.table p.make values ≡ x

-- the first field from the left that is not allowed, and the lowest cause in it
pub record FirstFault {X : Type 0} (p : Place X) (l : List ℕ) (e : FileFault) : Type 0 where
  pub fault : TableFault
  pub first : TableFieldFault p.table 1 l fault
  pub is : fault_of fault.cause fault.place ≡ e

pub record ReadsPlace {X : Type 0} (p : Place X) (l : List ℕ) : Type 0 where
  pub accepted : (x : X) → (place_reading p l ≡ Ok x) ↔ LineOf p l x
  pub refused : (e : FileFault) → (place_reading p l ≡ Err e) ↔ FirstFault p l e
