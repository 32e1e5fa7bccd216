-- Faults by their layer: which cause lies in a field, in a line, or in the file.
use Rattle.std.specs.Prelude.{ℕ, Result}
use Rattle.std.specs.Result.{result_map_both}
use Rattle.terms.specs.declared.cause.InputCause.{InputCause}
use Rattle.terms.specs.declared.cause.InputCause.TheVariants as cause
use Rattle.lines.specs.declared.fault.Fault.{Fault}
use Rattle.lines.specs.declared.fault.FieldFault.{FieldFault}
use Rattle.lines.specs.declared.fault.LineFault.{LineFault}
use Rattle.lines.specs.declared.fault.LineFault.TheVariants.{Field, NoLineFeed, WrongLength}
use Rattle.lines.specs.declared.fault.FileFault.{FileFault}
use Rattle.lines.specs.declared.fault.FileFault.TheVariants.{Line, DayOutOfRange, DayNotOpen, Differs}
use Rattle.lines.specs.declared.fault.Layer.{Layer}
use Rattle.lines.specs.declared.fault.Layer.TheVariants as layer

-- a field's fault, as one of the file
abbrev pub in_field : InputCause → ℕ → FileFault
in_field c p = Line (Field (record { cause = c; position = p }))

-- the fault of a cause at a position
abbrev pub fault_of : InputCause → ℕ → FileFault
fault_of cause.NoLineFeed p = Line (NoLineFeed p)
fault_of cause.WrongLength p = Line WrongLength
fault_of cause.NotListed p = in_field cause.NotListed p
fault_of cause.NotANumber p = in_field cause.NotANumber p
fault_of cause.WrongCharacter p = in_field cause.WrongCharacter p
fault_of cause.NoDate p = in_field cause.NoDate p
fault_of cause.DayOutOfRange p = DayOutOfRange p
fault_of cause.DayNotOpen p = DayNotOpen p
fault_of cause.WrongCode p = in_field cause.WrongCode p
fault_of cause.WrongAmount p = in_field cause.WrongAmount p
fault_of cause.NotAtLeft p = in_field cause.NotAtLeft p
fault_of cause.WeakReference p = in_field cause.WeakReference p
fault_of cause.Differs p = Differs p

-- the layer of a cause: the line for 1 and 2, the file for 7, 8 and 13, a field for the others
abbrev pub layer_of_cause : InputCause → Layer
layer_of_cause cause.NoLineFeed = layer.Line
layer_of_cause cause.WrongLength = layer.Line
layer_of_cause cause.NotListed = layer.Field
layer_of_cause cause.NotANumber = layer.Field
layer_of_cause cause.WrongCharacter = layer.Field
layer_of_cause cause.NoDate = layer.Field
layer_of_cause cause.DayOutOfRange = layer.File
layer_of_cause cause.DayNotOpen = layer.File
layer_of_cause cause.WrongCode = layer.Field
layer_of_cause cause.WrongAmount = layer.Field
layer_of_cause cause.NotAtLeft = layer.Field
layer_of_cause cause.WeakReference = layer.Field
layer_of_cause cause.Differs = layer.File

-- what a fault tells

abbrev pub line_cause : LineFault → InputCause
line_cause (Field e) = e.cause
line_cause (NoLineFeed p) = cause.NoLineFeed
line_cause WrongLength = cause.WrongLength

abbrev pub cause_of : FileFault → InputCause
cause_of (Line e) = line_cause e
cause_of (DayOutOfRange p) = cause.DayOutOfRange
cause_of (DayNotOpen p) = cause.DayNotOpen
cause_of (Differs p) = cause.Differs

abbrev pub line_position : LineFault → ℕ
line_position (Field e) = e.position
line_position (NoLineFeed p) = p
line_position WrongLength = 1

abbrev pub position_of : FileFault → ℕ
position_of (Line e) = line_position e
position_of (DayOutOfRange p) = p
position_of (DayNotOpen p) = p
position_of (Differs p) = p

abbrev pub fault_layer : FileFault → Layer
fault_layer (Line (Field e)) = layer.Field
fault_layer (Line (NoLineFeed p)) = layer.Line
fault_layer (Line WrongLength) = layer.Line
fault_layer (DayOutOfRange p) = layer.File
fault_layer (DayNotOpen p) = layer.File
fault_layer (Differs p) = layer.File

-- the fault of a line with this number
abbrev pub numbered : FileFault → ℕ → Fault
numbered e n = record { line = n; fault = e }

-- what is read, with a field's fault as one of the file
abbrev pub of_file : {A B : Type 0} → (A → B) → Result A FieldFault → Result B FileFault
of_file says r = result_map_both says (λ e. Line (Field e)) r
