-- The text of a fault. Assumes nothing.
use Rattle.std.specs.Prelude.{ℕ, List, ◌++◌, codes, decimal}
use Rattle.tickets.specs.declared.fault.Fault.{Fault}
use Rattle.tickets.specs.declared.fault.Layer.{Layer}
use Rattle.tickets.specs.declared.fault.Layer.TheVariants as layer

abbrev pub layer_text : Layer → List ℕ
layer_text layer.Ticket = codes "T"
layer_text layer.Catalogue = codes "C"
layer_text layer.Register = codes "G"

-- NUMBER LAYER PLACE
abbrev pub fault_text : Fault → List ℕ
fault_text fault = decimal fault.number ++ (codes " " ++ (layer_text fault.layer ++ (codes " " ++ decimal fault.place)))
