-- What a fault tells, of a dump and of all; and the layers' names.
use Rattle.std.specs.Prelude.{ℕ, List, codes}
use Rattle.tags.specs.declared.faults.Layer.{Layer}
use Rattle.tags.specs.declared.faults.Layer.TheVariants.{Dump, Call, Scan, Code, Driver}
use Rattle.tags.specs.declared.faults.DumpFault.{DumpFault}
use Rattle.tags.specs.declared.faults.DumpFault.TheVariants.{Short, Shape, Size}

-- what every fault tells; where no code is at fault the group is 0
pub record Told : Type 0 where
  pub number : ℕ
  pub place : ℕ
  pub group : ℕ
  pub layer : Layer

abbrev pub layer_name : Layer → List ℕ
layer_name Dump = codes "dump"
layer_name Call = codes "call"
layer_name Scan = codes "scan"
layer_name Code = codes "code"
layer_name Driver = codes "driver"

abbrev pub dump_number : DumpFault → ℕ
dump_number Short = 1
dump_number Shape = 2
dump_number Size = 3

abbrev pub dump_place : DumpFault → ℕ
dump_place Short = 0
dump_place Shape = 0
dump_place Size = 0

abbrev pub dump_layer : DumpFault → Layer
dump_layer Short = Dump
dump_layer Shape = Call
dump_layer Size = Dump
