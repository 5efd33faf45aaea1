-- What a fault of the scan tells: number, place, group and layer.
use Rattle.std.specs.Prelude.{ℕ}
use Rattle.codes.specs.Numbers.{fault_number, fault_group}
use Rattle.tags.specs.declared.faults.Layer.{Layer}
use Rattle.tags.specs.declared.faults.Layer.TheVariants as layers
use Rattle.sets.specs.Parsing.{Flaw}
use Rattle.sets.specs.Scans.{Refusal}
use Rattle.scan.specs.declared.faults.Malformed.{Malformed}
use Rattle.scan.specs.declared.faults.Malformed.TheVariants.{Nibble, Past, Lead, Arcs, Length, Empty}
use Rattle.scan.specs.declared.faults.ScanFault.{ScanFault}
use Rattle.scan.specs.declared.faults.ScanFault.TheVariants.{Table, Set, Code}

abbrev pub malformed_number : Malformed → ℕ
malformed_number Nibble = 7
malformed_number Past = 8
malformed_number Lead = 9
malformed_number Arcs = 10
malformed_number Length = 11
malformed_number Empty = 12

abbrev pub scan_number : ScanFault → ℕ
scan_number Table = 4
scan_number (Set a) = malformed_number a.fault
scan_number (Code a) = fault_number a.fault

abbrev pub scan_place : ScanFault → ℕ
scan_place Table = 2
scan_place (Set a) = a.at
scan_place (Code a) = a.at

abbrev pub scan_group : ScanFault → ℕ
scan_group Table = 0
scan_group (Set a) = 0
scan_group (Code a) = fault_group a.fault

abbrev pub scan_layer : ScanFault → Layer
scan_layer Table = layers.Call
scan_layer (Set a) = layers.Scan
scan_layer (Code a) = layers.Code

abbrev pub scan_flaw : ScanFault → Flaw
scan_flaw f = record { number = scan_number f; group = scan_group f }

abbrev pub scan_refusal : ScanFault → Refusal
scan_refusal f = record { place = scan_place f; flaw = scan_flaw f }
