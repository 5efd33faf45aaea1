-- What a fault of a memory tells: number, place, group and layer.
use Rattle.std.specs.Prelude.{ℕ}
use Rattle.tags.specs.declared.faults.Layer.{Layer}
use Rattle.tags.specs.declared.faults.Layer.TheVariants.{Call}
use Rattle.sets.specs.Scans.{Refusal}
use Rattle.scan.specs.Faults.{scan_number, scan_place, scan_group, scan_layer}
use Rattle.reading.specs.declared.faults.ReadFault.{ReadFault}
use Rattle.reading.specs.declared.faults.ReadFault.TheVariants.{Shape, Scan, Stray, Repeat}

abbrev pub read_number : ReadFault → ℕ
read_number Shape = 2
read_number (Scan f) = scan_number f
read_number (Stray block) = 16
read_number (Repeat at) = 18

abbrev pub read_place : ReadFault → ℕ
read_place Shape = 0
read_place (Scan f) = scan_place f
read_place (Stray block) = block
read_place (Repeat at) = at

abbrev pub read_group : ReadFault → ℕ
read_group Shape = 0
read_group (Scan f) = scan_group f
read_group (Stray block) = 0
read_group (Repeat at) = 0

abbrev pub read_layer : ReadFault → Layer
read_layer Shape = Call
read_layer (Scan f) = scan_layer f
read_layer (Stray block) = Call
read_layer (Repeat at) = Call

abbrev pub read_refusal : ReadFault → Refusal
read_refusal f = record { place = read_place f; flaw = record { number = read_number f; group = read_group f } }
