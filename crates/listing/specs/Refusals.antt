-- What a refusal of a dump tells: number, place, group and layer.
use Rattle.std.specs.Prelude.{ℕ}
use Rattle.tags.specs.declared.faults.Layer.{Layer}
use Rattle.tags.specs.declared.faults.Layer.TheVariants.{Call}
use Rattle.tags.specs.Faults.{dump_number, dump_place, dump_layer}
use Rattle.sets.specs.Scans.{Refusal}
use Rattle.reading.specs.Faults.{read_number, read_place, read_group, read_layer}
use Rattle.listing.specs.declared.refusals.Refused.{Refused}
use Rattle.listing.specs.declared.refusals.Refused.TheVariants.{Dump, System, Reading}

abbrev pub refused_number : Refused → ℕ
refused_number (Dump f) = dump_number f
refused_number (System system) = 5
refused_number (Reading f) = read_number f

abbrev pub refused_place : Refused → ℕ
refused_place (Dump f) = dump_place f
refused_place (System system) = system
refused_place (Reading f) = read_place f

abbrev pub refused_group : Refused → ℕ
refused_group (Dump f) = 0
refused_group (System system) = 0
refused_group (Reading f) = read_group f

abbrev pub refused_layer : Refused → Layer
refused_layer (Dump f) = dump_layer f
refused_layer (System system) = Call
refused_layer (Reading f) = read_layer f

abbrev pub refusal_of : Refused → Refusal
refusal_of r = record { place = refused_place r; flaw = record { number = refused_number r; group = refused_group r } }
