-- What a rehearsal tag means: its dump's tag under the table of changes; and when none is made.
use Rattle.std.specs.Prelude.{cond, Some, None, Option}
use Rattle.tags.specs.declared.faults.DumpFault.{DumpFault}
use Rattle.tags.specs.declared.faults.DumpFault.TheVariants.{Shape}
use Rattle.tags.specs.Tags.{Tag}
use Rattle.tags.specs.Dumps.{dump_means}
use Rattle.tables.specs.Tables.{has_room, under}
use Rattle.rehearsal.specs.declared.parts.Rehearsal.{Rehearsal}

abbrev pub rehearsal_fault : Tag → Option DumpFault
rehearsal_fault t = cond (has_room t.count t.size) None (Some Shape)

abbrev pub rehearsal_tag : Rehearsal → Tag
rehearsal_tag s = under (dump_means s.dump) s.table s.system
