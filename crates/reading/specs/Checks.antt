-- What the check of a memory answers, and what it leaves in the table.
use Rattle.std.specs.Prelude.{ℕ, cond, List, map, length, Ok, Err, Result, ◌==◌}
use Rattle.tags.specs.Dumps.{nonzero}
use Rattle.sets.specs.Parsing.{plain}
use Rattle.sets.specs.Scans.{Refusal}
use Rattle.sets.specs.Readings.{Memory, Reading, found, reads}
use Rattle.scan.specs.declared.views.SetRecord.{SetRecord}
use Rattle.scan.specs.declared.tables.Tally.{Tally}
use Rattle.scan.specs.Tables as tables
use Rattle.reading.specs.declared.faults.ReadFault.{ReadFault}
use Rattle.reading.specs.declared.memories.Memory as lent
use Rattle.reading.specs.Faults.{read_refusal}

-- a memory by its lock bytes, of which one that is not zero says locked
abbrev pub memory : ℕ → List ℕ → List ℕ → Memory
memory size locks bytes = record { size = size; locks = map nonzero locks; bytes = bytes }

abbrev pub memory_of : lent.Memory → Memory
memory_of m = memory m.size m.locks.now m.image.now

-- the counts of a memory that reads as a list, or the refusal
abbrev pub counted : Tally → Result Reading Refusal → Result Tally Refusal
counted t (Ok r) = Ok t
counted t (Err f) = Err f

-- blocks have a byte at least, and a table that is too short is refused
abbrev pub answer : ℕ → Memory → Result Tally Refusal
answer room m =
    cond (m.size == 0) (Err (record { place = 0; flaw = plain 2 }))
    (cond (tables.short room m.bytes) (Err (record { place = 2; flaw = plain 4 }))
    (counted (tables.tally (length m.bytes) (found m.bytes)) (reads m)))

abbrev pub answered : Result Tally ReadFault → Result Tally Refusal
answered (Ok t) = Ok t
answered (Err f) = Err (read_refusal f)

abbrev pub after : Memory → List SetRecord → List SetRecord
after m table = cond (m.size == 0) table (tables.after m.bytes table)
