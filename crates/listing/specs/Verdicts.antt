-- Whether a dump has a listing: the first refusal of its checks, or how many sets and free bytes it has.
use Rattle.std.specs.Prelude.{ℕ, ◌+◌, cond, List, take, drop, Some, None, Ok, Err, Option, Result, slice_index}
use Rattle.tags.specs.declared.faults.DumpFault.{DumpFault}
use Rattle.tags.specs.Tags.{known_format}
use Rattle.tags.specs.Dumps.{size_of, count_of, dump_fault}
use Rattle.tags.specs.Faults.{dump_number, dump_place}
use Rattle.sets.specs.Parsing.{plain}
use Rattle.sets.specs.Scans.{Refusal}
use Rattle.sets.specs.Readings.{Memory}
use Rattle.scan.specs.declared.tables.Tally.{Tally}
use Rattle.reading.specs.Checks.{memory, answer}
use Rattle.listing.specs.declared.refusals.Refused.{Refused}
use Rattle.listing.specs.declared.verdicts.Passed.{Passed}
use Rattle.listing.specs.Refusals.{refusal_of}

abbrev pub dump_memory : List ℕ → Memory
dump_memory xs = memory (size_of xs) (take (count_of xs) (drop 3 xs)) (drop (3 + count_of xs) xs)

abbrev pub by_dump : Option DumpFault → Result Tally Refusal → Result Tally Refusal
by_dump (Some f) r = Err (record { place = dump_place f; flaw = plain (dump_number f) })
by_dump None r = r

abbrev pub verdict : ℕ → List ℕ → Result Tally Refusal
verdict room xs =
    by_dump (dump_fault xs) (cond (known_format (slice_index xs 2)) (answer room (dump_memory xs)) (Err (record { place = slice_index xs 2; flaw = plain 5 })))

abbrev pub told : Result Tally Refused → Result Tally Refusal
told (Ok t) = Ok t
told (Err r) = Err (refusal_of r)

abbrev pub passed : Result Passed Refused → Result Tally Refusal
passed (Ok p) = Ok p.tally
passed (Err r) = Err (refusal_of r)
