-- What the beginning of a call finds.
use Rattle.std.specs.Prelude.{◌≡◌, ℕ, List, [], ◌∷◌, ◌++◌, map, length, take, Option}
use Rattle.tags.specs.Tags.{Tag, bytes}
use Rattle.tags.specs.Dumps.{nonzero}
use Rattle.sets.specs.Scans.{free}
use Rattle.sets.specs.Readings.{Memory, found, reads}
use Rattle.scan.specs.Tables.{tally}
use Rattle.states.specs.declared.holding.Noted.{Noted}
use Rattle.calls.specs.declared.starts.Begun.{Begun}
use Rattle.calls.specs.declared.admission.Rooms.{Rooms}
use Rattle.calls.specs.Rows.{Row, first, fault_of, seen, start_rows}
use Rattle.calls.specs.Working.{Work, rooms_of, renewed, unless}

abbrev pub memory_of : Tag → Memory
memory_of t = record { size = t.size; locks = t.locks; bytes = bytes t }

-- the bytes after the last set, or all without sets
abbrev pub free_count : Tag → ℕ
free_count t = free (length (bytes t)) (found (bytes t))

-- rows 2 to 18, as most calls run them
unfoldable pub begin_rows : Tag → Option Noted → Rooms → List Row
begin_rows t n w = start_rows t n w ++ fault_of (reads (memory_of t)) ∷ []

-- working memory after a call that scans, which leaves the tag t: untouched where one of its first rows holds
unfoldable pub worked : Tag → Option Noted → Tag → Work → Work
worked before n t w = unless (first (start_rows before n (rooms_of w))) w (renewed t w)

-- the lock bytes are those of the tag's blocks; then the counts of its sets and free bytes
pub record Begins (t : Tag) (b : Begun) : Type 0 where
  pub noted : b.noted ≡ seen t
  pub locks : map nonzero (take t.count b.locks) ≡ t.locks
  pub tally : b.tally ≡ tally (length (bytes t)) (found (bytes t))
