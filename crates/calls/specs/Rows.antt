-- The table of refusals, row by row.
use Rattle.std.specs.Prelude.{◌≡◌, ℕ, ◌*◌, Bool, cond, not, ◌&&◌, List, [], ◌∷◌, ◌++◌, Some, None, Ok, Err, Option, Result, ◌==◌, nat_lt}
use Rattle.tags.specs.Tags.{Tag, in_limits, known_format}
use Rattle.sets.specs.Parsing.{plain}
use Rattle.sets.specs.Scans.{Refusal}
use Rattle.states.specs.declared.faults.CallFault.{CallFault}
use Rattle.states.specs.declared.holding.Noted.{Noted}
use Rattle.states.specs.Faults.{refusal_of}
use Rattle.calls.specs.declared.admission.Rooms.{Rooms}

-- what a row tells if it holds, and nothing if it does not
abbrev pub Row : Type 0
Row = Option Refusal

-- the row of a number, with the place that it tells, and whether it holds
abbrev pub row : ℕ → ℕ → Bool → Row
row number place holds = cond holds (Some (record { place = place; flaw = plain number })) None

-- the first row that holds
abbrev pub first : List Row → Option Refusal
first [] = None
first (Some f ∷ rows) = Some f
first (None ∷ rows) = first rows

-- a call is granted where no row holds, and then says what it grants; otherwise it tells the first row that holds
abbrev pub Answers : {A : Type 0} → List Row → (A → Type 0) → Result A CallFault → Type 0
Answers rows grants (Ok a) = (first rows ≡ None) × grants a
Answers rows grants (Err e) = first rows ≡ Some (refusal_of e)

-- rows 7 to 18 are those of the reading of a memory
abbrev pub fault_of : {A : Type 0} → Result A Refusal → Row
fault_of (Ok r) = None
fault_of (Err f) = Some f

-- how many bytes of image and scratch, and records of the table, are lent
abbrev pub rooms : ℕ → ℕ → ℕ → Rooms
rooms image table scratch = record { image = image; table = table; scratch = scratch }

abbrev pub shape_row : ℕ → ℕ → Row
shape_row count size = row 2 0 (not (in_limits count size))

-- rows 2 and 4
abbrev pub room_rows : ℕ → ℕ → Rooms → List Row
room_rows count size w =
    shape_row count size
    ∷ row 4 1 (nat_lt w.image (count * size))
    ∷ row 4 2 (nat_lt w.table 341)
    ∷ row 4 3 (nat_lt w.scratch 3072)
    ∷ []

abbrev pub system_row : ℕ → Row
system_row byte = row 5 byte (not (known_format byte))

-- what is seen of a tag is what a state noted
abbrev pub as_noted : Noted → Noted → Bool
as_noted s n = s.shape.count == n.shape.count && s.shape.size == n.shape.size && s.system == n.system

-- row 5 for a call without a state, row 6 for one with a state
abbrev pub entry_row : Noted → Option Noted → Row
entry_row s None = system_row s.system
entry_row s (Some n) = row 6 0 (not (as_noted s n))

-- shape and system byte of a tag
abbrev pub seen : Tag → Noted
seen t = record { shape = record { count = t.count; size = t.size }; system = t.system }

-- the rows that leave working memory untouched
unfoldable pub start_rows : Tag → Option Noted → Rooms → List Row
start_rows t n w = room_rows t.count t.size w ++ entry_row (seen t) n ∷ []
