-- What opening and formatting answer and leave.
use Rattle.std.specs.Prelude.{◌≡◌, ℕ, List, [], ◌∷◌, replicate, Some, None, Option}
use Rattle.tags.specs.Tags.{Tag}
use Rattle.drivers.specs.Questions.{shut}
use Rattle.sets.specs.Parsing.{plain}
use Rattle.sets.specs.Readings.{lowest}
use Rattle.states.specs.declared.holding.OpenState.{OpenState}
use Rattle.states.specs.Holding.{opened}
use Rattle.calls.specs.Rows.{Row, shape_row, system_row, seen}
use Rattle.calls.specs.Starts.{free_count}

-- an open state that notes the tag's shape and system byte, and the tag's free count
abbrev pub Opens : Tag → OpenState × ℕ → Type 0
Opens t o = (o.0 ≡ opened (seen t)) × (o.1 ≡ free_count t)

-- row 17, of the lowest locked block
abbrev pub locked_row : Option ℕ → Row
locked_row None = None
locked_row (Some k) = Some (record { place = k; flaw = plain 17 })

abbrev pub lowest_locked : Tag → Option ℕ
lowest_locked t = lowest (shut t) t.count

-- to format with a system byte; row 5 looks at that
unfoldable pub format_rows : Tag → ℕ → List Row
format_rows t byte = shape_row t.count t.size ∷ system_row byte ∷ locked_row (lowest_locked t) ∷ []

-- a block of zeros, and the tag with nothing else
abbrev pub zeros : ℕ → List ℕ
zeros n = replicate n 0

abbrev pub erased : Tag → Tag
erased t = record { count = t.count; size = t.size; system = t.system; blocks = replicate t.count (zeros t.size); locks = t.locks }

abbrev pub formatted : Tag → ℕ → Tag
formatted t byte = record { count = t.count; size = t.size; system = byte; blocks = replicate t.count (zeros t.size); locks = t.locks }
