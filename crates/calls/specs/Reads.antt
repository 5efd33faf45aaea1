-- What a read answers and leaves.
use Rattle.std.specs.Prelude.{◌≡◌, ℕ, Bool, true, false, List, [], ◌∷◌, ◌++◌, length, drop, Some, None, Option, nat_lt}
use Rattle.tags.specs.Tags.{Tag, bytes}
use Rattle.sets.specs.Sets.{Set, filler, holds}
use Rattle.sets.specs.Parsing.{Step, end, tile, wrong, plain}
use Rattle.sets.specs.Scans.{Refusal, Found, scan}
use Rattle.sets.specs.Objects.{unpacked}
use Rattle.sets.specs.Readings.{found, said}
use Rattle.calls.specs.declared.finds.Hit.{Hit}
use Rattle.calls.specs.declared.admission.Rooms.{Rooms}
use Rattle.calls.specs.Rows.{Row, row, start_rows}
use Rattle.calls.specs.Working.{unless}
use Rattle.calls.specs.Finds.{identifier_row, set_in, hit_in}

-- the object of a set, and of the first set that an identifier names
abbrev pub object_of : Set → List ℕ
object_of s = said (unpacked s.code s.object)

-- the object of the set that a step shows
abbrev pub shows_set : Step → Bool
shows_set end = false
shows_set (tile filler) = false
shows_set (tile (holds s)) = true
shows_set (wrong flaw) = false

abbrev pub object_shown : Step → List ℕ
object_shown end = []
object_shown (tile filler) = []
object_shown (tile (holds s)) = object_of s
object_shown (wrong flaw) = []

abbrev pub object_at : List Found → Option Hit → List ℕ
object_at fs None = []
object_at fs (Some h) = object_of (set_in fs h.index).set

abbrev pub object_named : List ℕ → List Found → List ℕ
object_named c fs = object_at fs (hit_in c fs)

abbrev pub occurs_again : Option Hit → Bool
occurs_again None = false
occurs_again (Some h) = h.again

-- rows 23 and 26
abbrev pub absent_row : Option Hit → Row
absent_row None = Some (record { place = 0; flaw = plain 23 })
absent_row (Some h) = None

abbrev pub output_row : List ℕ → ℕ → Row
output_row object room = row 26 (length object) (nat_lt room (length object))

-- the rows of the arguments, over the sets that were found and the room for the object
unfoldable pub take_rows : List ℕ → List Found → ℕ → List Row
take_rows c fs room = identifier_row c ∷ absent_row (hit_in c fs) ∷ output_row (object_named c fs) room ∷ []

-- rows 7 to 15 are those of the scan; 16 to 18 are not for a read
unfoldable pub read_rows : Tag → Rooms → List ℕ → ℕ → List Row
read_rows t w c room = start_rows t None w ++ ((scan unpacked (bytes t)).fault ∷ take_rows c (found (bytes t)) room)

-- the length of the object, and whether the identifier occurs again
abbrev pub Takes : List ℕ → List Found → ℕ × Bool → Type 0
Takes c fs a = (a.0 ≡ length (object_named c fs)) × (a.1 ≡ occurs_again (hit_in c fs))

-- the output then: the object at its front, or as before
abbrev pub put_out : Option Refusal → List ℕ → List ℕ → List ℕ
put_out o object old = unless o old (object ++ drop (length object) old)
