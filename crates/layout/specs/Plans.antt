-- The tiles of a gap that is laid out: sets in smallest form from its start, what is left over behind them.
use Rattle.std.specs.Prelude.{ℕ, ◌+◌, ◌-◌, min, List, [], ◌∷◌, ◌++◌, replicate, slice_index_or}
use Rattle.codes.specs.declared.kind.Kind.TheVariants.{Application}
use Rattle.sets.specs.Sets.{Tile, filler, holds, size}
use Rattle.rivals.specs.Rooms.{whole}
use Rattle.writing.specs.Forms.{Wanted, formed}

-- The bytes of its smallest form, and of those of some together.
-- Stays: `rivals` sums entries, whose kind is a number and which may be sealed; to make entries of items first is no plainer.
abbrev pub least : Wanted → ℕ
least w = size (formed 0 w)

unfoldable pub total : List Wanted → ℕ
total [] = 0
total (w ∷ ws) = least w + total ws

-- smallest forms end to end, the last with so many bytes of offset and pad
unfoldable pub run : List Wanted → ℕ → List Tile
run [] extra = []
run (w ∷ []) extra = holds (formed extra w) ∷ []
run (w ∷ v ∷ ws) extra = holds (formed 0 w) ∷ run (v ∷ ws) extra

-- of what is left over before a locked block the last set takes as offset and pad up to 256, where there is a set
abbrev pub taken : List Wanted → ℕ → ℕ
taken [] left = 0
taken (w ∷ ws) left = min left 256

-- a gap of g bytes before a locked block: the rest is fillers
abbrev pub locked_plan : List Wanted → ℕ → List Tile
locked_plan ws g =
    let left = g - total ws in
    run ws (taken ws left) ++ replicate (left - taken ws left) filler

-- a gap that runs to the end: the rest is 00
abbrev pub last_plan : List Wanted → List Tile
last_plan ws = run ws 0

-- A readied set begins at the first block start behind those before it and ends where a block ends, so that its blocks
-- can be locked without another set: what a gap then has to have.
abbrev pub ready_need : ℕ → List Wanted → Wanted → List Wanted → ℕ
ready_need b before w after = whole b (total before) + whole b (least w) + total after

abbrev pub nothing : Wanted
nothing = record { identifier = []; kind = Application; object = [] }

abbrev pub nth : List Wanted → ℕ → Wanted
nth ws n = slice_index_or ws n nothing
