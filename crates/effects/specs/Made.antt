-- What each call makes of a memory, of which the memory and the arguments alone decide.
use Rattle.std.specs.Prelude.{ℕ, suc, ◌*◌, cond, List, [], ◌∷◌}
use Rattle.std.specs.Str.{bytes_eq}
use Rattle.sets.specs.Scans.{Found}
use Rattle.sets.specs.Readings.{Memory, identified}
use Rattle.writing.specs.Forms.{Wanted}
use Rattle.layout.specs.declared.items.Behind.{Behind}
use Rattle.layout.specs.declared.items.Behind.TheVariants.{End}
use Rattle.layout.specs.Plans.{total}
use Rattle.effects.specs.Gaps.{with_items}
use Rattle.effects.specs.Blocks.{end_first, end_blocks, gap_first, gap_blocks, block_of, behind_of}
use Rattle.effects.specs.Held.{items_of}
use Rattle.effects.specs.Puts.{put_items}
use Rattle.effects.specs.Changes.{change_items, drop_items}
use Rattle.effects.specs.Readies.{with_readied, readied_first, readied_blocks, readied_need}

-- the gap that runs to the end: its bytes, and its items
unfoldable pub end_room : Memory → ℕ
end_room m = end_blocks m * m.size

unfoldable pub end_items : Memory → List Wanted
end_items m = items_of m (end_first m) (end_blocks m)

-- the gap of a set: its first block, how many, its bytes, what stands behind it, its items, and which of them the set is
unfoldable pub set_first : Memory → Found → ℕ
set_first m f = gap_first m (block_of m f)

unfoldable pub set_blocks : Memory → Found → ℕ
set_blocks m f = gap_blocks m (block_of m f)

unfoldable pub set_room : Memory → Found → ℕ
set_room m f = set_blocks m f * m.size

unfoldable pub set_behind : Memory → Found → Behind
set_behind m f = behind_of m (set_first m f) (set_blocks m f)

unfoldable pub set_items : Memory → Found → List Wanted
set_items m f = items_of m (set_first m f) (set_blocks m f)

unfoldable pub place_of : List ℕ → List Wanted → ℕ
place_of id [] = 0
place_of id (w ∷ ws) = cond (bytes_eq id w.identifier) 0 (suc (place_of id ws))

unfoldable pub set_place : Memory → Found → ℕ
set_place m f = place_of (identified f) (set_items m f)

-- a put: the bytes that it wants in that gap, and the memory that it makes
unfoldable pub put_wants : Memory → Wanted → ℕ
put_wants m w = total (put_items (end_items m) w)

unfoldable pub put_made : Memory → Wanted → Memory
put_made m w = with_items m (end_first m) (end_blocks m) End (put_items (end_items m) w)

-- a change of a set to an item of its identifier
unfoldable pub change_wants : Memory → Found → Wanted → ℕ
change_wants m f w = total (change_items (set_items m f) (set_place m f) w)

unfoldable pub change_made : Memory → Found → Wanted → Memory
change_made m f w = with_items m (set_first m f) (set_blocks m f) (set_behind m f) (change_items (set_items m f) (set_place m f) w)

-- a drop of a set
unfoldable pub drop_made : Memory → Found → Memory
drop_made m f = with_items m (set_first m f) (set_blocks m f) (set_behind m f) (drop_items (set_items m f) (set_place m f))

-- a ready of a set: the bytes that it wants, the memory that it makes, and the blocks that it pledges
unfoldable pub ready_wants : Memory → Found → ℕ
ready_wants m f = readied_need m (set_items m f) (set_place m f)

unfoldable pub ready_made : Memory → Found → Memory
ready_made m f = with_readied m (set_first m f) (set_blocks m f) (set_behind m f) (set_items m f) (set_place m f)

unfoldable pub ready_first : Memory → Found → ℕ
ready_first m f = readied_first m (set_first m f) (set_items m f) (set_place m f)

unfoldable pub ready_blocks : Memory → Found → ℕ
ready_blocks m f = readied_blocks m (set_items m f) (set_place m f)
