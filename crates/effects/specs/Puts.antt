-- A put: one item more, behind those of the gap that runs to the end.
use Rattle.std.specs.Prelude.{◌≡◌, ℕ, ◌+◌, ◌-◌, ◌*◌, ◌<◌, ◌≤◌, List, [], ◌∷◌, ◌++◌, length}
use Rattle.sets.specs.Readings.{Memory, Entry, Reading}
use Rattle.writing.specs.Forms.{Wanted}
use Rattle.layout.specs.declared.items.Behind.TheVariants.{End}
use Rattle.layout.specs.Plans.{total}
use Rattle.layout.specs.Anew.{entry_of}
use Rattle.effects.specs.Lists.{Absent, put_list}
use Rattle.effects.specs.Bytes.{Given}
use Rattle.effects.specs.Gaps.{Items, with_items, Becomes, NoRival, free_of, AtMostFree}

abbrev pub put_items : List Wanted → Wanted → List Wanted
put_items ws w = ws ++ (w ∷ [])

-- a memory that reads as a list with k free bytes, of which no rival that reads so has more
pub record Put (m m' : Memory) (l : List Entry) (k : ℕ) : Type 0 where
  pub becomes : Becomes m m' l
  pub free : free_of m' ≡ k
  pub most : AtMostFree m l k

-- where there is room, the list has one entry more
abbrev pub PutWithRoom : Type 0
PutWithRoom =
    (m : Memory) (r : Reading) (p n : ℕ) (ws : List Wanted) → Items m r p n ws → p + n ≡ length m.locks
    → (w : Wanted) → Given w → Absent w.identifier r.entries → total (put_items ws w) ≤ n * m.size
    → Put m (with_items m p n End (put_items ws w)) (put_list r.entries (entry_of w)) (length m.bytes - p * m.size - total (put_items ws w))

-- where there is none, no rival reads so
abbrev pub PutWithoutRoom : Type 0
PutWithoutRoom =
    (m : Memory) (r : Reading) (p n : ℕ) (ws : List Wanted) → Items m r p n ws → p + n ≡ length m.locks
    → (w : Wanted) → n * m.size < total (put_items ws w) → NoRival m (put_list r.entries (entry_of w))
