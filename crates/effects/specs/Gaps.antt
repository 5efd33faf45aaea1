-- A gap with its items, and the memory in which it is laid out anew.
use Rattle.std.specs.Prelude.{◌≡◌, ℕ, ◌*◌, ◌≤◌, false, List, map, length, Ok}
use Rattle.std.specs.List.{ContainsAt as Has, AllByRecursion}
use Rattle.sets.specs.Scans.{Found, free}
use Rattle.sets.specs.Readings.{Memory, Entry, Reading, found, sealed, reads}
use Rattle.rivals.specs.Memories.{Shaped, Rival, Gap, gap_entries, seals}
use Rattle.rivals.specs.Relaid.{relaid}
use Rattle.writing.specs.Forms.{Wanted}
use Rattle.layout.specs.declared.items.Behind.{Behind}
use Rattle.layout.specs.Lays.{laid_gap}
use Rattle.layout.specs.Anew.{entry_of}
use Rattle.effects.specs.Bytes.{Given}

-- a memory that reads as a list, and the items that stand in a gap of it
pub record Items (m : Memory) (r : Reading) (p n : ℕ) (ws : List Wanted) : Type 0 where
  pub shaped : Shaped m
  pub read : reads m ≡ Ok r
  pub gap : Gap m p n
  pub given : AllByRecursion Given ws
  pub are : map entry_of ws ≡ gap_entries m p n

-- that gap with these items
abbrev pub with_items : Memory → ℕ → ℕ → Behind → List Wanted → Memory
with_items m p n behind ws = relaid m p n (laid_gap behind ws (n * m.size))

-- an open set of a memory
pub record OpenSet (m : Memory) (f : Found) : Type 0 where
  pub has : Has (found m.bytes) f
  pub unsealed : sealed m f ≡ false

abbrev pub ReadsAs : Memory → List Entry → Type 0
ReadsAs m l = reads m ≡ Ok (record { entries = l })

-- a rival of m that reads as a list, and has the same sealed sets
pub record Becomes (m m' : Memory) (l : List Entry) : Type 0 where
  pub list : ReadsAs m' l
  pub rival : Rival m m'
  pub seals : seals m' ≡ seals m

-- no rival of m reads as a list
abbrev pub NoRival : Memory → List Entry → Type 0
NoRival m l = (m' : Memory) → Rival m m' → ReadsAs m' l → ⊥

-- the free bytes, behind the last set; and that no rival which reads as a list has more than k
abbrev pub free_of : Memory → ℕ
free_of m = free (length m.bytes) (found m.bytes)

abbrev pub AtMostFree : Memory → List Entry → ℕ → Type 0
AtMostFree m l k = (m' : Memory) → Rival m m' → ReadsAs m' l → free_of m' ≤ k
