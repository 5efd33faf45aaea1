-- A change and a drop: another item in the place of one, and none.
use Rattle.std.specs.Prelude.{◌≡◌, ℕ, suc, ◌*◌, ◌<◌, ◌≤◌, List, ◌∷◌, ◌++◌, map, length, take, drop, Ok}
use Rattle.std.specs.List.{AllByRecursion}
use Rattle.codes.specs.Numbers.{kind_number}
use Rattle.sets.specs.Scans.{Found}
use Rattle.sets.specs.Readings.{Memory, Entry, Reading, identified, entry, reads}
use Rattle.rivals.specs.Memories.{Shaped}
use Rattle.rivals.specs.Promises.{Lies, gap_before, gap_behind}
use Rattle.writing.specs.Forms.{Wanted}
use Rattle.layout.specs.declared.items.Behind.{Behind}
use Rattle.layout.specs.Plans.{total, nth}
use Rattle.layout.specs.Anew.{entry_of, Stands}
use Rattle.effects.specs.Lists.{changed, dropped}
use Rattle.effects.specs.Bytes.{Given}
use Rattle.effects.specs.Gaps.{with_items, Becomes, NoRival}

-- an open set of a memory that reads as a list; it is the k-th of the items of its gap
pub record ItemAt (m : Memory) (r : Reading) (fs : List Found) (f : Found) (gs : List Found) (p n : ℕ) (ws : List Wanted) (k : ℕ) : Type 0 where
  pub shaped : Shaped m
  pub read : reads m ≡ Ok r
  pub lies : Lies m fs f gs p n
  pub given : AllByRecursion Given ws
  pub inside : k < length ws
  pub before : map entry_of (take k ws) ≡ gap_before m fs
  pub is : entry_of (nth ws k) ≡ entry m f
  pub behind : map entry_of (drop (suc k) ws) ≡ gap_behind m gs

abbrev pub change_items : List Wanted → ℕ → Wanted → List Wanted
change_items ws k w = take k ws ++ (w ∷ drop (suc k) ws)

abbrev pub drop_items : List Wanted → ℕ → List Wanted
drop_items ws k = take k ws ++ drop (suc k) ws

-- the list with the kind and the object of an item in the entry of its identifier
abbrev pub changed_to : Wanted → List Entry → List Entry
changed_to w l = changed w.identifier (kind_number w.kind) w.object l

-- where there is room, the entry has another kind and object, in its place in the list
abbrev pub ChangeWithRoom : Type 0
ChangeWithRoom =
    (m : Memory) (r : Reading) (fs : List Found) (f : Found) (gs : List Found) (p n : ℕ) (ws : List Wanted) (k : ℕ) → ItemAt m r fs f gs p n ws k
    → (behind : Behind) → Stands m p n behind → (w : Wanted) → Given w → w.identifier ≡ identified f → total (change_items ws k w) ≤ n * m.size
    → Becomes m (with_items m p n behind (change_items ws k w)) (changed_to w r.entries)

-- where there is none, no rival reads so
abbrev pub ChangeWithoutRoom : Type 0
ChangeWithoutRoom =
    (m : Memory) (r : Reading) (fs : List Found) (f : Found) (gs : List Found) (p n : ℕ) (ws : List Wanted) (k : ℕ) → ItemAt m r fs f gs p n ws k
    → (w : Wanted) → w.identifier ≡ identified f → n * m.size < total (change_items ws k w) → NoRival m (changed_to w r.entries)

-- a drop always has room
abbrev pub Drop : Type 0
Drop =
    (m : Memory) (r : Reading) (fs : List Found) (f : Found) (gs : List Found) (p n : ℕ) (ws : List Wanted) (k : ℕ) → ItemAt m r fs f gs p n ws k
    → (behind : Behind) → Stands m p n behind
    → (total (drop_items ws k) ≤ n * m.size) × Becomes m (with_items m p n behind (drop_items ws k)) (dropped (identified f) r.entries)
