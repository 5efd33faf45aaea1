-- The laws of the calls: what a memory reads as after each, and why none is refused that a rival could grant.
use Rattle.std.specs.Prelude.{◌≡◌, ℕ, ◌-◌, ◌*◌, ◌<◌, ◌≤◌, true, false, List, [], length, Ok, slice_index_or}
use Rattle.sets.specs.Scans.{Found}
use Rattle.sets.specs.Readings.{Memory, Entry, Reading, identified, reads}
use Rattle.rivals.specs.Memories.{Shaped, Rival, Alone}
use Rattle.writing.specs.Forms.{Wanted}
use Rattle.layout.specs.Anew.{entry_of}
use Rattle.effects.specs.Lists.{Absent, put_list, dropped, sealed_list}
use Rattle.effects.specs.Bytes.{Given}
use Rattle.effects.specs.Gaps.{OpenSet, ReadsAs, Becomes, NoRival}
use Rattle.effects.specs.Blocks.{end_first, block_bytes}
use Rattle.effects.specs.Puts.{Put}
use Rattle.effects.specs.Changes.{changed_to}
use Rattle.effects.specs.Readies.{Ready}
use Rattle.effects.specs.Seals.{locking, Fills, Sealing}
use Rattle.effects.specs.Formats.{Blank}
use Rattle.effects.specs.Made.{end_room, set_room, put_wants, put_made, change_wants, change_made, drop_made, ready_wants, ready_made, ready_first, ready_blocks}

-- a memory of at most 1,024 bytes that reads as a list
pub record Legible (m : Memory) (r : Reading) : Type 0 where
  pub shaped : Shaped m
  pub few : length m.bytes ≤ 1024
  pub read : reads m ≡ Ok r

-- where the gap has room for what a call wants, the memory reads as the list after it
abbrev pub PutMakes : Type 0
PutMakes =
    (m : Memory) (r : Reading) → Legible m r → (w : Wanted) → Given w → Absent w.identifier r.entries → put_wants m w ≤ end_room m
    → Put m (put_made m w) (put_list r.entries (entry_of w)) (length m.bytes - end_first m * m.size - put_wants m w)

abbrev pub ChangeMakes : Type 0
ChangeMakes =
    (m : Memory) (r : Reading) → Legible m r → (f : Found) → OpenSet m f → (w : Wanted) → Given w → w.identifier ≡ identified f → change_wants m f w ≤ set_room m f
    → Becomes m (change_made m f w) (changed_to w r.entries)

abbrev pub DropMakes : Type 0
DropMakes = (m : Memory) (r : Reading) → Legible m r → (f : Found) → OpenSet m f → Becomes m (drop_made m f) (dropped (identified f) r.entries)

abbrev pub ReadyMakes : Type 0
ReadyMakes =
    (m : Memory) (r : Reading) → Legible m r → (f : Found) → OpenSet m f → m.size ≤ 256 → ready_wants m f ≤ set_room m f
    → Ready m (ready_made m f) r.entries (identified f) (ready_first m f) (ready_blocks m f)

-- where it has not, no rival does
abbrev pub PutRefused : Type 0
PutRefused = (m : Memory) (r : Reading) → Legible m r → (w : Wanted) → end_room m < put_wants m w → NoRival m (put_list r.entries (entry_of w))

abbrev pub ChangeRefused : Type 0
ChangeRefused =
    (m : Memory) (r : Reading) → Legible m r → (f : Found) → OpenSet m f → (w : Wanted) → w.identifier ≡ identified f → set_room m f < change_wants m f w
    → NoRival m (changed_to w r.entries)

abbrev pub ReadyRefused : Type 0
ReadyRefused =
    (m : Memory) (r : Reading) → Legible m r → (f : Found) → OpenSet m f → set_room m f < ready_wants m f
    → (m' : Memory) → Rival m m' → ReadsAs m' r.entries → Alone m' (identified f) → ⊥

-- with the blocks of a set locked that fills them, its entry is sealed; and a readied set fills the blocks that are pledged
abbrev pub SealMakes : Type 0
SealMakes =
    (m : Memory) (r : Reading) → Legible m r → (f : Found) (p n : ℕ) → Fills m f p n
    → Legible (locking m p n) (record { entries = sealed_list (identified f) r.entries }) × Sealing m r f p n

abbrev pub ReadiedSeals : Type 0
ReadiedSeals =
    (m : Memory) (r : Reading) → Legible m r → (f : Found) → OpenSet m f → m.size ≤ 256 → ready_wants m f ≤ set_room m f
    → Legible (locking (ready_made m f) (ready_first m f) (ready_blocks m f)) (record { entries = sealed_list (identified f) r.entries })

-- what becomes of a memory is one that the next call can read
abbrev pub StaysLegible : Type 0
StaysLegible = (m m' : Memory) (r : Reading) (l : List Entry) → Legible m r → Becomes m m' l → Legible m' (record { entries = l })

-- and every locked block has the bytes that it had
abbrev pub LockedKept : Type 0
LockedKept = (m m' : Memory) → Shaped m → Rival m m' → (k : ℕ) → slice_index_or m.locks k false ≡ true → block_bytes m' k ≡ block_bytes m k

-- a blank memory reads as the empty list
abbrev pub FormatMakes : Type 0
FormatMakes = (m : Memory) → Shaped m → length m.bytes ≤ 1024 → Blank m → Legible m (record { entries = [] })
