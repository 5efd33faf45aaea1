-- Why no other memory does better.
use Rattle.std.specs.Prelude.{◌≡◌, ℕ, ◌+◌, ◌-◌, ◌*◌, ◌<◌, ◌≤◌, false, List, [], ◌∷◌, ◌++◌, map, length, Ok, ◌≢◌}
use Rattle.sets.specs.Sets.{size}
use Rattle.sets.specs.Scans.{Found, free}
use Rattle.sets.specs.Readings.{Memory, Entry, Reading, found, sealed, identified, entry, reads}
use Rattle.rivals.specs.Memories.{Shaped, Rival, Gap, seals, seals_before, gap_entries, Alone}
use Rattle.rivals.specs.Rooms.{least, total, part, after_last, whole}

-- an open set lies within one gap
abbrev pub OpenInGap : Type 0
OpenInGap =
    (m : Memory) (r : Reading) → Shaped m → reads m ≡ Ok r
    → (fs : List Found) (f : Found) (gs : List Found) → found m.bytes ≡ fs ++ (f ∷ gs) → sealed m f ≡ false
    → (p : ℕ) × (n : ℕ) × Gap m p n × (p * m.size ≤ f.at) × (f.at + size f.set ≤ (p + n) * m.size)

-- rivals have the same sealed sets at the same addresses
abbrev pub SealsAlike : Type 0
SealsAlike = (m m' : Memory) (r r' : Reading) → Shaped m → Rival m m' → reads m ≡ Ok r → reads m' ≡ Ok r' → seals m' ≡ seals m

-- so the open entries of a gap are a part of the list that the seals alone pick, in every rival;
abbrev pub GapIsPart : Type 0
GapIsPart =
    (m m' : Memory) (r r' : Reading) → Shaped m → Rival m m' → reads m ≡ Ok r → reads m' ≡ Ok r'
    → (p n : ℕ) → Gap m p n → gap_entries m' p n ≡ part (seals_before m p) r'.entries

-- where lists are equal, each gap has the same open entries;
abbrev pub GapsAlike : Type 0
GapsAlike = (m m' : Memory) (r : Reading) → Shaped m → Rival m m' → reads m ≡ Ok r → reads m' ≡ Ok r → (p n : ℕ) → Gap m p n → gap_entries m' p n ≡ gap_entries m p n

-- in the gap that runs to the end they are what follows the last sealed entry
abbrev pub LastIsRest : Type 0
LastIsRest = (m m' : Memory) (r' : Reading) → Shaped m → Rival m m' → reads m' ≡ Ok r' → (p n : ℕ) → Gap m p n → p + n ≡ length m.locks → gap_entries m' p n ≡ after_last r'.entries

-- the smallest forms of a gap's entries have room in it, in every rival
abbrev pub Room : Type 0
Room = (m m' : Memory) (r' : Reading) → Shaped m → Rival m m' → reads m' ≡ Ok r' → (p n : ℕ) → Gap m p n → total (gap_entries m' p n) ≤ n * m.size

-- so no rival reads as a list of which the gap's part needs more
abbrev pub NoRoom : Type 0
NoRoom =
    (m : Memory) (r : Reading) → Shaped m → reads m ≡ Ok r → (p n : ℕ) → Gap m p n
    → (l : List Entry) → n * m.size < total (part (seals_before m p) l) → (m' : Memory) → Rival m m' → reads m' ≢ Ok (record { entries = l })

-- a put: no rival reads as a list with one entry more at its end, where that needs more than the gap that runs to the end
abbrev pub NoRoomToPut : Type 0
NoRoomToPut =
    (m : Memory) → Shaped m → (p n : ℕ) → Gap m p n → p + n ≡ length m.locks
    → (l : List Entry) (e : Entry) → e.sealed ≡ false → n * m.size < total (after_last l) + least e
    → (m' : Memory) → Rival m m' → reads m' ≢ Ok (record { entries = l ++ (e ∷ []) })

-- an open set of a memory, the sets before and behind it, and the gap that it lies in
pub record Lies (m : Memory) (fs : List Found) (f : Found) (gs : List Found) (p n : ℕ) : Type 0 where
  pub among : found m.bytes ≡ fs ++ (f ∷ gs)
  pub unsealed : sealed m f ≡ false
  pub gap : Gap m p n
  pub from : p * m.size ≤ f.at
  pub to : f.at < (p + n) * m.size

-- what stands in its gap before it, and behind it
abbrev pub gap_before : Memory → List Found → List Entry
gap_before m fs = after_last (map (entry m) fs)

abbrev pub gap_behind : Memory → List Found → List Entry
gap_behind m gs = part 0 (map (entry m) gs)

-- a change: no rival reads as the list with that entry another, where that needs more than its gap
abbrev pub NoRoomToChange : Type 0
NoRoomToChange =
    (m : Memory) (r : Reading) → Shaped m → reads m ≡ Ok r → (fs : List Found) (f : Found) (gs : List Found) (p n : ℕ) → Lies m fs f gs p n
    → (e : Entry) → e.sealed ≡ false → n * m.size < total (gap_before m fs) + least e + total (gap_behind m gs)
    → (m' : Memory) → Rival m m' → reads m' ≢ Ok (record { entries = map (entry m) fs ++ (e ∷ map (entry m) gs) })

-- no rival that reads as a list has more free bytes than the smallest forms after its last sealed entry leave
abbrev pub MostFree : Type 0
MostFree =
    (m m' : Memory) (r' : Reading) → Shaped m → Rival m m' → reads m' ≡ Ok r' → (p n : ℕ) → Gap m p n → p + n ≡ length m.locks
    → free (length m'.bytes) (found m'.bytes) ≤ length m.bytes - p * m.size - total (after_last r'.entries)

-- a set alone on whole blocks starts on the first block behind the smallest forms before it, and takes whole blocks
abbrev pub ReadiedNeeds : Type 0
ReadiedNeeds =
    (m : Memory) (r : Reading) → Shaped m → reads m ≡ Ok r → (fs : List Found) (f : Found) (gs : List Found) (p n : ℕ) → Lies m fs f gs p n
    → (m' : Memory) → Rival m m' → reads m' ≡ Ok r → Alone m' (identified f)
    → whole m.size (total (gap_before m fs)) + whole m.size (least (entry m f)) + total (gap_behind m gs) ≤ n * m.size
