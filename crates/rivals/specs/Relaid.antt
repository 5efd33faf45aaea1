-- A gap laid out anew: only its own sets change.
use Rattle.std.specs.Prelude.{◌≡◌, ℕ, ◌+◌, ◌-◌, ◌*◌, ◌<◌, false, ◌⊎◌, List, [], ◌∷◌, ◌++◌, map, length, take, drop, Ok, filter, ◌≢◌, nat_le, nat_lt}
use Rattle.std.specs.Int.Digits.{AllBelowBase}
use Rattle.std.specs.List.{AllByRecursion}
use Rattle.sets.specs.Sets.{Tile, filler, holds}
use Rattle.sets.specs.Scans.{Found, placed, free}
use Rattle.sets.specs.Tilings.{Tiled, Ended}
use Rattle.sets.specs.Objects.{unpacked}
use Rattle.sets.specs.Readings.{Memory, Entry, Reading, found, entry, reads}
use Rattle.rivals.specs.Memories.{Shaped, Rival, Gap, seals, gap_entries}
use Rattle.rivals.specs.Rooms.{form, total, told}
use Rattle.rivals.specs.Promises.{Lies, gap_before, gap_behind}

-- what tiles say in open blocks
abbrev pub open_entries : List Tile → List Entry
open_entries [] = []
open_entries (filler ∷ ts) = open_entries ts
open_entries (holds s ∷ ts) = told s false ∷ open_entries ts

-- other bytes in n blocks from block p on
abbrev pub relaid : Memory → ℕ → ℕ → List ℕ → Memory
relaid m p n ns = record {
  size = m.size;
  locks = m.locks;
  bytes = take (p * m.size) m.bytes ++ (ns ++ drop ((p + n) * m.size) m.bytes);
}

-- bytes that suit a gap: tiles that fill it before a locked block; tiles and then nothing, or a 00, at the end of the memory
abbrev pub Suits : Memory → ℕ → ℕ → List ℕ → List Tile → Type 0
Suits m p n ns ts =
    ((p + n < length m.locks) × Tiled unpacked ts ns)
    ⊎ ((p + n ≡ length m.locks) × ((bs : List ℕ) × (rest : List ℕ) × (ns ≡ bs ++ rest) × Tiled unpacked ts bs × Ended rest))

-- the sets that begin before a gap, and those that begin behind it
abbrev pub sets_before : Memory → ℕ → List Found
sets_before m p = filter (λ f. nat_lt f.at (p * m.size)) (found m.bytes)

abbrev pub sets_from : Memory → ℕ → List Found
sets_from m p = filter (λ f. nat_le (p * m.size) f.at) (found m.bytes)

-- a list around a gap in which some entries stand
abbrev pub list_around : Memory → ℕ → ℕ → List Entry → List Entry
list_around m p n es = map (entry m) (sets_before m p) ++ (es ++ map (entry m) (sets_from m (p + n)))

-- no identifier stands twice
abbrev pub Distinct : List Entry → Type 0
Distinct [] = Unit {0}
Distinct (e ∷ es) = AllByRecursion (λ d. e.identifier ≢ d.identifier) es × Distinct es

abbrev pub ReadsDistinct : Type 0
ReadsDistinct = (m : Memory) (r : Reading) → reads m ≡ Ok r → Distinct r.entries

pub record Relaid (m : Memory) (r : Reading) (p n : ℕ) (ns : List ℕ) (ts : List Tile) : Type 0 where
  pub was : r.entries ≡ list_around m p n (gap_entries m p n)
  -- every byte outside the gap is as before, and so are the seals
  pub rival : Rival m (relaid m p n ns)
  pub seals : seals (relaid m p n ns) ≡ seals m
  -- only the sets of the gap are others, and the list changes in nothing else
  pub sets : found (relaid m p n ns).bytes ≡ sets_before m p ++ (placed (p * m.size) ts ++ sets_from m (p + n))
  pub now : Distinct (list_around m p n (open_entries ts)) → reads (relaid m p n ns) ≡ Ok (record { entries = list_around m p n (open_entries ts) })

-- bytes that suit a gap, put in its place
abbrev pub GapLaidAnew : Type 0
GapLaidAnew =
    (m : Memory) (r : Reading) → Shaped m → reads m ≡ Ok r → (p n : ℕ) → Gap m p n
    → (ns : List ℕ) (ts : List Tile) → length ns ≡ n * m.size → AllBelowBase 256 ns → Suits m p n ns ts → Relaid m r p n ns ts

-- around a set of the gap: others in its place there are others in its place in the list
abbrev pub PlaceInGap : Type 0
PlaceInGap =
    (m : Memory) (r : Reading) → Shaped m → reads m ≡ Ok r → (fs : List Found) (f : Found) (gs : List Found) (p n : ℕ) → Lies m fs f gs p n
    → (gap_entries m p n ≡ gap_before m fs ++ (entry m f ∷ gap_behind m gs))
    × ((es : List Entry) → list_around m p n (gap_before m fs ++ (es ++ gap_behind m gs)) ≡ map (entry m) fs ++ (es ++ map (entry m) gs))

-- behind the entries of the gap that runs to the end: others there are others at the end of the list
abbrev pub PlaceAtEnd : Type 0
PlaceAtEnd =
    (m : Memory) (r : Reading) → Shaped m → reads m ≡ Ok r → (p n : ℕ) → Gap m p n → p + n ≡ length m.locks
    → (es : List Entry) → list_around m p n (gap_entries m p n ++ es) ≡ r.entries ++ es

-- smallest forms in the gap that runs to the end leave free what no rival has more of
abbrev pub smallest_tiles : List Entry → List Tile
smallest_tiles es = map (λ e. holds (form 0 e)) es

abbrev pub FreeAfter : Type 0
FreeAfter =
    (m : Memory) (r : Reading) → Shaped m → reads m ≡ Ok r → (p n : ℕ) → Gap m p n → p + n ≡ length m.locks
    → (ns : List ℕ) (es : List Entry) → length ns ≡ n * m.size → AllBelowBase 256 ns → Suits m p n ns (smallest_tiles es)
    → free (length m.bytes) (found (relaid m p n ns).bytes) ≡ length m.bytes - p * m.size - total es
