-- Tiles laid out anew, and why none takes less.
use Rattle.std.specs.Prelude.{◌≡◌, ℕ, ◌+◌, ◌≤◌, ◌⊎◌, List, [], ◌∷◌, ◌++◌, length, take, drop, Ok}
use Rattle.std.specs.List.{AllByRecursion}
use Rattle.sets.specs.Sets.{content, Tile, filler, holds, size}
use Rattle.sets.specs.Writing.{smallest, encode}
use Rattle.sets.specs.Scans.{Unpack, clean, scan, Found, placed}
use Rattle.sets.specs.Tilings.{span, Tiled, Ended}
use Rattle.sets.specs.Laws.{Writable}

-- tiles as they are written, end to end
abbrev pub written : Tile → List ℕ
written filler = 0x80 ∷ []
written (holds s) = encode s

unfoldable pub laid : List Tile → List ℕ
laid [] = []
laid (t ∷ ts) = written t ++ laid ts

-- a tile that can be written, and whose object unpacks
abbrev pub Layable : Unpack → Tile → Type 0
Layable u filler = Unit {0}
Layable u (holds s) = Writable s × ((object : List ℕ) × (u s.code s.object ≡ Ok object))

abbrev pub LaidTiles : Type 0
LaidTiles = (u : Unpack) (ts : List Tile) → AllByRecursion (Layable u) ts → Tiled u ts (laid ts) × (length (laid ts) ≡ span ts)

-- a gap between tiles, and one that runs to the end
abbrev pub GapLaid : Type 0
GapLaid =
    (u : Unpack) (xs : List ℕ) (before old after now : List Tile)
    → scan u xs ≡ clean (before ++ (old ++ after)) → AllByRecursion (Layable u) now → span now ≡ span old
    → scan u (take (span before) xs ++ (laid now ++ drop (span before + span old) xs)) ≡ clean (before ++ (now ++ after))

abbrev pub LastLaid : Type 0
LastLaid =
    (u : Unpack) (xs rest : List ℕ) (before old now : List Tile)
    → scan u xs ≡ clean (before ++ old) → AllByRecursion (Layable u) now → Ended rest
    → scan u (take (span before) xs ++ (laid now ++ rest)) ≡ clean (before ++ now)

-- the same bytes are the same tiles
abbrev pub SameTiles : Type 0
SameTiles = (u : Unpack) (ts rs : List Tile) (bs : List ℕ) → Tiled u ts bs → Tiled u rs bs → ts ≡ rs

-- tiles part at an address that no set lies across
abbrev pub Apart : ℕ → Found → Type 0
Apart a f = (f.at + size f.set ≤ a) ⊎ (a ≤ f.at)

abbrev pub PartAt : Type 0
PartAt = (ts : List Tile) (a : ℕ) → a ≤ span ts → AllByRecursion (Apart a) (placed 0 ts) → (before : List Tile) × (after : List Tile) × (ts ≡ before ++ after) × (span before ≡ a)

-- tiles take at least the smallest forms of their sets
unfoldable pub least_span : List Tile → ℕ
least_span [] = 0
least_span (filler ∷ ts) = least_span ts
least_span (holds s ∷ ts) = size (smallest (content s.name) s.code s.object) + least_span ts

abbrev pub Room : Type 0
Room = (u : Unpack) (ts : List Tile) (bs : List ℕ) → Tiled u ts bs → least_span ts ≤ length bs
