-- The laws of reading and writing sets.
use Rattle.std.specs.Prelude.{◌≡◌, ℕ, ◌+◌, ◌<◌, ◌≤◌, true, List, ◌∷◌, ◌++◌, length, take, drop, Ok, Option}
use Rattle.std.specs.Int.Digits.{AllBelowBase}
use Rattle.codes.specs.Table.{code}
use Rattle.sets.specs.Sets.{Name, bare, byte, led, content, part, Set, Tile, filler, holds, size, name_at, object_at}
use Rattle.sets.specs.Parsing.{tile, arcs, parse}
use Rattle.sets.specs.Writing.{shortest, smallest, encode}
use Rattle.sets.specs.Scans.{Unpack, Refusal, scan, placed}
use Rattle.sets.specs.Tilings.{span, Tiled, Halts}
use Rattle.sets.specs.Objects.{unpacked, smallest_of}

-- a set depends on its own bytes only
abbrev pub OwnBytes : Type 0
OwnBytes = (xs : List ℕ) (s : Set) → parse xs ≡ tile (holds s) → (size s ≤ length xs) × ((ys : List ℕ) → parse (take (size s) xs ++ ys) ≡ tile (holds s))

-- an identifier's content: 1 to 32 bytes of whole arcs
pub record Proper (c : List ℕ) : Type 0 where
  pub some : 1 ≤ length c
  pub few : length c ≤ 32
  pub whole : arcs true c ≡ true

-- a number that fits its form
abbrev pub Fitting : Name → Type 0
Fitting (bare n) = (1 ≤ n) × (n ≤ 14)
Fitting (byte n) = (15 ≤ n) × (n ≤ 127)
Fitting (led c) = Proper c

-- a set that can be written
pub record Writable (s : Set) : Type 0 where
  pub extra : s.extra ≤ 256
  pub name : Fitting s.name
  pub code : s.code ≤ 7
  pub some : 1 ≤ length s.object
  pub few : length s.object ≤ 16383

-- what is written is read: in every form, with or without offset; in smallest form; and a filler
abbrev pub ComesBack : Type 0
ComesBack = (s : Set) (rest : List ℕ) → Writable s → parse (encode s ++ rest) ≡ tile (holds s)

abbrev pub SmallestComesBack : Type 0
SmallestComesBack =
    (c : List ℕ) (code : ℕ) (object rest : List ℕ) → Proper c → code ≤ 7 → 1 ≤ length object → length object ≤ 16383
    → (parse (encode (smallest c code object) ++ rest) ≡ tile (holds (smallest c code object))) × (content (shortest c) ≡ c)

abbrev pub FillerComesBack : Type 0
FillerComesBack = (rest : List ℕ) → parse (0x80 ∷ rest) ≡ tile filler

abbrev pub EncodedSize : Type 0
EncodedSize = (s : Set) → Writable s → length (encode s) ≡ size s

-- a scan is a tiling of a front of memory, up to what it halts at; and such a tiling is scanned
abbrev pub ScanTiles : Type 0
ScanTiles = (u : Unpack) (xs : List ℕ) → (bs : List ℕ) × (rest : List ℕ) × (xs ≡ bs ++ rest) × Tiled u (scan u xs).tiles bs × Halts u rest (length bs) (scan u xs).fault

abbrev pub TilesScan : Type 0
TilesScan =
    (u : Unpack) (ts : List Tile) (bs rest : List ℕ) (f : Option Refusal) → Tiled u ts bs → Halts u rest (length bs) f → scan u (bs ++ rest) ≡ record { tiles = ts; fault = f }

-- a run of tiles gives way to others of the same bytes; what stands before and behind stays where it was
abbrev pub Replaces : Type 0
Replaces =
    (u : Unpack) (xs new : List ℕ) (before old after now : List Tile) (f : Option Refusal)
    → scan u xs ≡ record { tiles = before ++ (old ++ after); fault = f } → Tiled u now new → length new ≡ span old
    → (scan u (take (span before) xs ++ (new ++ drop (span before + span old) xs)) ≡ record { tiles = before ++ (now ++ after); fault = f })
    × (placed 0 (before ++ (old ++ after)) ≡ placed 0 before ++ (placed (span before) old ++ placed (span before + span old) after))
    × (placed 0 (before ++ (now ++ after)) ≡ placed 0 before ++ (placed (span before) now ++ placed (span before + span old) after))

-- no set is shorter than the smallest form of its content and object
abbrev pub Floor : Type 0
Floor = (xs : List ℕ) (s : Set) → parse xs ≡ tile (holds s) → size (smallest (content s.name) s.code s.object) ≤ size s

-- which bytes of a memory the parts of a set at an address are
pub record Stands (xs : List ℕ) (at : ℕ) (s : Set) : Type 0 where
  pub name : part s.name ≡ take (length (part s.name)) (drop (name_at at s.extra s.name) xs)
  pub object : s.object ≡ take (length s.object) (drop (object_at at s) xs)

abbrev pub PartsStand : Type 0
PartsStand = (xs : List ℕ) (at : ℕ) (s : Set) → parse (drop at xs) ≡ tile (holds s) → Stands xs at s

-- no set, of whatever code, is shorter than the smallest form of the identifier, kind and object that it shows
abbrev pub ShowsLeast : Type 0
ShowsLeast =
    (xs : List ℕ) (at : ℕ) (s : Set) (object : List ℕ) → AllBelowBase 256 xs → s.code < 8 → parse (drop at xs) ≡ tile (holds s) → unpacked s.code s.object ≡ Ok object
    → size (smallest_of (content s.name) (code s.code).kind object) ≤ size s
