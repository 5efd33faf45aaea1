-- A memory from its start to its end: sets and fillers end to end. What unpacks an object is given.
use Rattle.std.specs.Prelude.{ℕ, zero, suc, ◌+◌, ◌-◌, List, [], ◌∷◌, length, drop, Some, None, Ok, Err, Option, Result}
use Rattle.sets.specs.Sets.{Set, Tile, filler, holds, size, wide}
use Rattle.sets.specs.Parsing.{Flaw, Step, end, tile, wrong, parse}

-- from a code and a packed object to the object
abbrev pub Unpack : Type 0
Unpack = ℕ → List ℕ → Result (List ℕ) Flaw

-- a set whose object does not unpack is at fault; this is looked at last
abbrev pub examined : Set → Result (List ℕ) Flaw → Step
examined s (Ok object) = tile (holds s)
examined s (Err flaw) = wrong flaw

abbrev pub checked : Unpack → Step → Step
checked u end = end
checked u (tile filler) = tile filler
checked u (tile (holds s)) = examined s (u s.code s.object)
checked u (wrong flaw) = wrong flaw

unfoldable pub next : Unpack → List ℕ → Step
next u bs = checked u (parse bs)

-- a flaw, and the place that is told with it
pub record Refusal : Type 0 where
  pub place : ℕ
  pub flaw : Flaw

-- the tiles of a memory, up to its end or to the first fault, whose place is the address of its set
pub record Scan : Type 0 where
  pub tiles : List Tile
  pub fault : Option Refusal

abbrev pub clean : List Tile → Scan
clean ts = record { tiles = ts; fault = None }

abbrev pub first : Tile → Scan → Scan
first t s = record { tiles = t ∷ s.tiles; fault = s.fault }

abbrev pub onward : ℕ → Step → (Tile → Scan) → Scan
onward at end more = clean []
onward at (tile t) more = first t (more t)
onward at (wrong flaw) more = record { tiles = []; fault = Some (record { place = at; flaw = flaw }) }

-- `turns` bounds the tiles that are looked for; they are no more than the bytes
unfoldable pub scan_by : Unpack → ℕ → ℕ → List ℕ → Scan
scan_by u zero at bs = clean []
scan_by u (suc turns) at bs = onward at (next u bs) (λ t. scan_by u turns (at + wide t) (drop (wide t) bs))

-- the bytes that stand from the address `at` on, and a whole memory
abbrev pub scan_at : Unpack → ℕ → List ℕ → Scan
scan_at u at bs = scan_by u (length bs) at bs

abbrev pub scan : Unpack → List ℕ → Scan
scan u bs = scan_at u 0 bs

-- sets with their addresses, where tiles stand end to end from `at` on
pub record Found : Type 0 where
  pub at : ℕ
  pub set : Set

unfoldable pub placed : ℕ → List Tile → List Found
placed at [] = []
placed at (filler ∷ ts) = placed (at + 1) ts
placed at (holds s ∷ ts) = record { at = at; set = s } ∷ placed (at + size s) ts

-- the address behind the last set, 0 without sets; and the bytes that are free in a memory of n
abbrev pub behind : Found → ℕ
behind f = f.at + size f.set

abbrev pub used_from : ℕ → List Found → ℕ
used_from a [] = a
used_from a (f ∷ fs) = used_from (behind f) fs

abbrev pub used : List Found → ℕ
used fs = used_from 0 fs

abbrev pub free : ℕ → List Found → ℕ
free n fs = n - used fs
